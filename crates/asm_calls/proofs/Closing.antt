-- Closure step by step: what reaches the m-th definition reaches all that it reaches.
use Rattle.std.proofs.Common.{◌≡◌, ℕ, zero, suc, ◌<◌, ◌≤◌, Bool, true, false, ◌||◌, ◌&&◌}
use Rattle.std.proofs.Common.{◌⊎◌, inl, inr, length, refl, sym, subst, ◌∙◌, arith}
use Rattle.std.proofs.lemmas.Bool.{or_left, or_right, and_parts, and_from}
use Rattle.asm_program.specs.Calls.{CallGraph, reaches}
use Rattle.asm_calls.specs.Orders.{calls}
use Rattle.asm_calls.proofs.Reaching.{same_number, either, Reaches, step_from, by_call, via, inside, few}

same_tests : (a b : Bool) → (a ≡ true → b ≡ true) → (b ≡ true → a ≡ true) → a ≡ b
same_tests true b f g = sym (f refl)
same_tests false true f g = g refl
same_tests false false f g = refl

last_or_below : (i n : ℕ) → i < suc n → (i ≡ n) ⊎ (i < n)
last_or_below i n h = grind (arith, h)

module _ (graph : CallGraph) (has : ℕ → ℕ → ℕ → Bool)
    (first : (i j : ℕ) → i < length graph → j < length graph → has 0 i j ≡ calls graph i j)
    (next : (m i j : ℕ) → m < length graph → i < length graph → j < length graph
    → has (suc m) i j ≡ (has m i j || (has m i m && has m m j))) where
  more : (m i j : ℕ) → m < length graph → i < length graph → j < length graph
      → has m i j ≡ true → has (suc m) i j ≡ true
  more m i j low a b h =
      next m i j low a b ∙ or_left (has m i j) (has m i m && has m m j) h

  through : (m i j : ℕ) → m < length graph → i < length graph → j < length graph
      → has m i m ≡ true → has m m j ≡ true → has (suc m) i j ≡ true
  through m i j low a b h k =
      next m i j low a b
      ∙ or_right (has m i j) (has m i m && has m m j) (and_from (has m i m) (has m m j) h k)

  either_way : (m i j : ℕ) → m < length graph → i < length graph → j < length graph
      → has (suc m) i j ≡ true → (has m i j ≡ true) ⊎ ((has m i m && has m m j) ≡ true)
  either_way m i j low a b h =
      either (has m i j) (has m i m && has m m j) (sym (next m i j low a b) ∙ h)

  from_first : (m i j : ℕ) → m ≤ length graph → i < length graph → j < length graph
      → calls graph i j ≡ true → has m i j ≡ true
  from_first zero i j low a b c = first i j a b ∙ c
  from_first (suc m) i j low a b c =
      more m i j (omega (arith, low)) a b (from_first m i j (omega (arith, low)) a b c)

  sound : (m i j : ℕ) → m ≤ length graph → i < length graph → j < length graph
      → has m i j ≡ true → Reaches graph i j
  sound zero i j low a b h = by_call graph i j (sym (first i j a b) ∙ h)
  sound (suc m) i j low a b h =
      let within : m < length graph = omega (arith, low) in
      elim (either_way m i j within a b h) [
        | inl before ↦ sound m i j (omega (arith, low)) a b before
        | inr both ↦
            let parts = and_parts (has m i m) (has m m j) both in
            via graph i m j (sound m i m (omega (arith, low)) a within parts.0)
            (sound m m j (omega (arith, low)) within b parts.1)
      ]

  -- what is reached by way of an earlier one is reached
  closed : (m k i j : ℕ) → m ≤ length graph → k < m → i < length graph → j < length graph
      → has m i k ≡ true → has m k j ≡ true → has m i j ≡ true
  closed zero k i j low l a b f g = absurd (omega (arith, l))
  closed (suc m) k i j low l a b f g =
      let within : m < length graph = omega (arith, low) in
      let inner : k < length graph = omega (arith, low, l) in
      elim (last_or_below k m l) [
        | inl e ↦
            let to : has m i m ≡ true = elim (either_way m i k within a inner f) [
              | inl h ↦ subst (λ x. has m i x ≡ true) e h
              | inr both ↦ (and_parts (has m i m) (has m m k) both).0
            ] in
            let from : has m m j ≡ true = elim (either_way m k j within inner b g) [
              | inl h ↦ subst (λ x. has m x j ≡ true) e h
              | inr both ↦ (and_parts (has m k m) (has m m j) both).1
            ] in
            through m i j within a b to from
        | inr below ↦
            let lower : m ≤ length graph = omega (arith, low) in
            elim (either_way m i k within a inner f) [
              | inl h ↦ elim (either_way m k j within inner b g) [
                | inl h2 ↦ more m i j within a b (closed m k i j lower below a b h h2)
                | inr both ↦
                    let parts = and_parts (has m k m) (has m m j) both in
                    through m i j within a b (closed m k i m lower below a within h parts.0) parts.1
              ]
              | inr both ↦
                  let parts = and_parts (has m i m) (has m m k) both in
                  elim (either_way m k j within inner b g) [
                    | inl h2 ↦ through m i j within a b parts.0
                        (closed m k m j lower below within b parts.1 h2)
                    | inr both2 ↦ through m i j within a b parts.0
                        (and_parts (has m k m) (has m m j) both2).1
                  ]
            ]
      ]

  complete : (n i j : ℕ) → j < length graph → reaches graph n i j ≡ true
      → has (length graph) i j ≡ true
  complete zero i j b h = absurd (cc)
  complete (suc n) i j b h =
      let a = inside graph (suc n) i j h in
      let s = step_from graph n i j h in
      let whole : length graph ≤ length graph = omega arith in
      elim s.rest [
        | inl e ↦ from_first (length graph) i j whole a b
            (subst (λ k. calls graph i k ≡ true) (same_number s.next j e) s.called)
        | inr r ↦
            let c = inside graph n s.next j r in
            closed (length graph) s.next i j whole c a b
            (from_first (length graph) i s.next whole a c s.called) (complete n s.next j b r)
      ]

  pub closed_reaches : (i j : ℕ) → i < length graph → j < length graph
      → has (length graph) i j ≡ reaches graph (length graph) i j
  closed_reaches i j a b = same_tests (has (length graph) i j) (reaches graph (length graph) i j)
      (λ h. few graph i j (sound (length graph) i j (omega arith) a b h))
      (λ h. complete (length graph) i j b h)
