-- What definitions reach by calls: more calls reach no less, calls go on from one another, and no
-- more calls are needed than there are definitions.
use Rattle.std.proofs.Common.{◌≡◌, ℕ, zero, suc, ◌<◌, ◌≤◌, ◌==◌, Bool, true, false, ◌||◌, ◌⊎◌}
use Rattle.std.proofs.Common.{inl, inr, Option, None, List, [], ◌∷◌, length, slice_get, refl}
use Rattle.std.proofs.Common.{sym, ap, subst, ◌∙◌, arith}
use Rattle.std.specs.Option.{option_map_or}
use Rattle.std.specs.List.{list_any}
use Rattle.std.proofs.lemmas.Bool.{or_left, or_right}
use Rattle.std.proofs.lemmas.Bool.Decides.{nat_tests}
use Rattle.std.proofs.lemmas.Option.{slice_get_past}
use Rattle.asm_program.specs.Calls.{CallGraph, calls_of, reaches}
use Rattle.asm_calls.specs.Orders.{calls, NoneRecursive, ReachesByFew, count_below, reached, Ranks}
use Rattle.asm_calls.proofs.Counted.{count_fewer, count_same}
use Rattle.asm_calls.proofs.Counted.{count_full, count_not_full}

pub same_number : (i j : ℕ) → (i == j) ≡ true → i ≡ j
same_number i j h = grind (arith, nat_tests, h)

pub itself : (i : ℕ) → (i == i) ≡ true
itself i = grind (arith, nat_tests)

pub either : (a b : Bool) → (a || b) ≡ true → (a ≡ true) ⊎ (b ≡ true)
either true b h = inl refl
either false b h = inr h

-- ---- members of a list of numbers

abbrev pub is_in : List ℕ → ℕ → Bool
is_in xs k = list_any (λ x. x == k) xs

pub record Passes (p : ℕ → Bool) (xs : List ℕ) : Type 0 where
  pub which : ℕ
  pub member : is_in xs which ≡ true
  pub passes : p which ≡ true

pub any_from : (p : ℕ → Bool) (xs : List ℕ) → list_any p xs ≡ true → Passes p xs
any_from p [] h = absurd (cc)
any_from p (x ∷ xs) h = elim (either (p x) (list_any p xs) h) [
  | inl t ↦ record { which = x; member = or_left (x == x) (is_in xs x) (itself x); passes = t }
  | inr t ↦
      let rest = any_from p xs t in
      record {
        which = rest.which;
        member = or_right (x == rest.which) (is_in xs rest.which) rest.member;
        passes = rest.passes;
      }
]

pub any_to : (p : ℕ → Bool) (xs : List ℕ) (k : ℕ) → is_in xs k ≡ true → p k ≡ true
    → list_any p xs ≡ true
any_to p [] k m t = absurd (cc)
any_to p (x ∷ xs) k m t = elim (either (x == k) (is_in xs k) m) [
  | inl e ↦ or_left (p x) (list_any p xs) (ap p (same_number x k e) ∙ t)
  | inr later ↦ or_right (p x) (list_any p xs) (any_to p xs k later t)
]

module _ (graph : CallGraph) where
  -- some number of calls
  pub record Reaches (i j : ℕ) : Type 0 where
    pub most : ℕ
    pub so : reaches graph most i j ≡ true

  pub step_to : (n i k j : ℕ) → calls graph i k ≡ true → ((k == j) || reaches graph n k j) ≡ true
      → reaches graph (suc n) i j ≡ true
  step_to n i k j c h = any_to (λ l. (l == j) || reaches graph n l j) (calls_of graph i) k c h

  pub record Step (n i j : ℕ) : Type 0 where
    pub next : ℕ
    pub called : calls graph i next ≡ true
    pub rest : ((next == j) ≡ true) ⊎ (reaches graph n next j ≡ true)

  pub step_from : (n i j : ℕ) → reaches graph (suc n) i j ≡ true → Step n i j
  step_from n i j h =
      let p = any_from (λ l. (l == j) || reaches graph n l j) (calls_of graph i) h in
      record {
        next = p.which;
        called = p.member;
        rest = either (p.which == j) (reaches graph n p.which j) p.passes;
      }

  pub step_here : (n i k j : ℕ) → calls graph i k ≡ true → (k == j) ≡ true
      → reaches graph (suc n) i j ≡ true
  step_here n i k j c e = step_to n i k j c (or_left (k == j) (reaches graph n k j) e)

  pub step_on : (n i k j : ℕ) → calls graph i k ≡ true → reaches graph n k j ≡ true
      → reaches graph (suc n) i j ≡ true
  step_on n i k j c r = step_to n i k j c (or_right (k == j) (reaches graph n k j) r)

  pub by_call : (i j : ℕ) → calls graph i j ≡ true → Reaches i j
  by_call i j c = record { most = 1; so = step_here 0 i j j c (itself j) }

  pub reach_more : (n i j : ℕ) → reaches graph n i j ≡ true → reaches graph (suc n) i j ≡ true
  reach_more zero i j h = absurd (cc)
  reach_more (suc n) i j h =
      let s = step_from n i j h in elim s.rest [
        | inl e ↦ step_here (suc n) i s.next j s.called e
        | inr r ↦ step_on (suc n) i s.next j s.called (reach_more n s.next j r)
      ]

  pub via_by : (m i k j : ℕ) → reaches graph m i k ≡ true → Reaches k j → Reaches i j
  via_by zero i k j h later = absurd (cc)
  via_by (suc m) i k j h later =
      let s = step_from m i k h in elim s.rest [
        | inl e ↦
            let at = subst (λ l. Reaches l j) (sym (same_number s.next k e)) later in
            record { most = suc at.most; so = step_on at.most i s.next j s.called at.so }
        | inr r ↦
            let at = via_by m s.next k j r later in
            record { most = suc at.most; so = step_on at.most i s.next j s.called at.so }
      ]

  pub via : (i k j : ℕ) → Reaches i k → Reaches k j → Reaches i j
  via i k j first later = via_by first.most i k j first.so later

  -- ---- what is no definition calls none

  none_called : (o : Option (List ℕ)) → o ≡ None → option_map_or (λ (js : List ℕ). js) o [] ≡ []
  none_called o e = ap (λ p. option_map_or (λ (js : List ℕ). js) p []) e

  pub outside : (n i j : ℕ) → length graph ≤ i → reaches graph n i j ≡ false
  outside zero i j out = refl
  outside (suc n) i j out =
      ap (list_any (λ k. (k == j) || reaches graph n k j))
      (none_called (slice_get graph i) (slice_get_past graph i out))

  pub inside : (n i j : ℕ) → reaches graph n i j ≡ true → i < length graph
  inside n i j h = elim (low_or_high i (length graph)) [
    | inl low ↦ low
    | inr high ↦ let out = outside n i j high in absurd (cc)
  ]
    where
      low_or_high : (a b : ℕ) → (a < b) ⊎ (b ≤ a)
      low_or_high a b = grind arith

  -- ---- no more calls than definitions

  module _ (j : ℕ) where
    abbrev reach : ℕ → ℕ → Bool
    reach n i = reaches graph n i j

    -- more calls than these reach no more
    abbrev Settled : ℕ → Type 0
    Settled m = (n i : ℕ) → reach n i ≡ true → reach m i ≡ true

    settled_by : (m : ℕ) → ((i : ℕ) → reach (suc m) i ≡ true → reach m i ≡ true) → Settled m
    settled_by m stable zero i h = absurd (cc)
    settled_by m stable (suc n) i h =
        let s = step_from n i j h in
        stable i (elim s.rest [
          | inl e ↦ step_here m i s.next j s.called e
          | inr r ↦ step_on m i s.next j s.called (settled_by m stable n s.next r)
        ])

    more_or_same : (a b : ℕ) → (a < b) ⊎ (b ≤ a)
    more_or_same a b = grind arith

    settles : (m : ℕ) → (m ≤ count_below (reach m) (length graph)) ⊎ Settled m
    settles zero = inl (omega arith)
    settles (suc m) = elim (settles m) [
      | inr s ↦ inr (λ n i h. reach_more m i j (s n i h))
      | inl low ↦ elim (more_or_same (count_below (reach m) (length graph)) (count_below (reach
          (suc m)) (length graph))) [
            | inl more ↦ inl (omega (arith, low, more))
            | inr same ↦ inr (λ n i h. reach_more m i j (settled_by m (λ k r.
                count_same (reach m) (reach (suc m)) (length graph) (λ l low_ t. reach_more m l j t)
                same k (inside (suc m) k j r) r) n i h))
          ]
    ]

    all_settled : Settled (length graph)
    all_settled = elim (settles (length graph)) [
      | inl full ↦ λ n i h. count_full (reach (length graph)) (length graph) full i
          (inside n i j h)
      | inr s ↦ s
    ]

  pub by_few : ReachesByFew graph
  by_few n i j h = all_settled j n i h

  pub few : (i j : ℕ) → Reaches i j → reaches graph (length graph) i j ≡ true
  few i j r = by_few r.most i j r.so

  -- ---- ranks

  pub reached_ranks : NoneRecursive graph → Ranks graph (reached graph)
  reached_ranks none = record {
    below = λ i low. count_not_full (reaches graph (length graph) i) (length graph) i low (none i);
    falls = λ i j low c. count_fewer (reaches graph (length graph) j)
        (reaches graph (length graph) i) (length graph)
        (λ k l h. few i k (via i j k (by_call i j c) (record { most = length graph; so = h })))
        j low (none j) (few i j (by_call i j c));
  }
