-- The combinations at which a guard is true, and the one of them that is picked.
use Rattle.std.proofs.Common.{◌≡◌, ℕ, zero, suc, ◌+◌, ◌<◌, inl, inr, Bool, true, false}
use Rattle.std.proofs.Common.{if◌then◌else◌, Option, Some, None, List, [], ◌∷◌, length, slice_get}
use Rattle.std.proofs.Common.{refl, sym, ap, subst, ◌∙◌, arith}
use Rattle.std.proofs.lemmas.Nat.{mod_below}
use Rattle.asm_value.specs.declared.value.Value.{Value}
use Rattle.asm_value.specs.Ranges.{Mem}
use Rattle.asm_value.specs.Living.{is_true}
use Rattle.asm_program.specs.declared.outcome.Outcome.{Outcome}
use Rattle.asm_program.specs.declared.outcome.Outcome.TheVariants as outcome
use Rattle.asm_program.specs.Yields.{Satisfying, Found, Faulted, add_found, then_found, satisfying}
use Rattle.asm_program.specs.Yields.{picked}

same_found : (xs ys : List (List Value)) → Found xs ≡ Found ys → xs ≡ ys
same_found xs ys h = cc

module _ (guard : List Value → Outcome) where
  -- the guard has a value, and is true
  abbrev pub IsTrueAt : List Value → Type 0
  IsTrueAt c = (w : Value) × (guard c ≡ outcome.Value w) × (is_true w ≡ true)

  -- the guard has a value, and isn't true
  abbrev pub FailsAt : List Value → Type 0
  FailsAt c = (w : Value) × (guard c ≡ outcome.Value w) × (is_true w ≡ false)

  -- the first combination, and what is found among the others
  record First (d : List Value) (cs fs : List (List Value)) : Type 0 where
    pub value : Value
    pub gives : guard d ≡ outcome.Value value
    pub later : List (List Value)
    pub found : satisfying guard cs ≡ Found later
    pub is : (if is_true value then d ∷ later else later) ≡ fs

  first_of : (d : List Value) (cs fs : List (List Value)) → satisfying guard (d ∷ cs) ≡ Found fs
      → First d cs fs
  first_of d cs fs e = by_guard (guard d) refl (satisfying guard cs) refl e
    where
      by_rest : (v : Value) → guard d ≡ outcome.Value v → (rest : Satisfying)
          → satisfying guard cs ≡ rest
          → add_found v d rest ≡ Found fs → First d cs fs
      by_rest v g (Found gs) r h = record {
        value = v;
        gives = g;
        later = gs;
        found = r;
        is = same_found (if is_true v then d ∷ gs else gs) fs h;
      }
      by_rest v g (Faulted f) r h = absurd (cc)

      by_guard : (o : Outcome) → guard d ≡ o → (rest : Satisfying) → satisfying guard cs ≡ rest
          → then_found o d rest ≡ Found fs → First d cs fs
      by_guard (outcome.Value v) g rest r h = by_rest v g rest r h
      by_guard (outcome.Fault f) g rest r h = absurd (cc)

  -- the guard is true at what is found
  pub found_at : (cs fs : List (List Value)) → satisfying guard cs ≡ Found fs → (c : List Value)
      → Mem c fs
      → Mem c cs × IsTrueAt c
  found_at [] fs e c m = absurd (subst (Mem c) (sym (same_found [] fs e)) m)
  found_at (d ∷ cs) fs e c m =
      let f = first_of d cs fs e in
      by_truth f.value f.gives f.later (is_true f.value) refl (subst (Mem c) (sym f.is) m)
      (λ k. found_at cs f.later f.found c k)
    where
      by_truth : (v : Value) → guard d ≡ outcome.Value v → (gs : List (List Value)) → (b : Bool)
          → is_true v ≡ b
          → Mem c (if b then d ∷ gs else gs) → (Mem c gs → Mem c cs × IsTrueAt c)
          → Mem c (d ∷ cs) × IsTrueAt c
      by_truth v g gs true t k go =
          elim k [
            | inl is ↦ (inl is, (v, ap guard is ∙ g, t))
            | inr l ↦ let s = go l in (inr s.0, s.1)
          ]
      by_truth v g gs false t k go = let s = go k in (inr s.0, s.1)

  -- where nothing is found, it has a value that isn't true at each
  pub none_at : (cs : List (List Value)) → satisfying guard cs ≡ Found [] → (c : List Value)
      → Mem c cs → FailsAt c
  none_at [] e c m = absurd m
  none_at (d ∷ cs) e c m =
      let f = first_of d cs [] e in
      by_truth f.value f.gives f.later (is_true f.value) refl f.is
      (λ is k. none_at cs (f.found ∙ ap (λ z. Found z) is) c k)
    where
      by_truth : (v : Value) → guard d ≡ outcome.Value v → (gs : List (List Value)) → (b : Bool)
          → is_true v ≡ b
          → (if b then d ∷ gs else gs) ≡ [] → (gs ≡ [] → Mem c cs → FailsAt c) → FailsAt c
      by_truth v g gs true t h go = absurd (cc)
      by_truth v g gs false t h go = elim m [ inl is ↦ (v, ap guard is ∙ g, t) | inr k ↦ go h k ]

-- ---- the one that is picked

pub got_is_mem : (xs : List (List Value)) (i : ℕ) (x : List Value) → slice_get xs i ≡ Some x
    → Mem x xs
got_is_mem [] i x e = absurd (cc)
got_is_mem (y ∷ xs) zero x e = inl (cc)
got_is_mem (y ∷ xs) (suc i) x e = inr (got_is_mem xs i x e)

picked_within : (pick : Option ℕ) (place count : ℕ) → 0 < count → picked pick place count < count
picked_within None place count h = h
picked_within (Some s) place count h = mod_below (s + place) count h

some_there : (xs : List (List Value)) (i : ℕ) → i < length xs → slice_get xs i ≡ None → ⊥
some_there [] i h g = absurd (omega (arith, h))
some_there (x ∷ xs) zero h g = absurd (cc)
some_there (x ∷ xs) (suc i) h g = some_there xs i (omega (arith, h)) g

-- none is picked where none is found
pub none_picked : (pick : Option ℕ) (place : ℕ) (fs : List (List Value))
    → slice_get fs (picked pick place (length fs)) ≡ None → fs ≡ []
none_picked pick place [] e = refl
none_picked pick place (f ∷ fs) e =
    absurd (some_there (f ∷ fs) (picked pick place (length (f ∷ fs)))
    (picked_within pick place (length (f ∷ fs)) (omega arith)) e)
