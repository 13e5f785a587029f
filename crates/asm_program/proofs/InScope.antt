-- Which variable a name is found as: the innermost that has it.
use Rattle.std.proofs.Common.{◌≡◌, ◌⊎◌, inl, inr, ℕ, ◌+◌, Bool, true, false, if◌then◌else◌, Option}
use Rattle.std.proofs.Common.{Some, None, List, [], ◌∷◌, refl, sym, ap, ◌∙◌}
use Rattle.std.specs.Str.{bytes_eq}
use Rattle.std.proofs.lemmas.Bool.{true≢false}
use Rattle.std.proofs.lemmas.Slice.Eq.{bytes_eq-Decides}
use Rattle.asm_typing.specs.declared.types.Type.{«Type» as TermType}
use Rattle.asm_program.specs.TypedTerms.{Variables, variable_from, variable_at}
use Rattle.asm_program.specs.HasType.{IsFree, IsInScope}

same_type : (i : ℕ) (s : TermType) (r : ℕ × TermType) → Some (i, s) ≡ Some r → s ≡ r.1
same_type i s r h = ap (λ (o : Option (ℕ × TermType)). elim o as (λ _. TermType)
    [ None ↦ s | Some x ↦ x.1 ]) h

-- where something is found, it is the type of the innermost variable, or what was found before
found_from : (i : ℕ) (vs : Variables) (name : List ℕ) (before : Option (ℕ × TermType))
    (r : ℕ × TermType) → variable_from i vs name before ≡ Some r
    → IsInScope vs name r.1 ⊎ (IsFree vs name × (before ≡ Some r))
found_from i [] name before r h = inr (tt, h)
found_from i (v ∷ vs) name before r h =
    elim (found_from (i + 1) vs name (if bytes_eq v.0 name then Some (i, v.1) else before) r h) [
      | inl inner ↦ inl (inl inner)
      | inr here ↦ by_test (bytes_eq v.0 name) refl here.0 here.1
    ]
  where
    by_test : (b : Bool) → bytes_eq v.0 name ≡ b → IsFree vs name
        → (if b then Some (i, v.1) else before) ≡ Some r
        → IsInScope (v ∷ vs) name r.1 ⊎ (IsFree (v ∷ vs) name × (before ≡ Some r))
    by_test true same free e =
        inl (inr ((bytes_eq-Decides v.0 name).0 same, same_type i v.1 r e, free))
    by_test false differ free e =
        inr (((λ same. true≢false (sym ((bytes_eq-Decides v.0 name).1 same) ∙ differ)), free), e)

free_from : (i : ℕ) (vs : Variables) (name : List ℕ) (before : Option (ℕ × TermType))
    → IsFree vs name → variable_from i vs name before ≡ before
free_from i [] name before free = refl
free_from i (v ∷ vs) name before free =
    by_test (bytes_eq v.0 name) refl (free_from (i + 1) vs name before free.1)
  where
    by_test : (b : Bool) → bytes_eq v.0 name ≡ b
        → variable_from (i + 1) vs name before ≡ before
        → variable_from (i + 1) vs name (if b then Some (i, v.1) else before) ≡ before
    by_test true same rest = absurd (free.0 ((bytes_eq-Decides v.0 name).0 same))
    by_test false differ rest = rest

scope_from : (i : ℕ) (vs : Variables) (name : List ℕ) (before : Option (ℕ × TermType))
    (s : TermType) → IsInScope vs name s
    → (j : ℕ) × (variable_from i vs name before ≡ Some (j, s))
scope_from i [] name before s h = absurd h
scope_from i (v ∷ vs) name before s (inl inner) =
    scope_from (i + 1) vs name (if bytes_eq v.0 name then Some (i, v.1) else before) s inner
scope_from i (v ∷ vs) name before s (inr here) = (
  i,
  ap (λ b. variable_from (i + 1) vs name (if b then Some (i, v.1) else before))
      ((bytes_eq-Decides v.0 name).1 here.0)
      ∙ free_from (i + 1) vs name (Some (i, v.1)) here.2
      ∙ ap (λ t. Some (i, t)) here.1,
)

pub in_scope : (variables : Variables) (name : List ℕ) (r : ℕ × TermType)
    → variable_at variables name ≡ Some r → IsInScope variables name r.1
in_scope variables name r h = elim (found_from 0 variables name None r h) [
  | inl inner ↦ inner
  | inr none ↦ absurd (nothing r none.1)
]
  where
    nothing : (r : ℕ × TermType) → None ≡ Some r → ⊥
    nothing r h = absurd (cc)

pub scope_in : (variables : Variables) (name : List ℕ) (s : TermType)
    → IsInScope variables name s → (i : ℕ) × (variable_at variables name ≡ Some (i, s))
scope_in variables name s h = scope_from 0 variables name None s h
