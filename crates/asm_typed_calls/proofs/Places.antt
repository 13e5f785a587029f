-- The first definition that passes a test.
use Rattle.std.proofs.Common.{◌≡◌, ℕ, suc, ◌+◌, Bool, true, false, cond, Some, List}
use Rattle.std.proofs.Common.{◌∷◌, position, slice_get, refl, ap, ◌∙◌, arith}
use Rattle.std.specs.List.{position_from}
use Rattle.std.proofs.lemmas.Iterator.Adapters.{position_from-zero}
use Rattle.asm_program.specs.Calls.{Defined}

-- this definition, of this number, is the first that passes the test
abbrev pub IsFirstOf : (Defined → Bool) → List Defined → ℕ → Defined → Type 0
IsFirstOf test ds i d =
    (slice_get ds i ≡ Some d) × ((n : ℕ) → position_from test n ds ≡ Some (n + i))

pub here : (test : Defined → Bool) (d : Defined) (ds : List Defined) → test d ≡ true
    → IsFirstOf test (d ∷ ds) 0 d
here test d ds h = (
  refl,
  λ n.
      let same : n ≡ n + 0 = omega arith in
      ap (λ b. cond b (Some n) (position_from test (n + 1) ds)) h ∙ ap (λ m. Some m) same,
)

pub later : (test : Defined → Bool) (e d : Defined) (ds : List Defined) (i : ℕ)
    → test e ≡ false → IsFirstOf test ds i d → IsFirstOf test (e ∷ ds) (suc i) d
later test e d ds i h is = (
  is.0,
  λ n.
      let same : n + 1 + i ≡ n + suc i = omega arith in
      ap (λ b. cond b (Some n) (position_from test (n + 1) ds)) h ∙ is.1 (n + 1)
      ∙ ap (λ m. Some m) same,
)

pub first_position : (test : Defined → Bool) (ds : List Defined) (i : ℕ) (d : Defined)
    → IsFirstOf test ds i d → position test ds ≡ Some i
first_position test ds i d is =
    let same : 0 + i ≡ i = omega arith in
    position_from-zero test ds ∙ is.1 0 ∙ ap (λ m. Some m) same
