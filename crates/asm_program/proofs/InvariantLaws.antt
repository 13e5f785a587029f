-- No invariant is broken exactly where all of them hold.
use Rattle.std.proofs.Common.{◌≡◌, Bool, true, false, cond, List, [], ◌∷◌, Some, None, refl, ap, ◌∙◌}
use Rattle.std.specs.Prelude.{◌↔◌, not, find}
use Rattle.std.specs.List.{AllByRecursion}
use Rattle.asm_value.specs.State.{StateMap}
use Rattle.asm_program.specs.declared.program.Inv.{Inv}
use Rattle.asm_program.specs.declared.program.Program.{Program}
use Rattle.asm_program.specs.Invariants.{holds, first_broken, AllHold}

module _ {X : Type 0} (test : X → Bool) where
  abbrev Pass : List X → Type 0
  Pass xs = AllByRecursion (λ x. test x ≡ true) xs

  abbrev fails : X → Bool
  fails x = not (test x)

  first_passes : (x : X) (xs : List X) → (find fails xs ≡ None → Pass xs) → (b : Bool)
      → test x ≡ b → cond (not b) (Some x) (find fails xs) ≡ None → Pass (x ∷ xs)
  first_passes x xs rest true is none = (is, rest none)
  first_passes x xs rest false is none = absurd (cc none)

  none_fails : (xs : List X) → find fails xs ≡ None → Pass xs
  none_fails [] none = tt
  none_fails (x ∷ xs) none = first_passes x xs (none_fails xs) (test x) refl none

  all_pass : (xs : List X) → Pass xs → find fails xs ≡ None
  all_pass [] all = refl
  all_pass (x ∷ xs) all =
      ap (λ b. cond (not b) (Some x) (find fails xs)) all.0 ∙ all_pass xs all.1

pub none_broken : (p : Program) (state : StateMap) (invs : List Inv)
    → (first_broken p state invs ≡ None) ↔ AllHold p state invs
none_broken p state invs = (none_fails (holds p state) invs, all_pass (holds p state) invs)
