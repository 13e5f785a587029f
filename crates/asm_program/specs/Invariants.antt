-- Invariants of states (Börger and Stärk, Abstract State Machines, section 2.4): which hold, and the
-- first that is broken.
use Rattle.std.specs.Prelude.{◌≡◌, Bool, true, false, not, Option, List, [], find}
use Rattle.std.specs.List.{AllByRecursion}
use Rattle.asm_value.specs.Living.{is_true}
use Rattle.asm_value.specs.State.{StateMap}
use Rattle.asm_program.specs.declared.outcome.Outcome.{Outcome}
use Rattle.asm_program.specs.declared.outcome.Outcome.TheVariants as outcome
use Rattle.asm_program.specs.declared.program.Inv.{Inv}
use Rattle.asm_program.specs.declared.program.Program.{Program}
use Rattle.asm_program.specs.Meaning.{eval}

-- the value is true; undef isn't, nor is a fault
abbrev pub gives_true : Outcome → Bool
gives_true (outcome.Value v) = is_true v
gives_true (outcome.Fault e) = false

-- an invariant holds in a state where its term is true there
abbrev pub holds : Program → StateMap → Inv → Bool
holds p state inv = gives_true (eval p state inv.term [])

-- the first that doesn't hold
abbrev pub first_broken : Program → StateMap → List Inv → Option Inv
first_broken p state invs = find (λ inv. not (holds p state inv)) invs

-- all of them hold
abbrev pub AllHold : Program → StateMap → List Inv → Type 0
AllHold p state invs = AllByRecursion (λ inv. holds p state inv ≡ true) invs
