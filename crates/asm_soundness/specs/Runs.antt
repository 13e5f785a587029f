-- The states of a program's runs (after Börger and Stärk, Abstract State Machines, section 2.4).
use Rattle.std.specs.Prelude.{◌≡◌, ℕ, Bool, Option, List}
use Rattle.std.specs.List.{AllByRecursion}
use Rattle.std.specs.FinMap as finite
use Rattle.asm_value.specs.declared.location.Location.{Location}
use Rattle.asm_value.specs.declared.location.Update.{Update}
use Rattle.asm_value.specs.State.{StateMap, IsConsistent, fire, fire_all}
use Rattle.asm_value.specs.UpdateSet.{UpdateSet}
use Rattle.asm_syntax.specs.declared.tree.ModelTree.{ModelTree}
use Rattle.asm_program.specs.declared.program.Program.{Program}
use Rattle.asm_program.specs.Initial.{Starts, initial}
use Rattle.asm_program.specs.Typed.{IsTyped}
use Rattle.asm_program.specs.Yields.{Yields, main_yields}
use Rattle.asm_soundness.specs.WellFormed.{IsWellFormed}
use Rattle.asm_soundness.specs.Sorted.{IsSorted}
use Rattle.asm_soundness.specs.Keeping.{IsInput, KeepsMembers}

-- A run begins in the initial state, and goes on by inputs and by steps.
pub data IsReached (p : Program) : StateMap → Type 0 where
  begins : {state : StateMap} → initial p ≡ Starts state → IsReached p state
  -- functions may lose values before inputs are set
  goes_on : (state : StateMap) (stays : Location → Bool) (inputs : List Update)
      → IsReached p state → KeepsMembers stays → AllByRecursion (IsInput p state) inputs
      → IsReached p (fire_all (finite.retain_keys state stays) inputs)
  steps : (state : StateMap) (pick : Option ℕ) (u : UpdateSet) (after : List ℕ)
      → IsReached p state → main_yields p state pick ≡ Yields u after → IsConsistent u
      → IsReached p (fire state u)

-- the program of a text is sorted
abbrev pub CheckedAreSorted : Type 0
CheckedAreSorted =
    (text : List ℕ) (tree : ModelTree) (p : Program) → IsTyped text tree p → IsSorted p

-- each state that a run of a text's program reaches is well formed
abbrev pub RunsStayWellFormed : Type 0
RunsStayWellFormed =
    (text : List ℕ) (tree : ModelTree) (p : Program) (state : StateMap) → IsTyped text tree p
    → IsReached p state → IsWellFormed p state
