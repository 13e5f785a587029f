-- The start of a program in a view of its bare state.
use Rattle.std.specs.Prelude.{ℕ, true, Option, Some, None, List, [], ◌∷◌, ◌++◌, map}
use Rattle.asm_value.specs.declared.value.Value.{Value}
use Rattle.asm_value.specs.declared.value.Value.TheVariants.{Truth}
use Rattle.asm_value.specs.declared.location.Update.{Update}
use Rattle.asm_value.specs.Living.{member_location}
use Rattle.asm_value.specs.State.{StateMap}
use Rattle.asm_program.specs.declared.outcome.Fault.{Fault}
use Rattle.asm_program.specs.declared.program.InitInfo.{InitInfo}
use Rattle.asm_program.specs.Initial.{Started, Starts, StartFaults, on_start, with_outcome}
use Rattle.asm_program.specs.Meaning.{location_of}
use Rattle.asm_terms.specs.declared.start.InitOutcome.{InitOutcome}
use Rattle.asm_terms.specs.declared.start.InitOutcome.TheVariants as outcome
use Rattle.asm_terms.specs.declared.view.View.{View}
use Rattle.asm_terms.specs.Views.{program_of}
use Rattle.asm_terms.specs.Evaluation.{gives}

-- the member is there
abbrev pub membership : ℕ → ℕ → Update
membership d i = record { location = member_location d i; value = Truth true }

-- the function's location has the value
abbrev pub update_at : ℕ → List Value → Value → Update
update_at f args v = record { location = location_of f args; value = v }

-- the state, unless there was a fault
abbrev pub started : Option Fault → StateMap → Started
started None state = Starts state
started (Some e) state = StartFaults e

abbrev pub started_by : InitOutcome → Started
started_by (outcome.Done state) = Starts state
started_by (outcome.Fault e) = StartFaults e

module _ (view : View) (init : InitInfo) where
  -- the function has the value that its initial term gives with these arguments
  abbrev pub start_at : List Value → StateMap → Started
  start_at args state =
      with_outcome (program_of view) init.function init.span args state
      (gives view init.body args)

  abbrev pub starts_at : List (List Value) → StateMap → Started
  starts_at [] state = Starts state
  starts_at (args ∷ rest) state = on_start (start_at args state) (starts_at rest)

  -- each list of arguments begins with these values
  abbrev pub starts_after : List Value → List (List Value) → StateMap → Started
  starts_after first rests state = starts_at (map (λ c. first ++ c) rests) state
