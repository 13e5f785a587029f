-- How a model starts and how it steps (Börger and Stärk, Abstract State Machines, section 2.4).
use Rattle.std.specs.Prelude.{ℕ, nat_le, not, List, [], ◌∷◌, Option, Some, None, if◌then◌else◌}
use Rattle.std.specs.Ordering.{eq_by_cmp}
use Rattle.std.specs.FinMap as map
use Rattle.asm_value.specs.declared.location.Update.{Update}
use Rattle.asm_value.specs.Location.{location_cmp}
use Rattle.asm_value.specs.State.{StateMap, fire, fire_all, state_weight}
use Rattle.asm_value.specs.UpdateSet as set
use Rattle.asm_value.specs.UpdateSet.{UpdateSet}
use Rattle.asm_program.specs.declared.program.Inv.{Inv}
use Rattle.asm_program.specs.declared.program.Program.{Program}
use Rattle.asm_program.specs.Initial.{Started, Starts, StartFaults}
use Rattle.asm_program.specs.Invariants.{first_broken}
use Rattle.asm_program.specs.Yields.{Yielded, Yields, Stops}
use Rattle.asm_board.specs.declared.stepped.Stepped.{Stepped}
use Rattle.asm_board.specs.declared.stepped.Stepped.TheVariants as stepped
use Rattle.asm_board.specs.Meanings.{Meanings}
use Rattle.asm_board.specs.Kinds.{is_monitored_subject}
use Rattle.asm_board.specs.Contents.{Contents, state_limit, with_state}

-- ---- what is admitted

abbrev pub unless_broken : Contents → Option Inv → Stepped
unless_broken content None = stepped.Done content
unless_broken content (Some inv) = stepped.Broken inv.name

-- the tests of a new content: what its state weighs, and then its invariants
abbrev pub admitted : Contents → Stepped
admitted content =
    if nat_le (state_weight content.state) state_limit
    then unless_broken content (first_broken content.program content.state content.invs)
    else stepped.StateFull (state_weight content.state)

-- ---- start

abbrev pub after_start : Program → Started → Stepped
after_start program (Starts state) =
    admitted (record { program = program; invs = program.invariants; state = state })
after_start program (StartFaults fault) = stepped.Fault fault

-- ---- step

-- the first two of ascending updates that give one location two values
unfoldable pub first_clash : List Update → Option (Update × Update)
first_clash [] = None
first_clash (u ∷ []) = None
first_clash (u ∷ v ∷ us) =
    if eq_by_cmp location_cmp u.location v.location then Some (u, v) else first_clash (v ∷ us)

-- The state without what monitored functions hold, with the inputs set. What shared functions hold
-- stays where no input sets it.
abbrev pub with_inputs : Program → StateMap → List Update → StateMap
with_inputs program state inputs =
    fire_all
    (map.retain_keys state (λ l. not (is_monitored_subject program l.subject)))
    inputs

abbrev pub stepped_by : Contents → StateMap → UpdateSet → Option (Update × Update) → Stepped
stepped_by content state updates None = admitted (with_state content (fire state updates))
stepped_by content state updates (Some clash) =
    stepped.Clash clash.0.location clash.0.value clash.1.value

-- a set that is consistent is fired; else its least clash ends the step
abbrev pub fired : Contents → StateMap → UpdateSet → Stepped
fired content state updates = stepped_by content state updates (first_clash (set.items updates))

abbrev pub after_yield : Contents → StateMap → Yielded → Stepped
after_yield content state (Yields updates next) = fired content state updates
after_yield content state (Stops fault) = stepped.Fault fault

module _ (m : Meanings) where
  -- a model of the program, in its initial state
  abbrev pub start : Program → Stepped
  start program = after_start program (m.initial program)

  -- one step of a content, with inputs and a pick for its choices
  abbrev pub step : Contents → List Update → Option ℕ → Stepped
  step content inputs pick =
      let state = with_inputs content.program content.state inputs in
      after_yield content state (m.yields content.program state pick)
