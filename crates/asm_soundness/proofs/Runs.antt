-- Each state that a run reaches is well formed.
use Rattle.asm_value.specs.State.{StateMap}
use Rattle.asm_program.specs.declared.program.Program.{Program}
use Rattle.asm_soundness.specs.WellFormed.{IsWellFormed}
use Rattle.asm_soundness.specs.Sorted.{IsSorted}
use Rattle.asm_soundness.specs.Runs as run
use Rattle.asm_soundness.specs.Runs.{IsReached, RunsStayWellFormed}
use Rattle.asm_soundness.proofs.CheckedModels.{checked_is_sorted}
use Rattle.asm_soundness.proofs.Inputs.{inputs_keep}
use Rattle.asm_soundness.proofs.Start.{starts_well}
use Rattle.asm_soundness.proofs.Steps.{steps_keep}

module _ (p : Program) (sorted : IsSorted p) where
  pub reached_well : {state : StateMap} → IsReached p state → IsWellFormed p state
  reached_well (run.begins {state = state} e) = starts_well p state sorted e
  reached_well (run.goes_on state stays inputs r keeps each) =
      inputs_keep p state stays inputs keeps each (reached_well r)
  reached_well (run.steps state pick u after r e one) =
      steps_keep p pick state u after sorted (reached_well r) e one

pub runs_stay_well : RunsStayWellFormed
runs_stay_well text tree p state typed r = reached_well p (checked_is_sorted text tree p typed) r
