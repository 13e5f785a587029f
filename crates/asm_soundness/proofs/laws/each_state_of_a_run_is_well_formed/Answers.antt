use Rattle.asm_soundness.proofs.Runs.{runs_stay_well}
use Rattle.asm_soundness.proofs.laws.each_state_of_a_run_is_well_formed.Goals as goal

-- The law as it is proved.
pub returns : goal.returns
returns c = runs_stay_well
