use Rattle.asm_soundness.proofs.Inputs.{inputs_keep}
use Rattle.asm_soundness.proofs.laws.inputs_leave_a_state_well_formed.Goals as goal

-- The law as it is proved.
pub returns : goal.returns
returns c = inputs_keep
