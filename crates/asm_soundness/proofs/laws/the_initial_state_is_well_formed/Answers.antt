use Rattle.asm_soundness.proofs.Start.{starts_well}
use Rattle.asm_soundness.proofs.laws.the_initial_state_is_well_formed.Goals as goal

-- The law as it is proved.
pub returns : goal.returns
returns c = starts_well
