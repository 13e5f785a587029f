use Rattle.asm_soundness.proofs.CheckedModels.{checked_is_sorted}
use Rattle.asm_soundness.proofs.laws.a_checked_program_is_sorted.Goals as goal

-- The law as it is proved.
pub returns : goal.returns
returns c = checked_is_sorted
