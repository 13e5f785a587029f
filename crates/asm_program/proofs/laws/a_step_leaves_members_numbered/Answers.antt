use Rattle.asm_program.proofs.NumberedLaws.{steps_leave_numbered}
use Rattle.asm_program.proofs.laws.a_step_leaves_members_numbered.Goals as goal

-- The law as it is proved.
pub returns : goal.returns
returns c = steps_leave_numbered
