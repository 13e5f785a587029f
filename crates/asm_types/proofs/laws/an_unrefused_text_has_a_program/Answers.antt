-- The program that is made of the tree's parts.
use Rattle.asm_types.proofs.Kept.{has_program}
use Rattle.asm_types.proofs.laws.an_unrefused_text_has_a_program.Goals as goal

pub returns : goal.returns
returns c = has_program
