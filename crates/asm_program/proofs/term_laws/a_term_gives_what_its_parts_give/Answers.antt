-- The fold's equation.
use Rattle.asm_program.specs.MeaningLaws.{eval-out}
use Rattle.asm_program.proofs.term_laws.a_term_gives_what_its_parts_give.Goals as goal

pub returns : goal.returns
returns c = eval-out
