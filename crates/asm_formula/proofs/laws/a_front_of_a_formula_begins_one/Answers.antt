use Rattle.asm_formula.proofs.Endings.{begins_is_front}
use Rattle.asm_formula.proofs.laws.a_front_of_a_formula_begins_one.Goals as goal

pub returns : goal.returns
returns c = begins_is_front
