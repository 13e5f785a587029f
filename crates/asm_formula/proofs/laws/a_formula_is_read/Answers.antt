use Rattle.asm_formula.proofs.Meanings.{formula_read}
use Rattle.asm_formula.proofs.laws.a_formula_is_read.Goals as goal

pub returns : goal.returns
returns c = formula_read
