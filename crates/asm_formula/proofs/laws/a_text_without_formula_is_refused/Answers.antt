use Rattle.asm_formula.proofs.Meanings.{formula_refused}
use Rattle.asm_formula.proofs.laws.a_text_without_formula_is_refused.Goals as goal

pub returns : goal.returns
returns c = formula_refused
