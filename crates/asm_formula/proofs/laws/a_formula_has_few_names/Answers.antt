use Rattle.asm_formula.proofs.Meanings.{formula_names}
use Rattle.asm_formula.proofs.laws.a_formula_has_few_names.Goals as goal

pub returns : goal.returns
returns c = formula_names
