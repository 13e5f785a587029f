use Rattle.asm_parse_theory.specs.Terms.{line}
use Rattle.asm_parse_terms.proofs.terms.+line.Goals as goal

pub returns : goal.returns
unfolding line
returns t c = c.form.ensures
