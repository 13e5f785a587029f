use Rattle.asm_parse_theory.specs.Rules.{rule}
use Rattle.asm_parse_rules.proofs.rules.+rule.Goals as goal

pub returns : goal.returns
unfolding rule
returns t c = c.form.ensures
