-- The equations of macro rules.
use Rattle.asm_program.specs.YieldsLaws.{rule_values-body, rule_values-nothing}
use Rattle.asm_program.proofs.rule_laws.a_macro_call_yields_what_its_body_yields.Goals as goal

pub returns-clause-body : goal.returns-clause-body
returns-clause-body c = rule_values-body

pub returns-clause-none : goal.returns-clause-none
returns-clause-none c = rule_values-nothing
