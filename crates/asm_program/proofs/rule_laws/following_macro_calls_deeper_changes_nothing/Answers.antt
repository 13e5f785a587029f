-- Calls past the limit.
use Rattle.asm_program.specs.YieldsLaws.{rule_values-deeper}
use Rattle.asm_program.proofs.rule_laws.following_macro_calls_deeper_changes_nothing.Goals as goal

pub returns : goal.returns
returns c = rule_values-deeper
