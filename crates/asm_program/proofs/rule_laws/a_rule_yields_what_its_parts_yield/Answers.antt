-- The equation of one level.
use Rattle.asm_program.specs.YieldsLaws.{yields-out}
use Rattle.asm_program.proofs.rule_laws.a_rule_yields_what_its_parts_yield.Goals as goal

pub returns : goal.returns
returns c = yields-out
