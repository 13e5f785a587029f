use Rattle.std.proofs.Common.{rules, arith}
use Rattle.std.proofs.lemmas.Bool.Decides.{nat_tests}
use Rattle.asm_portable.proofs.WeightLaws.{weight_steps}
use Rattle.asm_board.proofs.call.sinced.Goals as goal

pub returns-else-since-eq0-clause-weight : goal.returns-else-since-eq0-clause-weight
returns-else-since-eq0-clause-weight c = grind (arith, rules, nat_tests, weight_steps, c.if-since-eq0.false)
