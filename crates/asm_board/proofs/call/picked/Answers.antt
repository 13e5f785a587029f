use Rattle.std.proofs.Common.{rules, arith}
use Rattle.asm_portable.proofs.WeightLaws.{weight_steps}
use Rattle.asm_board.proofs.call.picked.Goals as goal

pub returns-in-Some-clause-weight : goal.returns-in-Some-clause-weight
returns-in-Some-clause-weight c = grind (arith, rules, weight_steps, c.in-Some.is)
