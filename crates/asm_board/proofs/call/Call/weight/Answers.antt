use Rattle.std.proofs.Common.{rules, arith}
use Rattle.asm_portable.proofs.WeightLaws.{weight_steps}
use Rattle.asm_board.proofs.call.Call.weight.Goals as goal

pub returns-in-Run : goal.returns-in-Run
returns-in-Run c = grind (arith, rules, weight_steps)

pub returns-in-Load : goal.returns-in-Load
returns-in-Load c = grind (arith, rules, weight_steps)

pub returns-in-Unload : goal.returns-in-Unload
returns-in-Unload c = grind (arith, rules, weight_steps)

pub returns-in-Step : goal.returns-in-Step
returns-in-Step c = grind (arith, rules, weight_steps)

pub returns-in-AddInvariant : goal.returns-in-AddInvariant
returns-in-AddInvariant c = grind (arith, rules, weight_steps)

pub returns-in-DropInvariant : goal.returns-in-DropInvariant
returns-in-DropInvariant c = grind (arith, rules, weight_steps)

pub returns-in-Rollback : goal.returns-in-Rollback
returns-in-Rollback c = grind (arith, rules, weight_steps)

pub returns-in-State : goal.returns-in-State
returns-in-State c = grind (arith, rules, weight_steps)

pub returns-in-Value : goal.returns-in-Value
returns-in-Value c = grind (arith, rules, weight_steps)

pub returns-in-Log : goal.returns-in-Log
returns-in-Log c = grind (arith, rules, weight_steps)
