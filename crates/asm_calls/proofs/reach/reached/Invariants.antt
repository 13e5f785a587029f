-- As many as are reached of those that were passed.
use Rattle.std.proofs.Common.{◌≡◌}
use Rattle.asm_calls.specs.Orders.{count_below}
use Rattle.asm_calls.specs.Rows.{has}
use Rattle.asm_calls.proofs.reach.reached.Given as goal

abbrev pub invariant-loop-to : goal.invariant-loop-to
invariant-loop-to l = l.reached ≡ count_below (has l.rows l.from) l.to
