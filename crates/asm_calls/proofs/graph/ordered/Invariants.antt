-- Those that reach fewer.
use Rattle.std.proofs.Common.{◌≡◌}
use Rattle.asm_calls.specs.Rows.{ordered_to}
use Rattle.asm_calls.proofs.graph.ordered.Given as goal

abbrev pub invariant-loop-count : goal.invariant-loop-count
invariant-loop-count l = l.order ≡ ordered_to l.counts l.count
