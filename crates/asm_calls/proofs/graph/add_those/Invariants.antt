-- Those among them that were passed are added.
use Rattle.std.proofs.Common.{◌≡◌, ◌++◌}
use Rattle.asm_calls.specs.Rows.{those_to}
use Rattle.asm_calls.proofs.graph.add_those.Given as goal

abbrev pub invariant-loop-at : goal.invariant-loop-at
invariant-loop-at l = l.order ≡ l.initial.order ++ those_to l.counts l.count l.at
