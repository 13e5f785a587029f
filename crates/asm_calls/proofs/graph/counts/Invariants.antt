-- The numbers of those that were passed.
use Rattle.std.proofs.Common.{◌≡◌, length}
use Rattle.asm_calls.specs.Rows.{closure, counts_to}
use Rattle.asm_calls.proofs.graph.counts.Given as goal

abbrev pub invariant-loop-at : goal.invariant-loop-at
invariant-loop-at l = l.counts ≡ counts_to (closure l.calls) (length l.calls) l.at
