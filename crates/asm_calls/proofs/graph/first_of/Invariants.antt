-- None of those that were passed reaches itself.
use Rattle.std.proofs.Common.{◌≡◌, ◌<◌, ℕ, false}
use Rattle.asm_calls.specs.Rows.{has}
use Rattle.asm_calls.proofs.graph.first_of.Given as goal

abbrev pub invariant-loop-at : goal.invariant-loop-at
invariant-loop-at l = (k : ℕ) → k < l.at → has l.rows k k ≡ false
