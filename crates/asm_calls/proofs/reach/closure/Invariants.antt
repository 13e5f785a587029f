-- What is reached by way of the definitions that were passed.
use Rattle.std.proofs.Common.{◌≡◌, length}
use Rattle.asm_calls.specs.Rows.{rows_of, closed_to}
use Rattle.asm_calls.proofs.reach.closure.Given as goal

abbrev pub invariant-loop-middle : goal.invariant-loop-middle
invariant-loop-middle l =
    l.rows ≡ closed_to l.words (length l.calls) (rows_of l.words l.calls) l.middle
