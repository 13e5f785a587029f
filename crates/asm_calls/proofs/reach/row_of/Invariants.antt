-- The first words of the row.
use Rattle.std.proofs.Common.{◌≡◌}
use Rattle.asm_calls.specs.Rows.{row_of}
use Rattle.asm_calls.proofs.reach.row_of.Given as goal

abbrev pub invariant-loop-at : goal.invariant-loop-at
invariant-loop-at l = l.row ≡ row_of l.at l.calls
