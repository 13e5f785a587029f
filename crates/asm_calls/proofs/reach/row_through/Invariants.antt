-- The first words of the row.
use Rattle.std.proofs.Common.{◌≡◌}
use Rattle.asm_calls.specs.Rows.{row_through}
use Rattle.asm_calls.proofs.reach.row_through.Given as goal

abbrev pub invariant-loop-at : goal.invariant-loop-at
invariant-loop-at l = l.row ≡ row_through l.at l.rows l.middle l.from
