-- The rows of the definitions that were passed.
use Rattle.std.proofs.Common.{◌≡◌, map, take}
use Rattle.asm_calls.specs.Rows.{row_of}
use Rattle.asm_calls.proofs.reach.rows_of.Given as goal

abbrev pub invariant-loop-one : goal.invariant-loop-one
invariant-loop-one l = l.rows ≡ map (row_of l.words) (take l.one-index l.calls)
