-- The rows of the definitions that were passed.
use Rattle.std.proofs.Common.{◌≡◌}
use Rattle.asm_calls.specs.Rows.{through}
use Rattle.asm_calls.proofs.reach.through.Given as goal

abbrev pub invariant-loop-from : goal.invariant-loop-from
invariant-loop-from l = l.new ≡ through l.words l.from l.rows l.middle
