-- The integers so far are the first ones.
use Rattle.std.proofs.Common.{◌≡◌}
use Rattle.asm_operations.specs.Terms.{ints_from}
use Rattle.asm_operations.proofs.terms.ints_from.Given as goal

abbrev pub invariant-loop-step : goal.invariant-loop-step
invariant-loop-step l = l.items ≡ ints_from l.first l.step
