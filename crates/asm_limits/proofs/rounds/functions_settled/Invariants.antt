-- The counts after so many rounds.
use Rattle.std.proofs.Common.{◌≡◌}
use Rattle.asm_limits.specs.Rounds.{function_round, iterated}
use Rattle.asm_limits.proofs.rounds.functions_settled.Given as goal

abbrev pub invariant-loop-round : goal.invariant-loop-round
invariant-loop-round l =
    l.counts.items ≡ iterated l.round (function_round l.domains l.bodies) l.fn.first.items
