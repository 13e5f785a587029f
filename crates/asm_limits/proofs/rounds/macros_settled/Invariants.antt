-- The counts after so many rounds.
use Rattle.std.proofs.Common.{◌≡◌}
use Rattle.asm_limits.specs.Rounds.{macro_round, iterated}
use Rattle.asm_limits.proofs.rounds.macros_settled.Given as goal

abbrev pub invariant-loop-round : goal.invariant-loop-round
invariant-loop-round l =
    l.counts.items ≡ iterated l.round (macro_round l.domains l.functions l.infos) l.fn.first.items
