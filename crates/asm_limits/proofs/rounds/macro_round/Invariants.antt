-- The counts so far are those of the macro rules that were passed.
use Rattle.std.proofs.Common.{◌≡◌, take}
use Rattle.asm_limits.specs.Rounds.{macro_round}
use Rattle.asm_limits.proofs.rounds.macro_round.Given as goal

abbrev pub invariant-loop-info : goal.invariant-loop-info
invariant-loop-info l =
    l.next.items ≡ macro_round l.domains l.functions (take l.info-index l.infos) l.macros
