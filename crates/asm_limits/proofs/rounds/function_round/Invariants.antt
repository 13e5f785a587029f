-- The counts so far are those of the functions that were passed.
use Rattle.std.proofs.Common.{◌≡◌, take}
use Rattle.asm_limits.specs.Rounds.{function_round}
use Rattle.asm_limits.proofs.rounds.function_round.Given as goal

abbrev pub invariant-loop-body : goal.invariant-loop-body
invariant-loop-body l = l.next.items ≡ function_round l.domains (take l.body-index l.bodies) l.functions
