use Rattle.std.proofs.Common.{◌≡◌}
use Rattle.asm_seats.proofs.threads.repeat.Given as goal

abbrev pub invariant-loop-try : goal.invariant-loop-try
invariant-loop-try g l = l.token.seat ≡ l.fn.token.seat
