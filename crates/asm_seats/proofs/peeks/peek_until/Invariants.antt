use Rattle.std.proofs.Common.{◌≡◌}
use mathlib.Core.List.{IsPrefix}
use Rattle.asm_seats.proofs.peeks.peek_until.Given as goal

abbrev pub invariant-loop-peeks : goal.invariant-loop-peeks
invariant-loop-peeks g l =
    IsPrefix l.fn.token.history l.token.history
    × (l.token.seat ≡ l.fn.token.seat) × (l.token.mine ≡ l.fn.token.mine) × (l.token.holds ≡ l.fn.token.holds)
