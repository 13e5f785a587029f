-- The whole so far is the position with those passed behind it.
use Rattle.std.proofs.Common.{◌≡◌, ◌∷◌, take}
use Rattle.asm_portable.proofs.reading.in_front.Given as goal

abbrev pub invariant-loop-position : goal.invariant-loop-position
invariant-loop-position l = l.whole ≡ l.at ∷ take l.position-index l.position-items
