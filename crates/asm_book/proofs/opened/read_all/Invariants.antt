use Rattle.std.proofs.Common.{◌≡◌, [], replicate}
use Rattle.asm_book.proofs.opened.read_all.Given as goal

abbrev pub invariant-loop-seat : goal.invariant-loop-seat
invariant-loop-seat g l = l.readers.items ≡ replicate l._seat []
