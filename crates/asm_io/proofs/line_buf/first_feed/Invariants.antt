use Rattle.std.proofs.Common.{◌≡◌, take, false}
use Rattle.asm_io.specs.Lines.{has_feed}
use Rattle.asm_io.proofs.line_buf.first_feed.Given as goal

abbrev pub invariant-loop-at : goal.invariant-loop-at
invariant-loop-at l = has_feed (take l.at l.bytes) ≡ false
