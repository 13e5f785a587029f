use Rattle.std.proofs.Common.{◌≡◌, true}
use Rattle.asm_io.specs.Lines.{has_feed}
use Rattle.asm_io.specs.LineEnds.{StopsAtFeed}
use Rattle.asm_io.proofs.Going.{GoingOn}
use Rattle.asm_io.proofs.line_buf.read_line.Given as goal

abbrev pub invariant-loop-given : goal.invariant-loop-given
invariant-loop-given g l = record {
  going : GoingOn (g.S.Source.left l.fn.source) (g.S.Source.left l.source) l.fn.buf l.buf;
  unfailed : g.S.Source.faults l.source ≡ g.S.Source.faults l.fn.source;
  stops : StopsAtFeed g.S.Source.left g.S.Source.reads l.fn.source l.source l.fn.buf.kept;
  idle : has_feed l.fn.buf.kept ≡ true → l.source ≡ l.fn.source;
}

abbrev pub decreases-loop-given : goal.decreases-loop-given
decreases-loop-given g l = l.buf.budget
