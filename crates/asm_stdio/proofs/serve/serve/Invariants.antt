use Rattle.std.proofs.Common.{◌≡◌, ◌≤◌}
use Rattle.asm_io.specs.Readings.{fuel}
use Rattle.asm_stdio.specs.Transcripts.{journal_room}
use Rattle.asm_stdio.proofs.Going.{Going}
use Rattle.asm_stdio.proofs.serve.serve.Given as goal

-- the lines read so far are answered, the server has its room, and no count of faults has fallen
abbrev pub invariant-loop-end : goal.invariant-loop-end
invariant-loop-end g l = record {
  going : Going (g.S.Source.left l.initial.source) (g.S.Source.left l.source) (g.K.Sink.held l.initial.sink) (g.K.Sink.held l.sink) l.one.journal l.buf;
  room : l.one.room ≡ journal_room;
  source : g.S.Source.faults l.initial.source ≤ g.S.Source.faults l.source;
  sink : g.K.Sink.faults l.initial.sink ≤ g.K.Sink.faults l.sink;
}

abbrev pub decreases-loop-end : goal.decreases-loop-end
decreases-loop-end g l = fuel l.buf
