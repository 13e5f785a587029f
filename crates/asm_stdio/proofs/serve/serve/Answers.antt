use Rattle.std.proofs.Common.{◌≡◌, false, refl, ap, ◌∙◌, arith}
use Rattle.asm_io.specs.LineEnds.{given}
use Rattle.asm_stdio.proofs.Going.{begins, off, goes, part, faulted, ended, spent, rose_before}
use Rattle.asm_stdio.proofs.serve.serve.Goals as goal

pub loop-end-init : goal.loop-end-init
loop-end-init g c = record {
  going = begins (g.S.Source.left c.args.source.now) (g.K.Sink.held c.args.sink.now) c.args.one.now.journal c.args.buf.now (ap (λ one. one.journal) c.requires.new) c.requires.fresh;
  room = ap (λ one. one.room) c.requires.new;
  source = omega arith;
  sink = omega arith;
}

-- a line was answered
pub loop-end-preserved : goal.loop-end-preserved
loop-end-preserved g c =
    let unended : c.loop-end.buf.at_end ≡ false = off _ (λ t. c.is_end.ensures.no c.if-is_end.false (cc ((c.in-Ok.ensures.after_end t).0))) in
    record {
      going = goes (g.S.Source.left c.args.source.now) (g.S.Source.left c.loop-end.source) (g.S.Source.left c.read_line.new.source) (g.K.Sink.held c.args.sink.now) (g.K.Sink.held c.loop-end.sink) (g.K.Sink.held c.put_answer.new.sink)
          c.loop-end.one.journal c.put_answer.new.one.journal c.loop-end.buf c.read_line.new.buf (given c.in-Ok.end c.read_line.new.buf.line) c.in-Ok.ensures.reads.taken c.loop-end.invariant.going unended c.in-Ok.ensures.reads.takes c.in-Ok.ensures.reads.gives.0
          (λ t. c.in-Ok.ensures.at_end t (λ u. absurd (cc (u, unended)))) (rw (← c.line.ensures) c.in-Ok-put_answer.ensures.all);
      room = c.in-Ok-put_answer.ensures.room ∙ c.loop-end.invariant.room;
      source = omega (arith, c.in-Ok.ensures.later, c.loop-end.invariant.source);
      sink = omega (arith, c.in-Ok-put_answer.ensures.cause.later, c.loop-end.invariant.sink);
    }

-- an answer was written in part
pub returns-in-Err : goal.returns-in-Err
returns-in-Err g c =
    let unended : c.loop-end.buf.at_end ≡ false = off _ (λ t. c.is_end.ensures.no c.if-is_end.false (cc ((c.in-Ok.ensures.after_end t).0))) in (
      part (g.S.Source.left c.args.source.now) (g.S.Source.left c.loop-end.source) (g.S.Source.left c.read_line.new.source) (g.K.Sink.held c.args.sink.now) (g.K.Sink.held c.loop-end.sink) (g.K.Sink.held c.put_answer.new.sink)
          c.loop-end.one.journal c.loop-end.buf c.read_line.new.buf (given c.in-Ok.end c.read_line.new.buf.line) c.in-Ok.ensures.reads.taken c.loop-end.invariant.going unended c.in-Ok.ensures.reads.takes c.in-Ok.ensures.reads.gives.0
          (λ t. c.in-Ok.ensures.at_end t (λ u. absurd (cc (u, unended)))) (rw (← c.line.ensures) c.in-Err.ensures.part),
      rose_before _ _ _ c.loop-end.invariant.sink c.in-Err.ensures.cause.failed,
    )

-- a read failed
pub returns-in-Err-ReadFault : goal.returns-in-Err-ReadFault
returns-in-Err-ReadFault g c =
    let e = rw c.in-Err-ReadFault.field-0-is at c.in-Err-ReadFault.ensures in
    let unended : c.loop-end.buf.at_end ≡ false = off _ (λ t. cc ((e.after_end t).0)) in (
      ended (g.S.Source.left c.args.source.now) (g.S.Source.left c.read_line.new.source) (g.K.Sink.held c.args.sink.now) (g.K.Sink.held c.loop-end.sink) c.loop-end.one.journal c.read_line.new.buf
          (faulted (g.S.Source.left c.args.source.now) (g.S.Source.left c.loop-end.source) (g.S.Source.left c.read_line.new.source) (g.K.Sink.held c.args.sink.now) (g.K.Sink.held c.loop-end.sink)
          c.loop-end.one.journal c.loop-end.buf c.read_line.new.buf e.reads.taken c.loop-end.invariant.going unended e.reads.takes e.reads.gives.0 e.reads.gives.1)
          e.reads.gives.1 e.reads.gives.2,
      rose_before _ _ _ c.loop-end.invariant.source (e.read_fault refl),
    )

-- the budget was taken
pub returns-in-Err-Budget : goal.returns-in-Err-Budget
returns-in-Err-Budget g c =
    let e = rw c.in-Err-Budget.field-0-is at c.in-Err-Budget.ensures in
    let unended : c.loop-end.buf.at_end ≡ false = off _ (λ t. cc ((e.after_end t).0)) in
    spent (g.S.Source.left c.args.source.now) (g.S.Source.left c.read_line.new.source) (g.K.Sink.held c.args.sink.now) (g.K.Sink.held c.loop-end.sink) c.loop-end.one.journal c.read_line.new.buf
    (faulted (g.S.Source.left c.args.source.now) (g.S.Source.left c.loop-end.source) (g.S.Source.left c.read_line.new.source) (g.K.Sink.held c.args.sink.now) (g.K.Sink.held c.loop-end.sink)
    c.loop-end.one.journal c.loop-end.buf c.read_line.new.buf e.reads.taken c.loop-end.invariant.going unended e.reads.takes e.reads.gives.0 e.reads.gives.1)
    e.reads.gives.1 e.reads.gives.2 (e.reads.spent refl).budget
