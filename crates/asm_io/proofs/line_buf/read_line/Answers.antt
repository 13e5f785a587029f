-- What a call took and gave, by the law of each way out.
use Rattle.std.proofs.Common.{◌<◌, Ok, inr, sym, ap, ◌∙◌, subst, arith}
use Rattle.asm_io.specs.Readings.{Reading}
use Rattle.asm_io.specs.LineEnds.{ReadsLine}
use Rattle.asm_io.specs.Steps.{Fills}
use Rattle.asm_io.specs.declared.line_buf.LineEnd.TheVariants as ends
use Rattle.asm_io.proofs.Going.{ready, going_filled, reads_nothing, reads_given, reads_fault, reads_last, read_on, idle_no_more}
use Rattle.asm_io.proofs.line_buf.read_line.Goals as goal

pub returns-then-is_at_end-clause-reads : goal.returns-then-is_at_end-clause-reads
returns-then-is_at_end-clause-reads g c =
    let left = g.S.Source.left c.args.source.now in
    let begun = c.begin.ensures in
    let at_end = sym c.if-is_at_end.ensures.value in
    subst (λ (r : Reading). ReadsLine left left c.args.buf.now r (Ok ends.End)) (sym begun) (
    reads_nothing left c.args.buf.now
    (ap (λ (r : Reading). r.at_end) (sym begun) ∙ at_end)
    (ap (λ (r : Reading). r.kept) (sym begun) ∙ c.if-is_at_end.ensures.kept at_end)
    (ap (λ (r : Reading). r.over) (sym begun) ∙ c.if-is_at_end.ensures.over at_end)
    (subst (λ (r : Reading). 0 < r.budget) begun (c.if-is_at_end.ensures.budget at_end))
    )

pub returns-in-Some-clause-reads : goal.returns-in-Some-clause-reads
returns-in-Some-clause-reads g c =
    reads_given (g.S.Source.left c.args.source.now) (g.S.Source.left c.loop-given.source) c.args.buf.now c.loop-given.buf c.next_line.new.self c.in-Some.given c.loop-given.invariant.going c.in-Some.ensures

pub returns-in-Err-clause-reads : goal.returns-in-Err-clause-reads
returns-in-Err-clause-reads g c =
    let left = g.S.Source.left c.args.source.now in
    let mid = g.S.Source.left c.loop-given.source in
    let ready_now = ready left mid c.args.buf.now c.loop-given.buf c.next_line.new.self c.skip_long.new.self c.loop-given.invariant.going
    c.in_default.ensures.0 c.in_default.ensures.1 c.if-is_spent.ensures c.skip_long.ensures.after in
    reads_fault left mid (g.S.Source.left c.fill.new.source) c.args.buf.now c.skip_long.new.self c.fill.new.self
    ready_now.going ready_now.feed ready_now.some c.in-Err.ensures.cases.0 c.in-Err.ensures.cases.1

pub returns-in-Ok-eq0-clause-reads : goal.returns-in-Ok-eq0-clause-reads
returns-in-Ok-eq0-clause-reads g c =
    let left = g.S.Source.left c.args.source.now in
    let mid = g.S.Source.left c.loop-given.source in
    let rest = g.S.Source.left c.fill.new.source in
    let ready_now = ready left mid c.args.buf.now c.loop-given.buf c.next_line.new.self c.skip_long.new.self c.loop-given.invariant.going
    c.in_default.ensures.0 c.in_default.ensures.1 c.if-is_spent.ensures c.skip_long.ensures.after in
    let fills : Fills mid rest c.skip_long.new.self c.fill.new.self c.in-Ok-eq0.field-0 = c.in-Ok-eq0.ensures.cases in
    let budget = ap (λ (r : Reading). r.budget) fills.reading in
    reads_last left rest c.args.buf.now c.fill.new.self c.give_last.new.self c.give_last.result
    (going_filled left mid rest c.args.buf.now c.skip_long.new.self c.fill.new.self c.in-Ok-eq0.field-0 ready_now.going fills)
    (omega (arith, ready_now.some, budget, c.in-Ok-eq0.field-0-test)) c.give_last.ensures

pub returns-in-Err-clause-stops : goal.returns-in-Err-clause-stops
returns-in-Err-clause-stops g c =
    inr (read_on g.S.Source.left g.S.Source.reads c.args.source.now c.loop-given.source c.fill.new.source c.args.buf.now c.loop-given.buf
    c.loop-given.invariant.going c.in_default.ensures.0 c.in-Err.ensures.counted)

pub returns-in-Ok-eq0-clause-stops : goal.returns-in-Ok-eq0-clause-stops
returns-in-Ok-eq0-clause-stops g c =
    inr (read_on g.S.Source.left g.S.Source.reads c.args.source.now c.loop-given.source c.fill.new.source c.args.buf.now c.loop-given.buf
    c.loop-given.invariant.going c.in_default.ensures.0 c.in-Ok-eq0.ensures.counted)

pub loop-given-preserved : goal.loop-given-preserved
loop-given-preserved g c =
    let left = g.S.Source.left c.args.source.now in
    let mid = g.S.Source.left c.loop-given.source in
    let rest = g.S.Source.left c.fill.new.source in
    let ready_now = ready left mid c.args.buf.now c.loop-given.buf c.next_line.new.self c.skip_long.new.self c.loop-given.invariant.going
    c.in_default.ensures.0 c.in_default.ensures.1 c.if-is_spent.ensures c.skip_long.ensures.after in
    record {
      going = going_filled left mid rest c.args.buf.now c.skip_long.new.self c.fill.new.self c.in-Ok.field-0 ready_now.going c.in-Ok.ensures.cases;
      unfailed = c.in-Ok.ensures.cause.unfailed ∙ c.loop-given.invariant.unfailed;
      stops = inr (read_on g.S.Source.left g.S.Source.reads c.args.source.now c.loop-given.source c.fill.new.source c.args.buf.now c.loop-given.buf
          c.loop-given.invariant.going c.in_default.ensures.0 c.in-Ok.ensures.counted);
      idle = λ h. absurd (cc (h, idle_no_more left mid c.args.buf.now c.loop-given.buf c.loop-given.invariant.going c.in_default.ensures.0));
    }
