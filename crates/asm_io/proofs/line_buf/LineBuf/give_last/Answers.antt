-- What is kept at the source's end: a line that is too long, a last line, or nothing.
use Rattle.std.proofs.Common.{◌≤◌, length, refl, sym, ap, ◌∙◌, arith}
use Rattle.std.proofs.lemmas.List.Edits.{length-between}
use Rattle.asm_io.specs.Readings.{Reading}
use Rattle.asm_io.proofs.Kept.{no_range}
use Rattle.asm_io.proofs.Given.{gives_last_long, gives_last_line, gives_none}
use Rattle.asm_io.proofs.line_buf.LineBuf.give_last.Goals as goal

pub returns-then-self : goal.returns-then-self
returns-then-self c =
    let b = c.self.inside in
    gives_last_long c.args.self.now _ (ap (λ (r : Reading). r.over) (sym c.self.view_is) ∙ c.if-self.true) c.requires.feed
    (no_range b.bytes.items b.start b.start (omega arith)) refl (no_range b.bytes.items b.end b.end (omega arith)) refl
    (ap (λ (r : Reading). r.budget) c.self.view_is)

pub returns-then-self-2 : goal.returns-then-self-2
returns-then-self-2 c =
    let b = c.self.inside in
    let kept = ap (λ (r : Reading). r.kept) c.self.view_is in
    let room : b.end ≤ length b.bytes.items = omega (arith, c.self.invariant.size, c.self.invariant.room) in
    let long = ap length (sym kept) ∙ length-between b.bytes.items b.start b.end room in
    gives_last_line c.args.self.now _ (ap (λ (r : Reading). r.over) (sym c.self.view_is) ∙ c.if-self.false) c.requires.feed (omega (arith, c.if-self-2.true, long)) c.requires.room
    kept c.if-self.false (no_range b.bytes.items b.end b.end (omega arith)) refl (ap (λ (r : Reading). r.budget) c.self.view_is)

pub returns : goal.returns
returns c =
    let b = c.self.inside in
    let nothing = no_range b.bytes.items b.start b.end c.if-self-2.false in
    gives_none c.args.self.now _ (ap (λ (r : Reading). r.over) (sym c.self.view_is) ∙ c.if-self.false) (ap (λ (r : Reading). r.kept) (sym c.self.view_is) ∙ nothing)
    nothing c.if-self.false (no_range b.bytes.items b.end b.end (omega arith)) refl (ap (λ (r : Reading). r.budget) c.self.view_is)
