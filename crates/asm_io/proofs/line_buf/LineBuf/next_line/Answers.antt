-- The bytes behind those that were looked through hold the first line feed, or none.
use Rattle.std.proofs.Common.{◌≡◌, ◌+◌, ◌-◌, ◌<◌, ◌≤◌, length, false, refl, sym, ap, ◌∙◌, subst, arith}
use Rattle.std.specs.List.{slice_range}
use Rattle.std.proofs.lemmas.List.Edits.{length-between}
use Rattle.asm_io.specs.Lines.{limit, has_feed}
use Rattle.asm_io.specs.Readings.{Reading}
use Rattle.asm_io.specs.Steps.{IsFirstFeed}
use Rattle.asm_io.proofs.Kept.{no_range, feed_in_range, no_feed_before, no_feed_parts}
use Rattle.asm_io.proofs.Given.{gives_next_long, gives_next_line}
use Rattle.asm_io.proofs.line_buf.LineBuf.next_line.Goals as goal

pub invariant_of-self : goal.invariant_of-self
invariant_of-self c =
    let b = c.self.inside in
    let i = c.self.invariant in
    let none : has_feed (slice_range b.bytes.items b.seen b.end) ≡ false = subst (λ w. has_feed (slice_range w b.seen b.end) ≡ false) c.deref.ensures.value c.in-None.ensures in
    record {
      size = i.size;
      line_order = i.line_order;
      line_room = i.line_room;
      start_order = omega arith;
      seen_order = omega arith;
      room = i.room;
      looked = no_feed_parts b.bytes.items b.start b.seen b.end i.start_order i.seen_order i.looked none;
      quiet = i.quiet;
      quiet_over = i.quiet_over;
      quiet_budget = i.quiet_budget;
    }

pub returns-in-None : goal.returns-in-None
returns-in-None c =
    let b = c.self.inside in
    let i = c.self.invariant in
    let none : has_feed (slice_range b.bytes.items b.seen b.end) ≡ false = subst (λ w. has_feed (slice_range w b.seen b.end) ≡ false) c.deref.ensures.value c.in-None.ensures in
    (ap (λ (r : Reading). has_feed r.kept) (sym c.self.view_is) ∙ no_feed_parts b.bytes.items b.start b.seen b.end i.start_order i.seen_order i.looked none, c.self.view_is)

pub returns-then-self : goal.returns-then-self
returns-then-self c =
    let b = c.self.inside in
    let i = c.self.invariant in
    let at = c.in-Some.at in
    let found : IsFirstFeed (slice_range b.bytes.items b.seen b.end) at = subst (λ w. IsFirstFeed (slice_range w b.seen b.end) at) c.deref.ensures.value c.in-Some.ensures in
    let room : b.end ≤ length b.bytes.items = omega (arith, i.size, i.room) in
    gives_next_long c.args.self.now _ (slice_range b.bytes.items b.start (b.seen + at))
    (ap (λ (r : Reading). r.kept) (sym c.self.view_is) ∙ feed_in_range b.bytes.items b.start b.seen b.end at i.start_order i.seen_order room found)
    (no_feed_before b.bytes.items b.start b.seen b.end at i.start_order i.seen_order room i.looked found)
    (ap (λ (r : Reading). r.over) (sym c.self.view_is) ∙ c.if-self.true)
    (no_range b.bytes.items b.start b.start (omega arith)) refl
    (ap (λ (r : Reading). r.at_end) c.self.view_is) (ap (λ (r : Reading). r.budget) c.self.view_is)

pub returns-else-self : goal.returns-else-self
returns-else-self c =
    let b = c.self.inside in
    let i = c.self.invariant in
    let at = c.in-Some.at in
    let found : IsFirstFeed (slice_range b.bytes.items b.seen b.end) at = subst (λ w. IsFirstFeed (slice_range w b.seen b.end) at) c.deref.ensures.value c.in-Some.ensures in
    let room : b.end ≤ length b.bytes.items = omega (arith, i.size, i.room) in
    let within : at < b.end - b.seen = omega (arith, found.within, length-between b.bytes.items b.seen b.end room) in
    let stop : b.seen + at ≤ length b.bytes.items = omega arith in
    let short : length (slice_range b.bytes.items b.start (b.seen + at)) ≤ limit =
    omega (arith, length-between b.bytes.items b.start (b.seen + at) stop, i.room, i.start_order) in
    gives_next_line c.args.self.now _ (slice_range b.bytes.items b.start (b.seen + at))
    (ap (λ (r : Reading). r.kept) (sym c.self.view_is) ∙ feed_in_range b.bytes.items b.start b.seen b.end at i.start_order i.seen_order room found)
    (no_feed_before b.bytes.items b.start b.seen b.end at i.start_order i.seen_order room i.looked found)
    (ap (λ (r : Reading). r.over) (sym c.self.view_is) ∙ c.if-self.false)
    short refl c.if-self.false
    (ap (λ (r : Reading). r.at_end) c.self.view_is) (ap (λ (r : Reading). r.budget) c.self.view_is)
