-- The bytes that were read stand behind those kept.
use Rattle.std.proofs.Common.{◌≡◌, ◌+◌, ◌-◌, ◌≤◌, length, take, ◌++◌, sym, ap, ◌∙◌, arith}
use Rattle.std.specs.List.{slice_range}
use Rattle.std.proofs.lemmas.List.{length-take-le, with_items_is}
use Rattle.asm_io.specs.Readings.{Reading}
use Rattle.asm_io.proofs.Kept.{written_behind, length-put_mid, short_part}
use Rattle.asm_io.proofs.Given.{same_reading}
use borrow.Rule.Slice.PartMut.{put_mid}
use Rattle.asm_io.proofs.line_buf.LineBuf.fill.Goals as goal

pub returns-clause-cases : goal.returns-clause-cases
returns-clause-cases g c =
    let b = c.self.inside in
    let i = c.self.invariant in
    let bytes = c.move_to_front.new.bytes in
    let xs = c.deref_mut.result.now in
    let into = c.read.new.into in
    let count = c.in_ok-taken.taken in
    let end = b.end - b.start in
    let part = end + c.min-count.result - end in
    let fits = c.in_ok-taken.ensures.bound.0 in
    let size = c.move_to_front.ensures.size in
    let same : length xs ≡ length bytes.items = ap length c.deref_mut.ensures.value in
    let room : end + part ≤ length xs = omega (arith, i.size, i.room, same, size) in
    let long : length into ≡ part = c.read.auto.into ∙ short_part end part xs room in
    let budget = ap (λ (r : Reading). r.budget) c.self.view_is in
    let ws = put_mid end part xs into in
    let written = with_items_is bytes ws (length-put_mid end part xs into room long ∙ c.deref_mut.ensures.len) in
    record {
      taken = take count into;
      consumes = c.in_ok-taken.ensures.bytes.0;
      number = length-take-le count into fits;
      within = omega (arith, fits, long, budget);
      reading = same_reading _ _ (sym c.requires.line) (ap (λ (r : Reading). r.over) c.self.view_is)
          (ap (λ w. slice_range w 0 (end + count)) written
          ∙ written_behind xs into end part count (omega arith) fits
          ∙ ap (λ w. take end w ++ take count into) c.deref_mut.ensures.value
          ∙ ap (λ w. w ++ take count into) (c.move_to_front.ensures.moved ∙ ap (λ (r : Reading). r.kept) c.self.view_is))
          (ap (λ (r : Reading). r.at_end) c.self.view_is) (ap (λ n. n - count) budget);
    }
