-- How the fields of a reader's buffer are seen, and what always holds of them.
use Rattle.std.specs.Prelude.{◌≡◌, ◌+◌, ◌≤◌, ◌<◌, length, false, true}
use Rattle.std.specs.List.{slice_range}
use Rattle.asm_io.specs.Lines.{limit, has_feed}
use Rattle.asm_io.specs.Readings.{Reading}
use Rattle.asm_io.specs.declared.line_buf.LineBuf.TheInside.{Inside}

abbrev pub reading : Inside → Reading
reading b = record {
  line = slice_range b.bytes.items b.line_start b.line_end;
  over = b.over;
  kept = slice_range b.bytes.items b.start b.end;
  at_end = b.at_end;
  budget = b.budget;
}

pub record IsKept (b : Inside) : Type 0 where
  -- a line of limit bytes and its line feed have room
  pub size : length b.bytes.items ≡ limit + 1
  pub line_order : b.line_start ≤ b.line_end
  pub line_room : b.line_end ≤ limit + 1
  pub start_order : b.start ≤ b.seen
  pub seen_order : b.seen ≤ b.end
  pub room : b.end ≤ limit + 1
  -- the bytes that were looked through hold no line feed
  pub looked : has_feed (slice_range b.bytes.items b.start b.seen) ≡ false
  -- after the source's end nothing is kept
  pub quiet : b.at_end ≡ true → b.start ≡ b.end
  pub quiet_over : b.at_end ≡ true → b.over ≡ false
  -- and the read that met it was within the budget
  pub quiet_budget : b.at_end ≡ true → 0 < b.budget
