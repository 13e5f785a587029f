use Rattle.std.proofs.Common.{◌≡◌, drop}
use Rattle.asm_items.specs.Views.{with_items}
use Rattle.asm_items.specs.Parts.{more_ranges}
use Rattle.asm_items.proofs.ranges.more_range_items.Given as goal

abbrev pub invariant-loop-range : goal.invariant-loop-range
invariant-loop-range l = with_items l.items (more_ranges l.seen (drop l.range-index l.ranges)) ≡ with_items l.initial.items (more_ranges l.initial.seen l.ranges)
