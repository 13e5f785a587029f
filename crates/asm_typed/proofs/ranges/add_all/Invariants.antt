-- The variables and domains so far, with those of the rest, are all.
use Rattle.std.proofs.Common.{◌≡◌, ◌++◌, drop, take, length}
use Rattle.asm_typed.specs.Sizes.{with_ranges, range_domains}
use Rattle.asm_typed.proofs.ranges.add_all.Given as goal

abbrev pub invariant-loop-range : goal.invariant-loop-range
invariant-loop-range l =
    (with_ranges l.scope l.variables (drop l.range-index l.ranges) ≡ with_ranges l.scope l.initial.variables l.ranges)
    × (l.domains ++ range_domains l.scope (drop l.range-index l.ranges) ≡ l.initial.domains ++ range_domains l.scope l.ranges)
    × (take (length l.initial.variables) l.variables ≡ l.initial.variables)
