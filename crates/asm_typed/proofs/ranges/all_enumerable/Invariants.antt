-- Nothing was refused of the ranges that were passed.
use Rattle.std.proofs.Common.{◌≡◌, drop}
use Rattle.asm_typed.specs.Sizes.{ranges_refused}
use Rattle.asm_typed.proofs.ranges.all_enumerable.Given as goal

abbrev pub invariant-loop-range : goal.invariant-loop-range
invariant-loop-range l = ranges_refused l.scope (drop l.range-index l.ranges) ≡ ranges_refused l.scope l.ranges
