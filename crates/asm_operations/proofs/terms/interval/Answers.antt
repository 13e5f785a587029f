-- More than 256 integers.
use Rattle.std.proofs.Common.{sym, arith, to_z-of_z}
use Rattle.std.proofs.lemmas.Int.{ints}
use Rattle.asm_operations.proofs.Intervals.{interval-long}
use Rattle.asm_operations.proofs.terms.interval.Goals as goal

pub returns-else-gap-lt256 : goal.returns-else-gap-lt256
returns-else-gap-lt256 c =
    let first = c.ranges.first in
    let last = c.ranges.last in
    let gap = simp to_z-of_z at c.abs_diff-gap.ensures in
    sym (interval-long c.args.first c.args.last (omega (arith, ints)) (omega (arith, gap)))
