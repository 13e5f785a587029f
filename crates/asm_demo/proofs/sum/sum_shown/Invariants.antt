-- The sum so far is that of the pairs that were passed.
use Rattle.std.proofs.Common.{◌≡◌, ◌-◌, ◌^◌, min, sum_by, take}
use Rattle.asm_demo.specs.Sums.{value_in}
use Rattle.asm_demo.proofs.sum.sum_shown.Given as goal

abbrev pub invariant-loop-pair : goal.invariant-loop-pair
invariant-loop-pair l = l.sum ≡ min (sum_by value_in (take l.pair-index l.pair-items)) (2 ^ 64 - 1)
