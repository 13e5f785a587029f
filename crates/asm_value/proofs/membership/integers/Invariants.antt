-- The values so far are the numbers passed.
use Rattle.std.proofs.Common.{◌≡◌, map, take}
use Rattle.asm_value.specs.declared.value.Value.TheVariants.{Int}
use Rattle.asm_value.proofs.membership.integers.Given as goal

abbrev pub invariant-loop-number : goal.invariant-loop-number
invariant-loop-number l = l.list ≡ map (λ n. Int n) (take l.number-index l.numbers)
