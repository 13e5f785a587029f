-- The sets so far are those of the lists passed.
use Rattle.std.proofs.Common.{◌≡◌, map, take}
use Rattle.asm_value.specs.declared.value.Value.TheVariants.{Set}
use Rattle.asm_value.proofs.membership.set_values.Given as goal

abbrev pub invariant-loop-list : goal.invariant-loop-list
invariant-loop-list l = l.all ≡ map (λ xs. Set xs) (take l.list-index l.lists)
