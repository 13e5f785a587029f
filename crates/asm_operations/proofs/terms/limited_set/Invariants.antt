-- The items that are left give the same set as all.
use Rattle.std.proofs.Common.{◌≡◌, drop}
use Rattle.asm_operations.specs.Sets.{with_items, set_items}
use Rattle.asm_operations.proofs.terms.limited_set.Given as goal

abbrev pub invariant-loop-item : goal.invariant-loop-item
invariant-loop-item l = with_items l.set.items (drop l.item-index l.items) ≡ set_items l.items
