-- The items passed so far have come to the end.
use Rattle.std.proofs.Common.{◌≡◌, ◌++◌, take}
use Rattle.asm_operations.proofs.sequences.add_copies.Given as goal

abbrev pub invariant-loop-item : goal.invariant-loop-item
invariant-loop-item l = l.list ≡ l.initial.list ++ take l.item-index l.more
