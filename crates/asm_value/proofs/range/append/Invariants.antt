-- What is appended so far are the lists passed.
use Rattle.std.proofs.Common.{◌≡◌, ◌++◌, take}
use Rattle.asm_value.proofs.range.append.Given as goal

abbrev pub invariant-loop-list : goal.invariant-loop-list
invariant-loop-list l = l.all ≡ l.initial.all ++ take l.list-index l.lists
