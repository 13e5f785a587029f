-- The indexes so far are the lengths of the lists passed.
use Rattle.std.proofs.Common.{◌≡◌, map, take, length}
use Rattle.asm_rules.proofs.members.Next.at_the_start.Given as goal

abbrev pub invariant-loop-members : goal.invariant-loop-members
invariant-loop-members l = l.indexes.items ≡ map length (take l.members-index l.members-items)
