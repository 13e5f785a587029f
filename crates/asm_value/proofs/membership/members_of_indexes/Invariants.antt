-- The members so far are those of the indexes passed.
use Rattle.std.proofs.Common.{◌≡◌, take}
use Rattle.asm_value.specs.Members.{members_at}
use Rattle.asm_value.proofs.membership.members_of_indexes.Given as goal

abbrev pub invariant-loop-index : goal.invariant-loop-index
invariant-loop-index l = l.list ≡ members_at l.domain (take l.index-index l.indexes)
