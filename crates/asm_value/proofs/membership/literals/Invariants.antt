-- The literals so far are those below the index.
use Rattle.std.proofs.Common.{◌≡◌}
use Rattle.std.specs.List.{range_with_len}
use Rattle.asm_value.specs.Members.{members_at}
use Rattle.asm_value.proofs.membership.literals.Given as goal

abbrev pub invariant-loop-index : goal.invariant-loop-index
invariant-loop-index l = l.list ≡ members_at l.domain (range_with_len 0 l.index)
