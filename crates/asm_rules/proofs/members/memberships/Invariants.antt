-- The updates so far are those of the indexes passed.
use Rattle.std.proofs.Common.{◌≡◌}
use Rattle.std.specs.List.{range_with_len}
use Rattle.asm_program.specs.Yields as spec
use Rattle.asm_rules.proofs.members.memberships.Given as goal

abbrev pub invariant-loop-index : goal.invariant-loop-index
invariant-loop-index l = l.updates ≡ spec.memberships l.domain (range_with_len l.first l.index)
