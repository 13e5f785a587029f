-- The members so far have the indexes passed.
use Rattle.std.proofs.Common.{◌≡◌}
use Rattle.std.specs.List.{range_with_len}
use Rattle.asm_program.specs.Yields as spec
use Rattle.asm_rules.proofs.members.new_members.Given as goal

abbrev pub invariant-loop-index : goal.invariant-loop-index
invariant-loop-index l = l.members ≡ spec.new_members l.domain (range_with_len l.first l.index)
