-- The members so far are there.
use Rattle.std.proofs.Common.{◌≡◌}
use Rattle.std.specs.List.{range_with_len}
use Rattle.asm_program.specs.Initial.{with_members}
use Rattle.asm_terms.proofs.start.add_members.Given as goal

abbrev pub invariant-loop-index : goal.invariant-loop-index
invariant-loop-index l =
    l.state ≡ with_members l.domain (range_with_len 0 l.index) l.fn.state
