-- No literal so far goes by the name, so the rest decides.
use Rattle.std.proofs.Common.{◌≡◌, ◌-◌}
use Rattle.std.specs.List.{range_with_len}
use Rattle.asm_portable.specs.Reading.{first_named}
use Rattle.asm_portable.proofs.leaves.first_literal.Given as goal

abbrev pub invariant-loop-index : goal.invariant-loop-index
invariant-loop-index l =
    first_named l.domains l.domain (range_with_len l.index (l.count - l.index)) l.name
    ≡ first_named l.domains l.domain (range_with_len 0 l.count) l.name
