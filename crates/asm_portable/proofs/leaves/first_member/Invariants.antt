-- No member so far goes by the name, so the rest decides.
use Rattle.std.proofs.Common.{◌≡◌, drop}
use Rattle.asm_portable.specs.Reading.{first_named}
use Rattle.asm_portable.proofs.leaves.first_member.Given as goal

abbrev pub invariant-loop-index : goal.invariant-loop-index
invariant-loop-index l =
    first_named l.domains l.domain (drop l.index-index l.indexes) l.name
    ≡ first_named l.domains l.domain l.indexes l.name
