-- The domains copied so far are those that were passed.
use Rattle.std.proofs.Common.{◌≡◌, take}
use Rattle.asm_typed_alone.proofs.copies.+copy.Given as goal

abbrev pub invariant-all_copied-loop-domain : goal.invariant-all_copied-loop-domain
invariant-all_copied-loop-domain l = l.copies ≡ take l.domain-index l.domains
