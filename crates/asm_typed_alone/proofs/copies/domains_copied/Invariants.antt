-- The copies so far are those of what was passed.
use Rattle.std.proofs.Common.{◌≡◌, take}
use Rattle.asm_typed_alone.proofs.copies.domains_copied.Given as goal

abbrev pub invariant-loop-info : goal.invariant-loop-info
invariant-loop-info l = l.copies ≡ take l.info-index l.domains
