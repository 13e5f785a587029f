-- The arguments copied so far.
use Rattle.std.proofs.Common.{◌≡◌, take}
use Rattle.asm_terms.proofs.functions.location_of.Given as goal

abbrev pub invariant-loop-value : goal.invariant-loop-value
invariant-loop-value l = l.copied ≡ take l.value-index l.args
