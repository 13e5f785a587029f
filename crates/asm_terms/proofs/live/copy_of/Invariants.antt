-- So far the lists that were passed.
use Rattle.std.proofs.Common.{◌≡◌, take}
use Rattle.asm_terms.proofs.live.copy_of.Given as goal

abbrev pub invariant-loop-indexes : goal.invariant-loop-indexes
invariant-loop-indexes l = l.members ≡ take l.indexes-index l.live.members
