-- So far the indexes that were passed.
use Rattle.std.proofs.Common.{◌≡◌, take}
use Rattle.asm_terms.proofs.live.copied.Given as goal

abbrev pub invariant-loop-index : goal.invariant-loop-index
invariant-loop-index l = l.list ≡ take l.index-index l.indexes
