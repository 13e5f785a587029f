-- the pairs copied, and those still to copy
use Rattle.std.proofs.Common.{◌≡◌, ◌++◌, drop}
use Rattle.asm_trail.proofs.trail.copies_of.Given as goal

abbrev pub invariant-loop-pair : goal.invariant-loop-pair
invariant-loop-pair l = l.copies ++ drop l.pair-index l.pairs ≡ l.pairs
