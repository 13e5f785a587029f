-- So far the indexes that were passed and are above.
use Rattle.std.proofs.Common.{◌≡◌, ◌++◌, filter, take, nat_lt}
use Rattle.asm_terms.proofs.live.add_above.Given as goal

abbrev pub invariant-loop-other : goal.invariant-loop-other
invariant-loop-other l =
    l.into ≡ l.fn.into ++ filter (λ i. nat_lt l.index i) (take l.other-index l.indexes)
