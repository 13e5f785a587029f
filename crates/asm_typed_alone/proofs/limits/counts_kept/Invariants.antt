-- The counts so far are those of the functions that were passed.
use Rattle.std.proofs.Common.{◌≡◌, map, take}
use Rattle.asm_typed_alone.specs.Kept.{kept_counts}
use Rattle.asm_typed_alone.proofs.limits.counts_kept.Given as goal

abbrev pub invariant-loop-info : goal.invariant-loop-info
invariant-loop-info l = l.counts ≡ map kept_counts (take l.info-index l.functions)
