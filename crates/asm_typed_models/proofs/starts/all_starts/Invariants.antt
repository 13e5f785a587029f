-- The initial terms so far, with those of the rest, are all.
use Rattle.std.proofs.Common.{◌≡◌, ◌++◌, drop}
use Rattle.asm_typed_models.specs.Forms.{starts_refused, inits_at}
use Rattle.asm_typed_models.proofs.starts.all_starts.Given as goal

abbrev pub invariant-loop-start : goal.invariant-loop-start
invariant-loop-start l =
    (starts_refused l.scope (drop l.start-index l.starts) ≡ starts_refused l.scope l.starts)
    × (l.inits ++ inits_at l.scope (drop l.start-index l.starts) ≡ inits_at l.scope l.starts)
