-- What the initial terms that come yet refuse and add is what all do.
use Rattle.std.proofs.Common.{◌≡◌, drop}
use Rattle.asm_limits.specs.Walks.{starts_rest, starts_limited, starts_work}
use Rattle.asm_limits.proofs.walks.limited_starts.Given as goal

abbrev pub invariant-loop-start : goal.invariant-loop-start
invariant-loop-start l =
    (starts_limited l.known.domains.now l.known.functions.now l.known.macros.now l.scope
    (starts_rest l.rest) (drop l.start-index l.starts)
    ≡ starts_limited l.known.domains.now l.known.functions.now l.known.macros.now l.scope
    (record { inits = l.inits; work = 0 }) l.starts)
    × (starts_work l.known.domains.now l.known.functions.now l.known.macros.now l.scope
    (starts_rest l.rest) (drop l.start-index l.starts)
    ≡ starts_work l.known.domains.now l.known.functions.now l.known.macros.now l.scope
    (record { inits = l.inits; work = 0 }) l.starts)
