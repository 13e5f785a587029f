-- What the definitions that come yet refuse and add is what all do.
use Rattle.std.proofs.Common.{◌≡◌, drop}
use Rattle.asm_limits.specs.Walks.{rest_of, defs_limited, defs_work}
use Rattle.asm_limits.proofs.walks.limited_definitions.Given as goal

abbrev pub invariant-loop-definition : goal.invariant-loop-definition
invariant-loop-definition l =
    (defs_limited l.known.domains.now l.known.functions.now l.known.macros.now l.scope l.bodies
    (rest_of l.rest) (drop l.definition-index l.defs)
    ≡ defs_limited l.known.domains.now l.known.functions.now l.known.macros.now l.scope l.bodies
    (rest_of l.left) l.defs)
    × (defs_work l.known.domains.now l.known.functions.now l.known.macros.now l.scope l.bodies
    (rest_of l.rest) (drop l.definition-index l.defs)
    ≡ defs_work l.known.domains.now l.known.functions.now l.known.macros.now l.scope l.bodies
    (rest_of l.left) l.defs)
