use Rattle.std.proofs.Common.{◌≡◌, ◌++◌, drop, length}
use Rattle.asm_types.specs.Assembled.{infos_from}
use Rattle.asm_types.proofs.functions.function_infos.Given as goal

abbrev pub invariant-loop-at : goal.invariant-loop-at
invariant-loop-at l =
    (l.infos ++ infos_from l.counts l.at (drop l.at l.names) (drop l.at l.headers) (drop l.at l.bodies.items)
    ≡ infos_from l.counts 0 l.names l.headers l.fn.bodies.items)
    × (length l.names ≡ length l.bodies.items)
