use Rattle.std.proofs.Common.{◌≡◌, ◌++◌, not, filter, drop}
use Rattle.std.specs.Str.{bytes_eq}
use Rattle.asm_core.proofs.invariants.without_one.Given as goal

-- those that stay of the ones before, and of the others
abbrev pub invariant-loop-other : goal.invariant-loop-other
invariant-loop-other l =
    l.others ++ filter (λ inv. not (bytes_eq l.name inv.name)) (drop l.other-index l.invs) ≡ filter (λ inv. not (bytes_eq l.name inv.name)) l.invs
