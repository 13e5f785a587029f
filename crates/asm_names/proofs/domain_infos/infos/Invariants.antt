use Rattle.std.proofs.Common.{◌≡◌, ◌≤◌, ◌++◌, drop}
use Rattle.asm_names.specs.Numbers.{domains_after}
use Rattle.asm_names.specs.Passes.{infos_among}
use Rattle.asm_names.proofs.domain_infos.infos.Given as goal

abbrev pub invariant-loop-decl : goal.invariant-loop-decl
invariant-loop-decl l =
    (l.domains ++ infos_among l.constants l.defs l.number (drop l.decl-index l.decls) ≡ infos_among l.constants l.defs 0 l.decls)
    × (domains_after l.number (drop l.decl-index l.decls) ≤ 256)
