use Rattle.std.proofs.Common.{◌≡◌, ◌++◌, drop}
use Rattle.asm_names.specs.Passes.{constants_among}
use Rattle.asm_names.proofs.constants.constants.Given as goal

abbrev pub invariant-loop-decl : goal.invariant-loop-decl
invariant-loop-decl l =
    l.constants ++ constants_among l.defined l.names (drop l.decl-index l.decls) ≡ constants_among l.defined l.names l.decls
