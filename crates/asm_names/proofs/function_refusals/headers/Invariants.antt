use Rattle.std.proofs.Common.{◌≡◌, ◌++◌, drop}
use Rattle.asm_names.specs.Passes.{missing_from, headers_among}
use Rattle.asm_names.proofs.function_refusals.headers.Given as goal

abbrev pub invariant-loop-decl : goal.invariant-loop-decl
invariant-loop-decl l =
    (missing_from l.defined l.names (drop l.decl-index l.decls) ≡ missing_from l.defined l.names l.decls)
    × (l.headers ++ headers_among l.defined l.names (drop l.decl-index l.decls) ≡ headers_among l.defined l.names l.decls)
