use Rattle.std.proofs.Common.{◌≡◌, drop}
use Rattle.asm_names.specs.Numbers.{AreFew, with_names, decls_named}
use Rattle.asm_names.proofs.listing.add_decls.Given as goal

abbrev pub invariant-loop-decl : goal.invariant-loop-decl
invariant-loop-decl l =
    (with_names l.names (decls_named l.domain l.function (drop l.decl-index l.decls)) ≡ with_names l.initial.names (decls_named 0 0 l.decls))
    × AreFew l.domain l.function (drop l.decl-index l.decls)
