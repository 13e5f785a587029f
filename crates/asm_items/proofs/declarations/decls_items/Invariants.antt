use Rattle.std.proofs.Common.{◌≡◌, drop}
use Rattle.asm_items.specs.Views.{with_items}
use Rattle.asm_items.specs.Parts.{decls_items}
use Rattle.asm_items.proofs.declarations.decls_items.Given as goal

abbrev pub invariant-loop-decl : goal.invariant-loop-decl
invariant-loop-decl l = with_items l.items (decls_items (drop l.decl-index l.decls)) ≡ with_items l.initial.items (decls_items l.decls)
