use Rattle.std.proofs.Common.{◌≡◌, map, drop}
use Rattle.asm_print.specs.LineParts.{decl_line}
use Rattle.asm_print_terms.specs.Lines.{with_lines}
use Rattle.asm_print.proofs.decls.put_decls.Given as goal

abbrev pub invariant-loop-decl : goal.invariant-loop-decl
invariant-loop-decl l = with_lines l.out (map decl_line (drop l.decl-index l.decls)) ≡ with_lines l.initial.out (map decl_line l.decls)
