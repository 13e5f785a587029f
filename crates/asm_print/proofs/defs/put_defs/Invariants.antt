use Rattle.std.proofs.Common.{◌≡◌, map, drop}
use Rattle.asm_print.specs.LineParts.{def_line}
use Rattle.asm_print_terms.specs.Lines.{with_lines}
use Rattle.asm_print.proofs.defs.put_defs.Given as goal

abbrev pub invariant-loop-def : goal.invariant-loop-def
invariant-loop-def l = with_lines l.out (map def_line (drop l.def-index l.defs)) ≡ with_lines l.initial.out (map def_line l.defs)
