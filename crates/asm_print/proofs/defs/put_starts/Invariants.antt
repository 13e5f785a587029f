use Rattle.std.proofs.Common.{◌≡◌, map, drop}
use Rattle.asm_print.specs.LineParts.{start_line}
use Rattle.asm_print_terms.specs.Lines.{with_lines}
use Rattle.asm_print.proofs.defs.put_starts.Given as goal

abbrev pub invariant-loop-start : goal.invariant-loop-start
invariant-loop-start l = with_lines l.out (map start_line (drop l.start-index l.starts)) ≡ with_lines l.initial.out (map start_line l.starts)
