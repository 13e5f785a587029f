use Rattle.std.proofs.Common.{◌≡◌, ◌+◌, ◌≤◌, take}
use Rattle.std.specs.Prelude.{◌==◌, not, count_by}
use Rattle.std.specs.List.{suffix_len}
use Rattle.asm_showing.proofs.faults.place_of.Given as goal

-- the lines and the columns of the bytes so far
abbrev pub invariant-loop-i : goal.invariant-loop-i
invariant-loop-i l = record {
  line : l.line ≡ 1 + count_by (λ b. b == 10) (take l.i l.bytes);
  column : l.column ≡ 1 + suffix_len (λ b. not (b == 10)) (take l.i l.bytes);
  lines : l.line ≤ 1 + l.i;
  columns : l.column ≤ 1 + l.i;
}
