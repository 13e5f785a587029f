use Rattle.std.proofs.Common.{◌≡◌, ◌+◌, ◌-◌, ◌≤◌, length, drop}
use Rattle.std.specs.List.{prefix_len}
use Rattle.asm_formula.specs.Tokens.{is_name_byte}
use Rattle.asm_formula.proofs.front.run.Given as goal

abbrev pub invariant-loop-end : goal.invariant-loop-end
invariant-loop-end l = record {
  from : l.from ≤ l.end;
  within : l.end ≤ length l.bytes;
  rest : l.end + prefix_len is_name_byte (drop l.end l.bytes) ≡ l.from + prefix_len is_name_byte (drop l.from l.bytes);
}

abbrev pub decreases-loop-end : goal.decreases-loop-end
decreases-loop-end l = length l.initial.bytes - l.end
