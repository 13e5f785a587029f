use Rattle.std.proofs.Common.{rules, refl, arith}
use Rattle.asm_io.proofs.line_buf.LineBuf.new.Goals as goal

pub invariant_of-result : goal.invariant_of-result
invariant_of-result c = record {
  size = search rules;
  line_order = omega arith;
  line_room = omega arith;
  start_order = omega arith;
  seen_order = omega arith;
  room = omega arith;
  looked = refl;
  quiet = λ e. refl;
  quiet_over = λ e. refl;
  quiet_budget = λ e. absurd (cc);
}
