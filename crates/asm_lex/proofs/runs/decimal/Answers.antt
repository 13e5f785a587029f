use Rattle.std.proofs.Common.{arith}
use Rattle.asm_lex_theory.proofs.Places.{too_many}
use Rattle.asm_lex.proofs.runs.decimal.Goals as goal

pub returns-then-value-next : goal.returns-then-value-next
returns-then-value-next c = too_many c.args.digits.now c.loop-digit.digit-index c.loop-digit.value c.loop-digit-test.true c.loop-digit.invariant.value (omega (arith, c.saturating_sub-next.ensures))
