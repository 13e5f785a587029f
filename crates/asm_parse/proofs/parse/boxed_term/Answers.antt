use Rattle.std.proofs.Common.{arith}
use Rattle.asm_parse.proofs.Answers.{term_to_end, term_in_part, term_not_read}
use Rattle.asm_parse.proofs.parse.boxed_term.Goals as goal

pub returns-else-left-gt0 : goal.returns-else-left-gt0
returns-else-left-gt0 c = term_to_end c.args.bytes _ c.read_term.new.tokens _ (rw c.new-cursor.ensures at c.in-Ok.ensures) (omega arith)

pub returns-then-left-gt0 : goal.returns-then-left-gt0
returns-then-left-gt0 c = term_in_part _ _ c.read_term.new.tokens c.in-Ok.tree _ (rw c.new-cursor.ensures at c.in-Ok.ensures) (λ n. omega arith) (rw c.rest.ensures at c.syntax.ensures)

pub returns-in-Err : goal.returns-in-Err
returns-in-Err c = term_not_read _ c.in-Err.why _ c.read_term.new.tokens _ (rw c.new-cursor.ensures at c.in-Err.ensures) (rw c.rest-in-Err.ensures at c.refusal.ensures)
