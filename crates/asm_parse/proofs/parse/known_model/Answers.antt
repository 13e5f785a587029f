use Rattle.std.proofs.Common.{arith}
use Rattle.asm_parse.proofs.Answers.{tree_to_end, tree_in_part, tree_not_read}
use Rattle.asm_parse.proofs.parse.known_model.Goals as goal

pub returns-then-left-eq0 : goal.returns-then-left-eq0
returns-then-left-eq0 c = tree_to_end c.args.bytes _ c.model_tree.new.tokens _ c.requires.known (rw c.new-cursor.ensures at c.in-Ok.ensures) (omega arith)

pub returns-else-left-eq0 : goal.returns-else-left-eq0
returns-else-left-eq0 c = tree_in_part c.args.bytes _ c.model_tree.new.tokens _ _ c.requires.known (rw c.new-cursor.ensures at c.in-Ok.ensures) (λ n. omega arith) (rw c.rest.ensures at c.syntax.ensures)

pub returns-in-Err : goal.returns-in-Err
returns-in-Err c = tree_not_read c.args.bytes c.in-Err.why _ c.model_tree.new.tokens _ c.requires.known (rw c.new-cursor.ensures at c.in-Err.ensures) (rw c.rest-in-Err.ensures at c.refusal.ensures)
