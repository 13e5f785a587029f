-- A part is smaller than the formula.
use Rattle.std.proofs.Common.{◌+◌, ◌*◌}
use Rattle.asm_compose.proofs.FormulaParts.{size}
use Rattle.asm_compose.proofs.run.+run.Given as goal

abbrev pub decreases-run_part : goal.decreases-run_part
decreases-run_part g l = 5 * size l.formula.now

abbrev pub decreases-run_beside : goal.decreases-run_beside
decreases-run_beside g l = 5 * size l.part.now + 1

abbrev pub decreases-run_left : goal.decreases-run_left
decreases-run_left g l = 5 * size l.left.now + 2

abbrev pub decreases-run_right : goal.decreases-run_right
decreases-run_right g l = 5 * size l.right.now + 2

abbrev pub decreases-run_on : goal.decreases-run_on
decreases-run_on g l = 5 * size l.right.now + 3

abbrev pub decreases-run_both : goal.decreases-run_both
decreases-run_both g l = 5 * (size l.left.now + size l.right.now) + 4
