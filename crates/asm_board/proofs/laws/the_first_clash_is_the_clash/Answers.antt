use Rattle.asm_board.proofs.FirstClash.{IsConsistent-none, IsClash-some}
use Rattle.asm_board.proofs.laws.the_first_clash_is_the_clash.Goals as goal

pub returns-clause-none : goal.returns-clause-none
returns-clause-none c = IsConsistent-none

pub returns-clause-some : goal.returns-clause-some
returns-clause-some c = IsClash-some
