use Rattle.asm_board.proofs.Wholes.{each_meets}
use Rattle.asm_board.proofs.laws.each_model_meets_its_invariants.Goals as goal

pub returns : goal.returns
returns c m journal = each_meets m journal
