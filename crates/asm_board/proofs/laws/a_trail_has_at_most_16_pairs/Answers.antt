use Rattle.asm_board.proofs.Wholes.{each_has_few}
use Rattle.asm_board.proofs.laws.a_trail_has_at_most_16_pairs.Goals as goal

pub returns : goal.returns
returns c m journal = each_has_few m journal
