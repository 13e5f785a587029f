use Rattle.asm_board.proofs.Others.{others_stay}
use Rattle.asm_board.proofs.laws.a_change_leaves_other_models_as_they_were.Goals as goal

pub returns : goal.returns
returns c m board entry name outside = others_stay m board entry name outside
