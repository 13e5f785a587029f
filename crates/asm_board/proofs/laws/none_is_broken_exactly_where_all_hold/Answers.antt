use Rattle.asm_board.proofs.Contents.{all_hold, none_broken}
use Rattle.asm_board.proofs.laws.none_is_broken_exactly_where_all_hold.Goals as goal

pub returns : goal.returns
returns c program state invs = (all_hold program state invs, none_broken program state invs)
