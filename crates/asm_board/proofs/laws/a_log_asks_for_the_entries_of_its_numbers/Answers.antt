use Rattle.asm_board.proofs.Asked.{asked_is}
use Rattle.asm_board.proofs.laws.a_log_asks_for_the_entries_of_its_numbers.Goals as goal

pub returns : goal.returns
returns c m journal from count since legal = asked_is m c.args.room journal from count legal
