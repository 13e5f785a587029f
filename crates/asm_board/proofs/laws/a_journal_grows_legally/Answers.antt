use Rattle.asm_board.proofs.Legal.{grows_legally}
use Rattle.asm_board.proofs.laws.a_journal_grows_legally.Goals as goal

pub returns : goal.returns
returns c m journal seat call legal = grows_legally m c.args.room journal seat call legal
