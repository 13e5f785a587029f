use Rattle.asm_board.proofs.Waiting.{read_ahead, log_answer, read_answer}
use Rattle.asm_board.proofs.laws.a_read_is_ahead_or_shows_what_it_asks_for.Goals as goal

pub returns-clause-ahead : goal.returns-clause-ahead
returns-clause-ahead c m journal seat call is h = read_ahead m c.args.room journal seat call is h

pub returns-clause-log : goal.returns-clause-log
returns-clause-log c m journal seat call is h = log_answer m c.args.room journal seat call is h

pub returns-clause-shown : goal.returns-clause-shown
returns-clause-shown c m journal seat call is other h = read_answer m c.args.room journal seat call is other h
