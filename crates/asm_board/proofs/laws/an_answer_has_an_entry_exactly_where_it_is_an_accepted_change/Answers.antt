use Rattle.asm_board.proofs.Entries.{entered}
use Rattle.asm_board.proofs.laws.an_answer_has_an_entry_exactly_where_it_is_an_accepted_change.Goals as goal

pub returns : goal.returns
returns c m journal seat call = entered m c.args.room journal seat call
