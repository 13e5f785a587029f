use Rattle.std.proofs.Common.{arith}
use Rattle.asm_board.proofs.Entries.{journal_weighs}
use Rattle.asm_board.proofs.laws.a_journal_weighs_what_its_entries_do.Goals as goal

pub returns-clause-sum : goal.returns-clause-sum
returns-clause-sum c m journal legal = (journal_weighs m c.args.room journal (omega arith) legal).0

pub returns-clause-within : goal.returns-clause-within
returns-clause-within c m journal legal = (journal_weighs m c.args.room journal (omega arith) legal).1
