use Rattle.asm_board.proofs.Entries.{accepted_each}
use Rattle.asm_board.proofs.laws.each_entry_is_an_accepted_change.Goals as goal

pub returns : goal.returns
returns c m journal legal = accepted_each m c.args.room journal legal
