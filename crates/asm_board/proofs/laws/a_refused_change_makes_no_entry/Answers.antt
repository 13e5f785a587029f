use Rattle.asm_board.proofs.Firing.{no_entry}
use Rattle.asm_board.proofs.laws.a_refused_change_makes_no_entry.Goals as goal

pub returns : goal.returns
returns c m board seat call why refused = no_entry m c.args.room board seat call why refused
