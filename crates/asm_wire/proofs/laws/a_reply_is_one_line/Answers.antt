use Rattle.asm_wire.proofs.OneLine.{reply_unfed}
use Rattle.asm_wire.proofs.laws.a_reply_is_one_line.Goals as goal

pub returns : goal.returns
returns c = reply_unfed
