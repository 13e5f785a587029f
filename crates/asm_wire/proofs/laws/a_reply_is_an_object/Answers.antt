use Rattle.asm_wire.proofs.Objects.{reply_object}
use Rattle.asm_wire.proofs.laws.a_reply_is_an_object.Goals as goal

pub returns : goal.returns
returns c = reply_object
