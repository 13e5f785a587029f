use Rattle.asm_wire.proofs.Asked.{asks_one}
use Rattle.asm_wire.proofs.laws.a_line_asks_for_one_thing.Goals as goal

pub returns : goal.returns
returns c = asks_one
