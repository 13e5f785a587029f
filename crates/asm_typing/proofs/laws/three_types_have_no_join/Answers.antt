use Rattle.asm_typing.proofs.Examples.{joins_of_three}
use Rattle.asm_typing.proofs.laws.three_types_have_no_join.Goals as goal

pub returns : goal.returns
returns c = joins_of_three
