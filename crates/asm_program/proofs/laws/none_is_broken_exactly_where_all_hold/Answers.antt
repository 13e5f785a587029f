use Rattle.asm_program.proofs.InvariantLaws.{none_broken}
use Rattle.asm_program.proofs.laws.none_is_broken_exactly_where_all_hold.Goals as goal

pub returns : goal.returns
returns c = none_broken
