use Rattle.asm_board.proofs.FirstClash.{none-IsConsistent, some-IsClash, one_location}
use Rattle.asm_value.specs.UpdateSet.{items}
use Rattle.asm_board.proofs.laws.a_first_clash_is_a_clash.Goals as goal

pub returns-clause-none : goal.returns-clause-none
returns-clause-none c = none-IsConsistent

pub returns-clause-some : goal.returns-clause-some
returns-clause-some c updates u v some = (one_location (items updates) u v some, some-IsClash updates u v some)
