use Rattle.asm_typing.proofs.JoinLaws.{joins_either_way, joins_in_any_order}
use Rattle.asm_typing.proofs.laws.joins_have_no_order.Goals as goal

pub returns-clause-either_way : goal.returns-clause-either_way
returns-clause-either_way c = joins_either_way

pub returns-clause-of_three : goal.returns-clause-of_three
returns-clause-of_three c = joins_in_any_order
