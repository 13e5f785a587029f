use Rattle.asm_typing.proofs.JoinLaws.{all_fit_their_join, their_join_is_least}
use Rattle.asm_typing.proofs.laws.a_join_of_all_is_the_least_that_all_fit.Goals as goal

pub returns-clause-all_fit : goal.returns-clause-all_fit
returns-clause-all_fit c = all_fit_their_join

pub returns-clause-least : goal.returns-clause-least
returns-clause-least c = their_join_is_least
