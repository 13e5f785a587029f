use Rattle.asm_typing.proofs.JoinLaws.{both_fit_the_join, the_join_is_least}
use Rattle.asm_typing.proofs.laws.a_join_is_the_least_that_both_fit.Goals as goal

pub returns-clause-both_fit : goal.returns-clause-both_fit
returns-clause-both_fit c = both_fit_the_join

pub returns-clause-least : goal.returns-clause-least
returns-clause-least c = the_join_is_least
