use Rattle.asm_typing.proofs.FitLaws.{fits_itself, fits_onward, fit_both_ways}
use Rattle.asm_typing.proofs.laws.types_are_ordered.Goals as goal

pub returns-clause-itself : goal.returns-clause-itself
returns-clause-itself c = fits_itself

pub returns-clause-onward : goal.returns-clause-onward
returns-clause-onward c = fits_onward

pub returns-clause-both_ways : goal.returns-clause-both_ways
returns-clause-both_ways c = fit_both_ways
