use Rattle.asm_typing.proofs.ValueLaws.{untyped_has_none, fits_with_its_values}
use Rattle.asm_typing.proofs.ValueLaws.{has_values_of_its_domain}
use Rattle.asm_typing.proofs.laws.types_have_values.Goals as goal

pub returns-clause-untyped : goal.returns-clause-untyped
returns-clause-untyped c = untyped_has_none

pub returns-clause-fitting : goal.returns-clause-fitting
returns-clause-fitting c = fits_with_its_values

pub returns-clause-of_domains : goal.returns-clause-of_domains
returns-clause-of_domains c = has_values_of_its_domain
