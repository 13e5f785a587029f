use Rattle.asm_typing.proofs.DomainLaws.{is_type_of_its_domain, domains_are_typed}
use Rattle.asm_typing.proofs.laws.a_type_is_that_of_its_domain.Goals as goal

pub returns-clause-of_its_domain : goal.returns-clause-of_its_domain
returns-clause-of_its_domain c = is_type_of_its_domain

pub returns-clause-typed : goal.returns-clause-typed
returns-clause-typed c = domains_are_typed
