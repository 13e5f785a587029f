use Rattle.asm_typing.proofs.JoinLaws.{fits_what_it_joins_to}
use Rattle.asm_typing.proofs.laws.a_type_fits_what_it_joins_to.Goals as goal

pub returns : goal.returns
returns c = fits_what_it_joins_to
