-- What the function gives is the one meaning.
use Rattle.asm_meaning.proofs.Terms.{one_meaning}
use Rattle.asm_meaning.proofs.laws.each_term_has_one_meaning.Goals as goal

pub returns : goal.returns
returns c = one_meaning
