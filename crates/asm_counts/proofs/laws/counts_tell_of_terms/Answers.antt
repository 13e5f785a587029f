use Rattle.asm_counts.proofs.TermLaw.{terms-told}
use Rattle.asm_counts.proofs.laws.counts_tell_of_terms.Goals as goal

-- The law as it is proved.
pub returns : goal.returns
returns c = terms-told
