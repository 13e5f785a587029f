use Rattle.asm_counts.proofs.RuleLaw.{rules-told}
use Rattle.asm_counts.proofs.laws.counts_tell_of_rules.Goals as goal

-- The law as it is proved.
pub returns : goal.returns
returns c = rules-told
