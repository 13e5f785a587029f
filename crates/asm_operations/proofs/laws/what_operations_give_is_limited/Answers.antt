-- Whatever is given went through the limits.
use Rattle.asm_operations.proofs.laws.what_operations_give_is_limited.Goals as goal
use Rattle.asm_operations.proofs.LimitLaws as results

pub returns-clause-apply : goal.returns-clause-apply
returns-clause-apply c = results.limited_apply

pub returns-clause-tuples : goal.returns-clause-tuples
returns-clause-tuples c = results.limited_tuple

pub returns-clause-sequences : goal.returns-clause-sequences
returns-clause-sequences c = results.limited_sequence

pub returns-clause-sets : goal.returns-clause-sets
returns-clause-sets c = results.limited_set

pub returns-clause-intervals : goal.returns-clause-intervals
returns-clause-intervals c = results.limited_interval
