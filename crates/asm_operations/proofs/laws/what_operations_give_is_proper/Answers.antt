-- By what each row gives, and by the building of sets.
use Rattle.asm_operations.proofs.ProperResults as results
use Rattle.asm_operations.proofs.laws.what_operations_give_is_proper.Goals as goal

pub returns-clause-apply : goal.returns-clause-apply
returns-clause-apply c = results.proper_apply

pub returns-clause-tuples : goal.returns-clause-tuples
returns-clause-tuples c = results.proper_tuple_of

pub returns-clause-sequences : goal.returns-clause-sequences
returns-clause-sequences c = results.proper_sequence_of

pub returns-clause-sets : goal.returns-clause-sets
returns-clause-sets c = results.proper_set_of

pub returns-clause-intervals : goal.returns-clause-intervals
returns-clause-intervals c = results.proper_interval_of
