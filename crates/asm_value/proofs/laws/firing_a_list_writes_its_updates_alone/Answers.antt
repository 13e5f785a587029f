-- What firing a list leaves at each location.
use Rattle.asm_value.proofs.FiringLaws.{value_at-fire_all-member, value_at-fire_all-other}
use Rattle.asm_value.proofs.laws.firing_a_list_writes_its_updates_alone.Goals as goal

pub returns-clause-written : goal.returns-clause-written
returns-clause-written c = value_at-fire_all-member

pub returns-clause-others : goal.returns-clause-others
returns-clause-others c = value_at-fire_all-other
