-- What firing a set leaves at each location.
use Rattle.asm_value.proofs.FiringLaws.{value_at-fire-member, value_at-fire-other}
use Rattle.asm_value.proofs.laws.firing_writes_its_updates_alone.Goals as goal

pub returns-clause-written : goal.returns-clause-written
returns-clause-written c = value_at-fire-member

pub returns-clause-others : goal.returns-clause-others
returns-clause-others c = value_at-fire-other
