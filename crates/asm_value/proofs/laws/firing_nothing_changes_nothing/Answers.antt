-- The empty set has no update of any location.
use Rattle.asm_value.proofs.FiringLaws.{fire-empty}
use Rattle.asm_value.proofs.laws.firing_nothing_changes_nothing.Goals as goal

pub returns : goal.returns
returns c = fire-empty
