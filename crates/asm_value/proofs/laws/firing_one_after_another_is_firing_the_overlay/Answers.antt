-- Both states have the same value at each location.
use Rattle.asm_value.proofs.StateLaws.{fire-overlaid, overlaid-IsConsistent}
use Rattle.asm_value.proofs.laws.firing_one_after_another_is_firing_the_overlay.Goals as goal

pub returns-clause-same : goal.returns-clause-same
returns-clause-same c = fire-overlaid

pub returns-clause-consistent : goal.returns-clause-consistent
returns-clause-consistent c = overlaid-IsConsistent
