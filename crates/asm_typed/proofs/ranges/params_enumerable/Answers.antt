-- What is refused of parameters is what is refused of their ranges.
use Rattle.asm_typed.proofs.InRanges.{ranges-checked}
use Rattle.asm_typed.proofs.ranges.params_enumerable.Goals as goal

pub returns : goal.returns
returns c = ranges-checked _ _ _ c.params_checked.ensures
