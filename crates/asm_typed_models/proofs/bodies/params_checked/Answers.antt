-- The first refusal is the one that is told.
use Rattle.asm_typed_models.proofs.Steps.{params-passed}
use Rattle.asm_typed_models.proofs.bodies.params_checked.Goals as goal

pub returns : goal.returns
returns c = params-passed _ _ _ c.params_enumerable.ensures
