-- The first refusal is the one that is told, and what is defined is what the text defines.
use Rattle.asm_typed_models.proofs.Whole.{all-checked}
use Rattle.asm_typed_models.proofs.models.definitions_typed.Goals as goal

pub returns : goal.returns
returns c = all-checked _ _ c.requires.declared _ _ c.requires.scoped c.all_typed.ensures
