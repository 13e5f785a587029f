-- The first refusal is the one that is told.
use Rattle.asm_typed_models.proofs.Steps.{rule-given}
use Rattle.asm_typed_models.proofs.bodies.rule_of.Goals as goal

pub returns : goal.returns
returns c = rule-given _ _ _ _ _ _ c.in_ok-variables.ensures c.rule_typed.ensures.typed
