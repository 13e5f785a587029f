-- The first refusal is the one that is told.
use Rattle.asm_typed.proofs.Refusals.{gives-checks}
use Rattle.asm_typed_rules.proofs.rules.rule_typed.Goals as goal

pub returns-clause-typed : goal.returns-clause-typed
returns-clause-typed c = gives-checks _ _ _ c.rule_at.ensures.typed
