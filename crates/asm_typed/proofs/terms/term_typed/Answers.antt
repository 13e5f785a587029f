-- The first refusal is the one that is told.
use Rattle.asm_typed.proofs.Refusals.{gives-checks}
use Rattle.asm_typed.proofs.terms.term_typed.Goals as goal

pub returns-clause-typed : goal.returns-clause-typed
returns-clause-typed c = gives-checks _ _ _ c.typed_at.ensures.typed
