use Rattle.asm_typed_calls.proofs.Laws.{macros_ranked}
use Rattle.asm_typed_calls.proofs.calls.macros_of_an_unrefused_text_are_ranked.Goals as goal

-- The law as it is proved.
pub returns : goal.returns
returns c = macros_ranked
