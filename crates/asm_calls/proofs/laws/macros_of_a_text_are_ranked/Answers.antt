use Rattle.asm_calls.proofs.TextNested.{text_macros_ranked}
use Rattle.asm_calls.proofs.laws.macros_of_a_text_are_ranked.Goals as goal

-- The law as it is proved.
pub returns : goal.returns
returns c = text_macros_ranked
