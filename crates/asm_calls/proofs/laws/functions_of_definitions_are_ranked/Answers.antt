use Rattle.asm_calls.proofs.Nested.{functions_ranked}
use Rattle.asm_calls.proofs.laws.functions_of_definitions_are_ranked.Goals as goal

-- The law as it is proved.
pub returns : goal.returns
returns c = functions_ranked
