use Rattle.asm_calls.proofs.Nested.{macros_ranked}
use Rattle.asm_calls.proofs.laws.macros_of_definitions_are_ranked.Goals as goal

-- The law as it is proved.
pub returns : goal.returns
returns c = macros_ranked
