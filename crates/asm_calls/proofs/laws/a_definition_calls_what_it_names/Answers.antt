use Rattle.asm_calls.proofs.CallLaws.{calls_named}
use Rattle.asm_calls.proofs.laws.a_definition_calls_what_it_names.Goals as goal

-- The law as it is proved.
pub returns : goal.returns
returns c = calls_named
