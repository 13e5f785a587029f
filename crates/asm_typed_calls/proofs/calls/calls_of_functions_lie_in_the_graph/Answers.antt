use Rattle.asm_typed_calls.proofs.Laws.{functions_lie}
use Rattle.asm_typed_calls.proofs.calls.calls_of_functions_lie_in_the_graph.Goals as goal

-- The law as it is proved.
pub returns : goal.returns
returns c = functions_lie
