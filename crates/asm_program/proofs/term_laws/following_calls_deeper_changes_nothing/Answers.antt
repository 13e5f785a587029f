-- Calls nest at most 256 deep.
use Rattle.asm_program.specs.MeaningLaws.{values-deeper}
use Rattle.asm_program.proofs.term_laws.following_calls_deeper_changes_nothing.Goals as goal

pub returns : goal.returns
returns c = values-deeper
