-- Calls nest at most 256 deep, and following them deeper changes nothing.
use Rattle.asm_program.specs.MeaningLaws.{values-body, values-none}
use Rattle.asm_program.proofs.term_laws.a_call_gives_what_its_body_gives.Goals as goal

pub returns : goal.returns
returns c = record { body = values-body; none = values-none }
