-- What the function reports is what is reported of the text.
use Rattle.asm_meaning.proofs.Texts.{bad_sound, bad_complete}
use Rattle.asm_meaning.proofs.laws.a_bad_text_is_reported.Goals as goal

pub returns : goal.returns
returns c text why = (bad_sound text why, bad_complete text why)
