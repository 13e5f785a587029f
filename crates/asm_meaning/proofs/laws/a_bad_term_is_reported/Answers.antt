-- What the function reports is what is reported of the text.
use Rattle.asm_meaning.proofs.Terms.{bad_sound, bad_complete}
use Rattle.asm_meaning.proofs.laws.a_bad_term_is_reported.Goals as goal

pub returns : goal.returns
returns c program wanted text why = (bad_sound program wanted text why, bad_complete program wanted text why)
