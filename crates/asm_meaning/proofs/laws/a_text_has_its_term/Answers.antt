-- So is the term of its tree.
use Rattle.asm_meaning.proofs.Terms.{typed_sound, typed_complete}
use Rattle.asm_meaning.proofs.laws.a_text_has_its_term.Goals as goal

pub returns : goal.returns
returns c program wanted text term = (typed_sound program wanted text term, typed_complete program wanted text term)
