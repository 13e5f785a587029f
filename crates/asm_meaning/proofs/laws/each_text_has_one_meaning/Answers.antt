-- What the function gives is the one meaning.
use Rattle.asm_meaning.proofs.Texts.{one_meaning}
use Rattle.asm_meaning.proofs.laws.each_text_has_one_meaning.Goals as goal

pub returns : goal.returns
returns c = one_meaning
