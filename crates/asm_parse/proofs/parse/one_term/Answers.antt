use Rattle.asm_parse.proofs.Once.{one_term_of}
use Rattle.asm_parse.proofs.parse.one_term.Goals as goal

pub returns : goal.returns
returns c = λ text. one_term_of text (c.one_reading.ensures text)
