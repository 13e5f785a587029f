use Rattle.asm_parse.proofs.Once.{one_model_of}
use Rattle.asm_parse.proofs.parse.one_tree.Goals as goal

pub returns : goal.returns
returns c = λ text. one_model_of text (c.one_reading.ensures text)
