use Rattle.asm_checking.proofs.Meanings.{program_found}
use Rattle.asm_checking.proofs.texts.program_of.Goals as goal

pub returns : goal.returns
returns c = program_found c.args.text.now c.meaning_of.result c.meaning_of.ensures
