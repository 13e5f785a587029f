use Rattle.asm_checking.proofs.Meanings.{term_found}
use Rattle.asm_checking.proofs.terms.term_of.Goals as goal

pub returns : goal.returns
returns c = term_found c.args.program.now c.args.wanted c.args.text.now c.meaning_of.result c.meaning_of.ensures
