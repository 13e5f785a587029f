use Rattle.asm_checking.proofs.Causes.{term_reported}
use Rattle.asm_checking.proofs.terms.no_meaning.Goals as goal

pub returns : goal.returns
returns c program wanted =
    term_reported program wanted c.args.text.now c.args.why c.in_ok-unread.field-0 c.requires.cause c.in_ok-unread.ensures.some c.in_ok-unread.ensures.told
