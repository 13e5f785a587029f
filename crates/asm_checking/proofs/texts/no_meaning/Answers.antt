use Rattle.asm_checking.proofs.Causes.{model_reported}
use Rattle.asm_checking.proofs.texts.no_meaning.Goals as goal

pub returns : goal.returns
returns c =
    model_reported c.args.text.now c.args.why c.in_ok-unread.field-0 c.requires.cause c.in_ok-unread.ensures.some c.in_ok-unread.ensures.told
