use Rattle.asm_checking.proofs.Meanings.{model_untyped}
use Rattle.asm_checking.proofs.texts.meaning_of_tree.Goals as goal

pub returns-in-Ok : goal.returns-in-Ok
returns-in-Ok c = record { tree = c.args.tree.now; model = c.requires; typed = c.in-Ok.ensures.ok }

pub returns-in_ok-untyped-in-Err : goal.returns-in_ok-untyped-in-Err
returns-in_ok-untyped-in-Err c =
    model_untyped c.args.text.now c.args.tree.now c.in-Err.why c.in_ok-untyped-in-Err.field-0 c.requires c.in-Err.ensures.err c.in_ok-untyped-in-Err.ensures.some c.in_ok-untyped-in-Err.ensures.told
