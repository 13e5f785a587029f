use Rattle.asm_checking.proofs.Canonicals.{tree_printed, none_printed}
use Rattle.asm_checking.proofs.canonical.canonical_of.Goals as goal

pub returns-in-Ok : goal.returns-in-Ok
returns-in-Ok c = tree_printed c.args.text.now c.in-Ok.tree c.print_model.result c.in-Ok.ensures.found c.print_model.ensures.text

pub returns-in-Err : goal.returns-in-Err
returns-in-Err c = none_printed c.args.text.now c.in-Err.why c.nothing.result c.in-Err.ensures.only c.nothing.ensures.some c.nothing.ensures.empty
