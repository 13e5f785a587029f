-- Lists of unlike lengths have no joins.
use Rattle.asm_typing.proofs.TypeSteps.{joins-lengths}
use Rattle.asm_typing.proofs.joining.+join.Goals as goal

pub joins-returns-then-types-others : goal.joins-returns-then-types-others
joins-returns-then-types-others t c =
    joins-lengths c.args.types.now c.args.others.now c.if-types-others.true
