use Rattle.std.proofs.Common.{false, sym}
use Rattle.asm_board.specs.Boards.{spoken_of}
use Rattle.asm_board.specs.Changes.{change}
use Rattle.asm_core.specs.Language.{asmeta}
use Rattle.asm_core.proofs.Standing.{if_ok, stands_change}
use Rattle.asm_core.proofs.preparation.changed_models.Goals as goal

pub returns : goal.returns
returns c =
    let board = c.args.board.now in
    let call = c.args.call.now in
    let made = c.change_made.ensures (change asmeta board.slots call) c.requires.comes in
    if_ok c.change_made.result _ _ made (λ p is.
    stands_change asmeta board call c.args.names.now false p c.requires.speaks c.requires.change (sym (c.requires.old (spoken_of board call))) is)
