use Rattle.std.proofs.Common.{cond, ap}
use Rattle.asm_board.specs.declared.board.Board.{Board}
use Rattle.asm_board.specs.declared.reply.Body.TheVariants as bodies
use Rattle.asm_board.specs.Refusals.{ahead}
use Rattle.asm_board.specs.Shown.{models_shown}
use Rattle.asm_board.specs.Boards.{board_of}
use Rattle.asm_board.proofs.CallKinds.{not_ahead}
use Rattle.asm_board.proofs.Legal.{front_is}
use Rattle.asm_board.proofs.Others.{board_ascends}
use Rattle.asm_board.proofs.laws.models_ascend_by_name.Goals as goal

pub returns-clause-ascend : goal.returns-clause-ascend
returns-clause-ascend c m journal = board_ascends m journal

pub returns-clause-shown : goal.returns-clause-shown
returns-clause-shown c m journal seat since seen =
    let b : Board = board_of m journal in
    ap (λ t. cond t (bodies.No (ahead b.front)) (bodies.Ok (models_shown b.slots))) (not_ahead b.front _ since (front_is m journal) seen)
