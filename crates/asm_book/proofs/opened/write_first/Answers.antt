use Rattle.std.proofs.Common.{sym, ap, ◌∙◌}
use Rattle.asm_board.specs.Boards.{board_of}
use Rattle.asm_book.proofs.Journals.{board_of-nil}
use Rattle.asm_book.proofs.opened.write_first.Goals as goal

pub new-first-requires : goal.new-first-requires
new-first-requires g c =
    c.in_ok-try_clone.ensures ∙ c.requires.board.1
    ∙ sym (ap (board_of g.L.Opening.meanings) c.requires.board.0 ∙ board_of-nil g.L.Opening.meanings)

pub new-second-requires : goal.new-second-requires
new-second-requires g c =
    c.requires.board.1 ∙ sym (ap (board_of g.L.Opening.meanings) c.requires.board.0 ∙ board_of-nil g.L.Opening.meanings)
