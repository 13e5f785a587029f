-- The board of a journal, from its front and to its end.
use Rattle.std.proofs.Common.{◌≡◌, List, [], ◌∷◌, ◌++◌, refl, fold}
use Rattle.asm_board.specs.declared.board.Board.{Board}
use Rattle.asm_board.specs.declared.entry.Entry.{Entry}
use Rattle.asm_board.specs.Meanings.{Meanings}
use Rattle.asm_board.specs.Boards.{empty_board, applied, board_of}

pub board_of-nil : (m : Meanings) → board_of m [] ≡ empty_board
unfolding board_of
board_of-nil m = refl

folded : (m : Meanings) (board : Board) (journal : List Entry) (e : Entry) → fold (applied m) board (journal ++ e ∷ []) ≡ applied m (fold (applied m) board journal) e
folded m board [] e = refl
folded m board (x ∷ xs) e = folded m (applied m board x) xs e

pub board_of-push : (m : Meanings) (journal : List Entry) (e : Entry) → board_of m (journal ++ e ∷ []) ≡ applied m (board_of m journal) e
unfolding board_of
board_of-push m journal e = folded m empty_board journal e
