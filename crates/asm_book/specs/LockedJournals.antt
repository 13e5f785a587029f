-- What is under the lock.
use Rattle.std.specs.Prelude.{ℕ, ◌≡◌, ◌≤◌, List, length}
use Rattle.asm_board.specs.declared.board.Board.{Board}
use Rattle.asm_board.specs.declared.entry.Entry.{Entry}
use Rattle.asm_board.specs.Meanings.{Meanings}
use Rattle.asm_board.specs.Boards.{board_of}
use Rattle.asm_book.specs.Seats.{SeatsBelow}

-- the most that a journal's entries may weigh
abbrev pub most_room : ℕ
most_room = 8388608

-- the journal, its board and the ledger's total are those of this history
pub record IsJournalOf (m : Meanings) (seats room : ℕ) (history journal : List Entry)
    (board : Board) (total held : ℕ) : Type 0 where
  pub journal_is : journal ≡ history
  pub board_is : board ≡ board_of m history
  pub counted : total ≡ length history
  pub room_is : held ≡ room
  pub small : room ≤ most_room
  pub seated : SeatsBelow seats history
