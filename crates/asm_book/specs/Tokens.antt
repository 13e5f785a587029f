-- What a token keeps.
use Rattle.std.specs.Prelude.{ℕ, ◌≡◌, ◌<◌, List, length}
use Rattle.asm_board.specs.declared.entry.Entry.{Entry}
use Rattle.asm_book.specs.Seats.{IsPick, numbers_of}

-- a seat, the history that it has seen, the numbers of its own entries, and how often it was held
pub record Known : Type 0 where
  pub seat : ℕ
  pub history : List Entry
  pub mine : List ℕ
  pub holds : ℕ

-- its own numbers are some of its seat's in the history, and its one part of the ledger counts them
pub record IsToken (seats : ℕ) (seat : ℕ) (history : List Entry) (mine : List ℕ)
    (parts amount : ℕ) : Type 0 where
  pub seated : seat < seats
  pub own : IsPick mine (numbers_of seat history)
  pub one_part : parts ≡ 1
  pub counted : amount ≡ length mine
