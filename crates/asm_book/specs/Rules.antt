-- The rule of the history, and the rule of what is published.
use Rattle.std.specs.Prelude.{ℕ, ◌≡◌, ◌≤◌, ◌==◌, true, List, [], ◌∷◌, ◌++◌, length, MatchBool}
use mathlib.Core.Option.{some}
use lib.ListN.{get_elem?}
use Rattle.logbook.specs.Pages.{Cell, Step, View, Book, Named}
use Rattle.asm_board.specs.declared.board.Board.{Board}
use Rattle.asm_board.specs.declared.entry.Entry.{Entry}
use Rattle.asm_board.specs.Meanings.{Meanings}
use Rattle.asm_board.specs.Boards.{board_of}
use Rattle.asm_board.specs.Answers.{Legal}

-- ---- the history

-- the first word is the length of the history; a book has two words, and the second stays 0
pub record IsKept (cells : List Cell) (log : List Entry) : Type 0 where
  pub words : cells ≡ (length log, true) ∷ (0, true) ∷ []

abbrev pub head_of : Book → Named
head_of b = record { tracked = true; key = 0; book = b }

-- the entry was added to all that had been seen, or the history was longer
abbrev pub Adds : Step Entry → View Entry ℕ → ℕ → View Entry ℕ → Type 0
Adds s v found w = MatchBool (found == s.old) (w.0 ≡ v.0 ++ s.ask ∷ []) (Unit {0})

-- ---- the published board

-- no reader has seen more than this many entries
abbrev pub AllBelow : ℕ → List ℕ → Type 0
AllBelow n views = (seat v : ℕ) → get_elem? views seat ≡ some v → v ≤ n

-- what is published: a board, and how much of which history it is of
pub record Notice : Type 0 where
  pub book : Book
  pub log : List Entry
  pub board : Board

-- it is of this history, legal for this room, and its board is that of the history
pub record IsOf (m : Meanings) (history : Book) (room : ℕ) (p : Notice) : Type 0 where
  pub book_is : p.book ≡ history
  pub legal : Legal m room p.log
  pub board_is : p.board ≡ board_of m p.log

abbrev pub Shows : Meanings → Book → ℕ → Notice → List ℕ → Type 0
Shows m history room p views = IsOf m history room p × AllBelow (length p.log) views

-- what a step at the published value tells: it doesn't go back
abbrev pub Steps : Meanings → Book → ℕ → ℕ → Notice → Notice → ℕ → Type 0
Steps m history room v x y w = (v ≤ length x.log) × (w ≡ length y.log) × IsOf m history room y
