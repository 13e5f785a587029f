-- How a commit ends.
use Rattle.std.specs.Prelude.{ℕ, ◌≡◌, List, [], ◌∷◌, ◌++◌, Option, Some, None, Result, Ok, Err}
use Rattle.std.specs.Arc.{arc_value}
use Rattle.asm_board.specs.declared.entry.Entry.{Entry}
use Rattle.asm_board.specs.declared.prepared.NameVersion.{NameVersion}
use Rattle.asm_board.specs.declared.prepared.Prepared.{Prepared}
use Rattle.asm_board.specs.declared.reply.Reply.{Reply}
use Rattle.asm_board.specs.Meanings.{Meanings}
use Rattle.asm_board.specs.Boards.{version_of, board_of}
use mathlib.Core.List.{IsPrefix}
use Rattle.asm_board.specs.Answers.{settle, Settled, Stands}
use Rattle.asm_board.specs.Answers as verdict
use Rattle.asm_book.specs.declared.refusal.CommitRefusal.{CommitRefusal}
use Rattle.asm_book.specs.declared.refusal.CommitRefusal.TheVariants.{Stale, NoMemory}

-- the change was prepared at the board of a beginning of this history
abbrev pub IsPreparedWithin : Meanings → List Entry → Prepared → Type 0
IsPreparedWithin m history p =
    (h : List Entry) × IsPrefix h history × Stands m p p.call (board_of m h)

-- the journal with one more entry, if there is one
abbrev pub grown : List Entry → Option Entry → List Entry
grown journal None = journal
grown journal (Some e) = journal ++ e ∷ []

-- a seat's own numbers with that of one more entry, if there is one
abbrev pub numbered : List ℕ → Option Entry → List ℕ
numbered mine None = mine
numbered mine (Some e) = mine ++ e.number ∷ []

-- the change is stale for this version, with the board of the journal; or memory was wanting
abbrev pub IsStale : Meanings → List Entry → NameVersion → CommitRefusal → Type 0
IsStale m journal version (Stale model had now board) =
    (model ≡ version.name) × (had ≡ version.version)
    × (now ≡ version_of (board_of m journal) version.name)
    × (arc_value board ≡ board_of m journal)
IsStale m journal version NoMemory = Unit {0}

-- a prepared change of a seat is settled at this journal by this reply; its entry, if there is one,
-- is one more of the journal and one more of the seat's own
pub record Settles (m : Meanings) (room : ℕ) (journal : List Entry) (seat : ℕ) (p : Prepared)
    (mine : List ℕ) (reply : Reply) (after : List Entry) (own : List ℕ) : Type 0 where
  pub entry : Option Entry
  pub settled : settle m room journal seat p ≡ Settled (record { reply = reply; entry = entry })
  pub journal_is : after ≡ grown journal entry
  pub own_is : own ≡ numbered mine entry

-- a commit of a prepared change at this journal: settled, or stale with the board at which it is, or
-- memory was wanting; then the journal and the seat's own numbers are as they were
abbrev pub Commits : Meanings → ℕ → List Entry → ℕ → Prepared → List ℕ → Result Reply CommitRefusal
    → List Entry → List ℕ → Type 0
Commits m room journal seat p mine (Ok reply) after own =
    Settles m room journal seat p mine reply after own
Commits m room journal seat p mine (Err (Stale model had now board)) after own =
    (settle m room journal seat p ≡ verdict.Stale model had now)
    × (arc_value board ≡ board_of m journal) × (after ≡ journal) × (own ≡ mine)
Commits m room journal seat p mine (Err NoMemory) after own = (after ≡ journal) × (own ≡ mine)
