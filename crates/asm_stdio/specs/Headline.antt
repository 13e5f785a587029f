-- What the program has done when it ends.
use Rattle.std.specs.Prelude.{◌≡◌, ℕ, ◌^◌, ◌<◌, List, [], ◌∷◌, ◌++◌, length, Option, ◌⊎◌}
use Rattle.std.specs.Io.KnownBytes.{Appends, Consumes, IsAtEnd}
use Rattle.asm_io.specs.Lines.{Line, lines, ended_lines}
use Rattle.asm_board.specs.declared.entry.Entry.{Entry}
use Rattle.asm_board.specs.Answers.{Legal}
use Rattle.asm_core.specs.Language.{asmeta}
use Rattle.asm_wire.specs.Lines.{AppendsPart}
use Rattle.asm_demo.specs.Lines.{demo_line}
use Rattle.asm_stdio.specs.Transcripts.{journal_room, Answers, AnswersPart}

-- how many bytes one session may take
abbrev pub session_bytes : ℕ
session_bytes = 2 ^ 40

-- each entry of the journal is an accepted change after those before it, within the room
abbrev pub IsLegal : List Entry → Type 0
IsLegal journal = Legal asmeta journal_room journal

-- The source was read to its end, and each line of its bytes is answered, in their order, after the
-- changes accepted before it.
pub record AnsweredAll (left rest held now : Option (List ℕ)) : Type 0 where
  pub input : List ℕ
  pub read : Consumes left rest input
  pub at_end : IsAtEnd rest
  pub within : length input < session_bytes
  pub journal : List Entry
  pub answers : Answers [] (lines input) journal held now
  pub legal : IsLegal journal

-- Bytes were taken from the source, and each line that ended in them is answered.
pub record AnsweredEnded (left rest held now : Option (List ℕ)) : Type 0 where
  pub taken : List ℕ
  pub read : Consumes left rest taken
  pub journal : List Entry
  pub answers : Answers [] (ended_lines taken) journal held now
  pub legal : IsLegal journal

-- The same, where all bytes of a session were taken.
pub record AnsweredBudget (left rest held now : Option (List ℕ)) : Type 0 where
  pub taken : List ℕ
  pub read : Consumes left rest taken
  pub spent : length taken ≡ session_bytes
  pub journal : List Entry
  pub answers : Answers [] (ended_lines taken) journal held now
  pub legal : IsLegal journal

-- The first lines of the bytes taken are answered, and of the answer to the next one a first part
-- is written, perhaps the whole.
pub record AnsweredPart (left rest held now : Option (List ℕ)) : Type 0 where
  pub taken : List ℕ
  pub read : Consumes left rest taken
  pub before : List Line
  pub line : Line
  pub behind : List Line
  pub split : lines taken ≡ before ++ line ∷ behind
  pub answers : AnswersPart [] before line held now
  pub legal : IsLegal answers.last

-- The line of the demo of this size is written, or at 3 a first part of it, perhaps the whole. There
-- is no other end but want of memory, which is 4.
pub record Demonstrates (size status : ℕ) (held now : Option (List ℕ)) : Type 0 where
  pub done : status ≡ 0 → Appends held now (demo_line size)
  pub part : status ≡ 3 → AppendsPart held now (demo_line size)
  pub statuses : (status ≡ 0) ⊎ (status ≡ 3) ⊎ (status ≡ 4)

-- the statuses with which a session may end
abbrev pub IsStdioStatus : ℕ → Type 0
IsStdioStatus status =
    (status ≡ 0) ⊎ (status ≡ 2) ⊎ (status ≡ 3) ⊎ (status ≡ 4) ⊎ (status ≡ 6)

-- the statuses with which the program may end
abbrev pub IsStatus : ℕ → Type 0
IsStatus status =
    (status ≡ 0) ⊎ (status ≡ 1) ⊎ (status ≡ 2) ⊎ (status ≡ 3) ⊎ (status ≡ 4) ⊎ (status ≡ 6)
