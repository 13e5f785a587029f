-- Which line is answered by which line, and what the journal then is.
use Rattle.std.specs.Prelude.{◌≡◌, ◌≢◌, ℕ, ◌^◌, List, [], ◌∷◌, ◌++◌, length, ◌⊎◌, Option, option_to_list, Ok, Err}
use Rattle.std.specs.List.{AllByRecursion}
use Rattle.std.specs.Io.KnownBytes.{Appends}
use Rattle.asm_io.specs.Lines.{Line, whole, too_long, limit, lines}
use Rattle.asm_board.specs.declared.call.Call.{Call}
use Rattle.asm_board.specs.declared.entry.Entry.{Entry}
use Rattle.asm_board.specs.declared.reply.Body.TheVariants as bodies
use Rattle.asm_board.specs.Answers.{Answer, answer, without_entry}
use Rattle.asm_board.specs.Refusals.{Tried, line_too_long}
use Rattle.asm_board.specs.Replies.{no_memory_text}
use Rattle.asm_core.specs.Language.{asmeta}
use Rattle.asm_wire.specs.Requests.{Asks}
use Rattle.asm_wire.specs.Lines.{reply_line, no_memory_line, AppendsPart}

-- what the entries of the program's journal may weigh
abbrev pub journal_room : ℕ
journal_room = 2 ^ 23

-- what a line asks for: a call, or nothing, for this reason
abbrev pub LineAsks : Line → Tried Call → Type 0
LineAsks (whole line) asked = Asks line asked
LineAsks too_long asked = asked ≡ Err (line_too_long limit)

-- The answer to it after a journal: the one-thread server's, or the refusal of the line.
abbrev pub answer_to : List Entry → Tried Call → Answer
answer_to journal (Ok call) = answer asmeta journal_room journal 0 call
answer_to journal (Err why) = without_entry (length journal) (bodies.No why)

-- the journal goes on with the answer's entry, if it has one
abbrev pub grown : List Entry → Answer → List Entry
grown journal a = journal ++ option_to_list a.entry

-- the line was answered after this journal by its reply, and this is the journal then
pub record Replied (journal : List Entry) (line : Line) (written : List ℕ)
    (next : List Entry) : Type 0 where
  pub asked : Tried Call
  pub asks : LineAsks line asked
  pub is : written ≡ reply_line (answer_to journal asked).reply
  pub grows : next ≡ grown journal (answer_to journal asked)

-- memory was wanting, which is the one free answer; the journal is as before
pub record IsWant (journal : List Entry) (written : List ℕ) (next : List Entry) : Type 0 where
  pub is : written ≡ no_memory_line
  pub stays : next ≡ journal

-- what is written for a line
abbrev pub IsAnswer : List Entry → Line → List ℕ → List Entry → Type 0
IsAnswer journal line written next = Replied journal line written next ⊎ IsWant journal written next

-- What is written for lines after a journal: an answer for each, in their order, and nothing else;
-- and the journal then.
abbrev pub Transcript : List Entry → List Line → List ℕ → List Entry → Type 0
Transcript journal [] written last = (written ≡ []) × (last ≡ journal)
Transcript journal (line ∷ lines) written last =
    (answer : List ℕ) × (later : List ℕ) × (next : List Entry)
    × IsAnswer journal line answer next × Transcript next lines later last
    × (written ≡ answer ++ later)

-- The same where memory was never wanting: each answer is a reply.
abbrev pub FullTranscript : List Entry → List Line → List ℕ → List Entry → Type 0
FullTranscript journal [] written last = (written ≡ []) × (last ≡ journal)
FullTranscript journal (line ∷ lines) written last =
    (answer : List ℕ) × (later : List ℕ) × (next : List Entry)
    × Replied journal line answer next × FullTranscript next lines later last
    × (written ≡ answer ++ later)

-- no line of what is written is the line of want of memory
abbrev pub NeverWants : List ℕ → Type 0
NeverWants written = AllByRecursion (λ line. line ≢ whole no_memory_text) (lines written)

-- what a sink holds, if it tells, has grown by an answer to this line
pub record IsAnswered (journal : List Entry) (line : Line) (next : List Entry)
    (held now : Option (List ℕ)) : Type 0 where
  pub answer : List ℕ
  pub answers : IsAnswer journal line answer next
  pub appends : Appends held now answer

-- or by a first part of one, perhaps the whole
pub record IsAnsweredPart (journal : List Entry) (line : Line) (held now : Option (List ℕ))
    : Type 0 where
  pub answer : List ℕ
  pub next : List Entry
  pub answers : IsAnswer journal line answer next
  pub part : AppendsPart held now answer

-- a first part of the answer to the line that was given
abbrev pub IsGivenPart : List Entry → List Line → Option (List ℕ) → Option (List ℕ) → Type 0
IsGivenPart journal [] held now = ⊥
IsGivenPart journal (line ∷ lines) held now = IsAnsweredPart journal line held now

-- it has grown by the answers to these lines, and the journal to this one
pub record Answers (journal : List Entry) (lines : List Line) (last : List Entry)
    (held now : Option (List ℕ)) : Type 0 where
  pub written : List ℕ
  pub transcript : Transcript journal lines written last
  pub appends : Appends held now written

-- and then by a first part of the answer to this line
pub record AnswersPart (journal : List Entry) (lines : List Line) (line : Line)
    (held now : Option (List ℕ)) : Type 0 where
  pub last : List Entry
  pub between : Option (List ℕ)
  pub before : Answers journal lines last held between
  pub part : IsAnsweredPart last line between now
