-- The number that an answer tells: of how many entries it is given after, its own among them.
use Rattle.std.specs.Prelude.{ℕ, ◌+◌, ◌≡◌, Option, Some, None}
use Rattle.asm_board.specs.declared.call.Call.{Call}
use Rattle.asm_board.specs.declared.reply.Reply.{Reply}
use Rattle.asm_board.specs.declared.entry.Entry.{Entry}
use Rattle.asm_board.specs.Answers.{Answer}

-- the entry is the next after this front, of this seat and call, and holds what the reply says
pub record IsNext (front seat : ℕ) (call : Call) (reply : Reply) (entry : Entry) : Type 0 where
  pub of_seat : entry.seat ≡ seat
  pub of_call : entry.call ≡ call
  pub number : entry.number ≡ front + 1
  pub body : entry.body ≡ reply.body
  pub told : reply.at ≡ entry.number

-- without an entry, the reply tells the front
abbrev pub HasNumber : ℕ → ℕ → Call → Reply → Option Entry → Type 0
HasNumber front seat call reply None = reply.at ≡ front
HasNumber front seat call reply (Some entry) = IsNext front seat call reply entry

-- the reply tells the number of entries after which it is given, its own among them
abbrev pub TellsItsNumber : ℕ → ℕ → Call → Answer → Type 0
TellsItsNumber front seat call answered = HasNumber front seat call answered.reply answered.entry
