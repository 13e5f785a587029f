-- The reply to a line, and the journal that it leaves.
use Rattle.std.specs.Prelude.{◌≡◌, ℕ, List, Result, Ok, Err}
use Rattle.asm_io.specs.Lines.{Line}
use Rattle.asm_board.specs.declared.call.Call.{Call}
use Rattle.asm_board.specs.declared.entry.Entry.{Entry}
use Rattle.asm_board.specs.declared.reply.Reply.{Reply}
use Rattle.asm_board.specs.Refusals.{Tried}
use Rattle.asm_wire.specs.Lines.{reply_line, no_memory_line}
use Rattle.asm_stdio.specs.Transcripts.{LineAsks, answer_to, grown}

-- what is written for a reply, or where there was no memory for it
abbrev pub text_for : {E : Type 0} → Result Reply E → List ℕ
text_for (Ok reply) = reply_line reply
text_for (Err e) = no_memory_line

-- the line's reply after a journal, and the journal then
pub record IsReplied (journal : List Entry) (line : Line) (reply : Reply) (next : List Entry)
    : Type 0 where
  pub asked : Tried Call
  pub asks : LineAsks line asked
  pub is : reply ≡ (answer_to journal asked).reply
  pub grows : next ≡ grown journal (answer_to journal asked)

-- the same, or want of memory, which leaves the journal as it was
abbrev pub Leaves : {E : Type 0} → List Entry → Line → Result Reply E → List Entry → Type 0
Leaves journal line (Ok reply) next = IsReplied journal line reply next
Leaves journal line (Err e) next = next ≡ journal
