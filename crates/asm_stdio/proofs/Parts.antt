-- An answer of which a first part is written.
use Rattle.std.proofs.Common.{ℕ, List, Option, Result, Ok, Err, OnErr, inl, inr, refl, ap}
use Rattle.asm_io.specs.Lines.{Line}
use Rattle.asm_board.specs.declared.entry.Entry.{Entry}
use Rattle.asm_board.specs.declared.reply.Reply.{Reply}
use Rattle.asm_wire.specs.Lines.{reply_line, AppendsPart}
use Rattle.asm_stdio.specs.Transcripts.{IsAnswer, IsAnsweredPart}
use Rattle.asm_stdio.specs.Replies.{text_for, Leaves}

-- what is written for a reply is an answer
is_answer : {E : Type 0} (journal next : List Entry) (line : Line) (reply : Result Reply E) → Leaves journal line reply next → IsAnswer journal line (text_for reply) next
is_answer journal next line (Ok reply) leaves = inl (record { asked = leaves.asked; asks = leaves.asks; is = ap reply_line leaves.is; grows = leaves.grows })
is_answer journal next line (Err e) leaves = inr (record { is = refl; stays = leaves })

-- where a write failed, a first part of it
pub part_if_failed : {T D E : Type 0} (journal next : List Entry) (line : Line) (reply : Result Reply E) (held now : Option (List ℕ)) (result : Result T D)
    → Leaves journal line reply next → OnErr result (AppendsPart held now (text_for reply)) → OnErr result (IsAnsweredPart journal line held now)
part_if_failed journal next line reply held now (Ok x) leaves part = tt
part_if_failed journal next line reply held now (Err e) leaves part =
    record { answer = text_for reply; next = next; answers = is_answer journal next line reply leaves; part = part }
