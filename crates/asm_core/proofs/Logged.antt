-- What a log is answered.
use Rattle.std.proofs.Common.{◌≡◌, ℕ, Bool, true, cond, List, length, Result, Ok, Err, IfOk, sym, ap, ◌∙◌, append-nil}
use Rattle.asm_board.specs.declared.call.Call.{Call}
use Rattle.asm_board.specs.declared.entry.Entry.{Entry}
use Rattle.asm_board.specs.declared.reply.Reply.{Reply}
use Rattle.asm_board.specs.Calls.{is_log}
use Rattle.asm_board.specs.Meanings.{Meanings}
use Rattle.asm_board.specs.Boards.{board_of}
use Rattle.asm_board.specs.Logs.{asked_of, log_body, log_of}
use Rattle.asm_board.specs.Replies.{reply_of}
use Rattle.asm_board.specs.Answers.{Answer, without_entry, answer_at, answer}
use Rattle.asm_core.specs.Language.{asmeta}
use Rattle.asm_core.specs.Servers.{Server, grown}

pub log_answered : (m : Meanings) (room seat : ℕ) (journal : List Entry) (c : Call) → is_log c ≡ true
    → answer m room journal seat c ≡ without_entry (length journal) (log_of journal c)
log_answered m room seat journal c is =
    ap (λ (t : Bool). cond t (without_entry (length journal) (log_of journal c)) (answer_at m room (board_of m journal) seat c)) is

-- what was told of the entries for which it asks
pub answer_told : {E : Type 0} (m : Meanings) (room seat front : ℕ) (journal entries : List Entry) (c : Call) (r : Result Reply E) → is_log c ≡ true
    → length journal ≡ front → entries ≡ asked_of c journal → IfOk r (λ reply. reply ≡ reply_of front (log_body front entries c))
    → IfOk r (λ reply. reply ≡ (answer m room journal seat c).reply)
answer_told m room seat front journal entries c (Ok reply) is long asked told =
    told ∙ (λ i. reply_of (sym long i) (log_body (sym long i) (asked i) c)) ∙ sym (ap (λ (a : Answer). a.reply) (log_answered m room seat journal c is))
answer_told m room seat front journal entries c (Err e) is long asked told = tt

-- a server's own answer to it
pub server_told : {E : Type 0} (server : Server) (room : ℕ) (journal entries : List Entry) (c : Call) (r : Result Reply E)
    → server ≡ record { room = room; journal = journal } → IfOk r (λ reply. reply ≡ (answer asmeta room journal 0 c).reply)
    → IfOk r (λ reply. reply ≡ (answer asmeta server.room server.journal 0 c).reply)
server_told server room journal entries c (Ok reply) view told = told ∙ sym (ap (λ (x : Server). (answer asmeta x.room x.journal 0 c).reply) view)
server_told server room journal entries c (Err e) view told = tt

-- it leaves the server as it was
pub log_leaves : (server : Server) (c : Call) → is_log c ≡ true → server ≡ grown server (answer asmeta server.room server.journal 0 c).entry
log_leaves server c is =
    (λ i. record { room = server.room; journal = sym (append-nil server.journal) i })
    ∙ sym (ap (λ (a : Answer). grown server a.entry) (log_answered asmeta server.room 0 server.journal c is))
