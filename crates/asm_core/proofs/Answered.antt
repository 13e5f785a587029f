-- What a prepared call is answered, and what its entry leaves.
use Rattle.std.proofs.Common.{◌≡◌, ℕ, ◌+◌, ◌-◌, ◌≤◌, ◌^◌, min, Bool, true, false, cond, List, [], ◌∷◌, ◌++◌, length, length-append, Some, None, option_map, sym, ap, subst, ◌∙◌, arith}
use Rattle.std.proofs.lemmas.Bool.Decides.{nat_tests}
use Rattle.asm_board.specs.declared.board.Board.{Board}
use Rattle.asm_board.specs.declared.call.Call.{Call}
use Rattle.asm_board.specs.declared.entry.Entry.{Entry}
use Rattle.asm_board.specs.declared.outcome.Outcome.{Outcome}
use Rattle.asm_board.specs.declared.outcome.Next.{Next}
use Rattle.asm_board.specs.declared.prepared.Prepared.{Prepared}
use Rattle.asm_board.specs.Calls.{is_change, is_log, entry_weight}
use Rattle.asm_board.specs.Meanings.{Meanings}
use Rattle.asm_board.specs.Boards.{with_entry, body_at, applied, board_of}
use Rattle.asm_board.specs.Logs.{log_of}
use Rattle.asm_board.specs.Answers.{Answer, told, without_entry, outcome, outcome_of, answer_change, answer_at, answer_in, answer, Stands}
use Rattle.asm_core.specs.Servers.{Keeps, Server}
use Rattle.asm_core.specs.Language.{asmeta}
use Rattle.asm_board.proofs.Entries.{weighs_at, some_weight, made_by, outcome_entry}
use Rattle.asm_board.proofs.CallKinds.{no_log}
use Rattle.asm_board.proofs.Journals.{board_of-push}

-- ---- the answer is that of what was prepared

pub read_answered : (m : Meanings) (room seat : ℕ) (board : Board) (c : Call) (p : Prepared) → Stands m p c board → is_change c ≡ false
    → answer_at m room board seat c ≡ record { reply = told board.front p.body p.tail; entry = None }
read_answered m room seat board c p s is =
    ap (λ (b : Bool). cond b (answer_change m room board seat c) (without_entry board.front (body_at m board c))) is
    ∙ (λ i. record { reply = told board.front (sym s.body i) (sym s.tail i); entry = None })

pub change_answered : (m : Meanings) (room seat : ℕ) (board : Board) (c : Call) (p : Prepared) → Stands m p c board → is_change c ≡ true
    → answer_at m room board seat c ≡ outcome_of room board seat p
change_answered m room seat board c p s is =
    ap (λ (b : Bool). cond b (answer_change m room board seat c) (without_entry board.front (body_at m board c))) is
    ∙ (λ i. outcome room board seat (sym s.is_call i) (sym s.loads i) (sym s.weight i) (sym s.body i) (sym s.tail i))

-- ---- what a server keeps after an entry

pub keeps_next : (room seat : ℕ) (journal : List Entry) (board next : Board) (c : Call) (p : Prepared) (e : Entry) → Keeps room journal board → Stands asmeta p c board
    → is_change c ≡ true → (outcome_of room board seat p).entry ≡ Some e → next ≡ with_entry board p.weight p.slots → Keeps room (journal ++ e ∷ []) next
keeps_next room seat journal board next c p e k s is made new =
    let i = outcome_entry room seat board p e made in
    let applies = made_by asmeta room seat board c p e s is i in
    let weight : p.weight ≡ entry_weight c i.tree = s.weight ∙ weighs_at asmeta board c i.tree (is_change c) is (sym s.body ∙ i.is_body) in
    let some : 4 ≤ p.weight = subst (λ n. 4 ≤ n) (sym weight) (some_weight c i.tree) in
    let fits : board.weight + p.weight ≤ room = grind (arith, nat_tests, i.fits) in
    let front : next.front ≡ board.front + 1 = ap (λ (b : Board). b.front) new in
    let weighs : next.weight ≡ min (board.weight + p.weight) (2 ^ 64 - 1) = ap (λ (b : Board). b.weight) new in
    record {
      is_board = new ∙ applies ∙ ap (λ b. applied asmeta b e) k.is_board ∙ sym (board_of-push asmeta journal e);
      front = omega (arith, front, k.front, length-append journal (e ∷ []));
      light = omega (arith, front, weighs, some, fits, k.light, k.small);
      within = omega (arith, weighs, fits);
      small = k.small;
    }

-- ---- the one-thread server's answer

pub settled : (server : Server) (room : ℕ) (journal : List Entry) (board : Board) (c : Call) (p : Prepared) (o : Outcome)
    → server ≡ record { room = room; journal = journal } → Keeps room journal board → Stands asmeta p c board → is_change p.call ≡ true
    → answer_in o ≡ outcome_of room board 0 p → answer asmeta server.room server.journal 0 c ≡ answer_in o
settled server room journal board c p o view k s is answered =
    let change : is_change c ≡ true = ap is_change (sym s.is_call) ∙ is in
    ap (λ (x : Server). answer asmeta x.room x.journal 0 c) view
    ∙ ap (λ (t : Bool). cond t (without_entry (length journal) (log_of journal c)) (answer_at asmeta room (board_of asmeta journal) 0 c)) (no_log c change)
    ∙ ap (λ b. answer_at asmeta room b 0 c) (sym k.is_board)
    ∙ change_answered asmeta room 0 board c p s change
    ∙ sym answered

-- a read that is no log
pub read_is : (server : Server) (room : ℕ) (journal : List Entry) (board : Board) (c : Call) (p : Prepared)
    → server ≡ record { room = room; journal = journal } → Keeps room journal board → Stands asmeta p c board → is_change p.call ≡ false → is_log c ≡ false
    → answer asmeta server.room server.journal 0 c ≡ record { reply = told board.front p.body p.tail; entry = None }
read_is server room journal board c p view k s is other =
    ap (λ (x : Server). answer asmeta x.room x.journal 0 c) view
    ∙ ap (λ (t : Bool). cond t (without_entry (length journal) (log_of journal c)) (answer_at asmeta room (board_of asmeta journal) 0 c)) other
    ∙ ap (λ b. answer_at asmeta room b 0 c) (sym k.is_board)
    ∙ read_answered asmeta room 0 board c p s (ap is_change (sym s.is_call) ∙ is)

-- the entry of what is answered, and the parts after it
pub keeps_settled : (room : ℕ) (journal journal' : List Entry) (board : Board) (c : Call) (p : Prepared) (o : Outcome) (n : Next) (e : Entry)
    → Keeps room journal board → Stands asmeta p c board → is_change p.call ≡ true → answer_in o ≡ outcome_of room board 0 p → o.next ≡ Some n → n.entry ≡ e
    → n.board ≡ with_entry board p.weight p.slots → journal' ≡ journal ++ e ∷ [] → Keeps room journal' n.board
keeps_settled room journal journal' board c p o n e k s is answered some entry new grows =
    let made : (outcome_of room board 0 p).entry ≡ Some e =
    ap (λ (a : Answer). a.entry) (sym answered) ∙ ap (option_map (λ (x : Next). x.entry)) some ∙ ap Some entry in
    subst (λ j. Keeps room j n.board) (sym grows) (keeps_next room 0 journal board n.board c p e k s (ap is_change (sym s.is_call) ∙ is) made new)
