-- A read is ahead of the journal, or shows what it asks for.
use Rattle.std.proofs.Common.{Bool, true, false, cond, nat_lt, ◌≡◌, ℕ, ◌<◌, ◌≤◌, List, length, refl, sym, ap, ◌∙◌, arith}
use Rattle.std.proofs.lemmas.Bool.Decides.{nat_tests}
use Rattle.asm_board.specs.declared.board.Board.{Board}
use Rattle.asm_board.specs.declared.call.Call.{Call}
use Rattle.asm_board.specs.declared.entry.Entry.{Entry}
use Rattle.asm_board.specs.declared.reply.Body.{Body}
use Rattle.asm_board.specs.declared.reply.Body.TheVariants as bodies
use Rattle.asm_board.specs.Meanings.{Meanings}
use Rattle.asm_board.specs.Refusals.{ahead}
use Rattle.asm_board.specs.Calls.{is_change, is_log, since_of}
use Rattle.asm_board.specs.Reads.{read}
use Rattle.asm_board.specs.Logs.{asked_of, log_shown, log_of}
use Rattle.asm_board.specs.Boards.{unless_ahead, body_of_change, body_of_read, change_at, read_at, board_of}
use Rattle.asm_board.specs.Answers.{Answer, without_entry, answer_change, answer_at, answer}
use Rattle.asm_board.proofs.CallKinds.{not_ahead}
use Rattle.asm_board.proofs.Legal.{front_is}

is_ahead : (n since : ℕ) → n < since → nat_lt n since ≡ true
is_ahead n since h = grind (arith, nat_tests)

-- this body, unless the call is ahead
later : (n : ℕ) (c : Call) (body : Body) → n < since_of c → unless_ahead n c body ≡ bodies.No (ahead n)
later n c body h = ap (λ t. cond t (bodies.No (ahead n)) body) (is_ahead n (since_of c) h)

now : (n : ℕ) (c : Call) (body : Body) → since_of c ≤ n → unless_ahead n c body ≡ body
now n c body h = ap (λ t. cond t (bodies.No (ahead n)) body) (not_ahead n n (since_of c) refl h)

module _ (m : Meanings) (room : ℕ) (journal : List Entry) (seat : ℕ) (c : Call) where
  log_is : is_log c ≡ true → answer m room journal seat c ≡ without_entry (length journal) (log_of journal c)
  log_is is = ap (λ t. cond t (without_entry (length journal) (log_of journal c)) (answer_at m room (board_of m journal) seat c)) is

  -- a read that is no log, at the journal's board
  at_board : is_change c ≡ false → answer_at m room (board_of m journal) seat c
      ≡ without_entry (length journal) (unless_ahead (length journal) c (body_of_read (read m (board_of m journal).slots c)))
  at_board is =
      let b : Board = board_of m journal in
      ap (λ t. cond t (answer_change m room b seat c) (without_entry b.front (cond t (body_of_change (change_at m b c)) (read_at m b c)))) is
      ∙ ap (λ n. without_entry n (unless_ahead n c (body_of_read (read m b.slots c)))) (front_is m journal)

  ahead_by : (t : Bool) → is_change c ≡ false → length journal < since_of c
      → cond t (without_entry (length journal) (log_of journal c)) (answer_at m room (board_of m journal) seat c)
      ≡ without_entry (length journal) (bodies.No (ahead (length journal)))
  ahead_by true is h = ap (without_entry (length journal)) (later (length journal) c (bodies.Ok (log_shown (asked_of c journal))) h)
  ahead_by false is h = at_board is ∙ ap (without_entry (length journal)) (later (length journal) c (body_of_read (read m (board_of m journal).slots c)) h)

  pub read_ahead : is_change c ≡ false → length journal < since_of c → answer m room journal seat c ≡ without_entry (length journal) (bodies.No (ahead (length journal)))
  read_ahead is h = ahead_by (is_log c) is h

  pub log_answer : is_log c ≡ true → since_of c ≤ length journal → answer m room journal seat c ≡ without_entry (length journal) (bodies.Ok (log_shown (asked_of c journal)))
  log_answer is h = log_is is ∙ ap (without_entry (length journal)) (now (length journal) c (bodies.Ok (log_shown (asked_of c journal))) h)

  pub read_answer : is_change c ≡ false → is_log c ≡ false → since_of c ≤ length journal
      → answer m room journal seat c ≡ without_entry (length journal) (body_of_read (read m (board_of m journal).slots c))
  read_answer is other h =
      ap (λ t. cond t (without_entry (length journal) (log_of journal c)) (answer_at m room (board_of m journal) seat c)) other
      ∙ at_board is
      ∙ ap (without_entry (length journal)) (now (length journal) c (body_of_read (read m (board_of m journal).slots c)) h)
