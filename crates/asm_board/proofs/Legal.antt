-- An answer tells its number, and a legal journal stays legal with its entry.
use Rattle.std.proofs.Common.{Bool, true, false, cond, nat_lt, nat_le, ◌&&◌, ◌≡◌, ℕ, ◌+◌, List, [], ◌∷◌, ◌++◌, length, fold, Some, None, Option, refl, sym, ap, subst, ◌∙◌, arith}
use Rattle.std.specs.Prelude.{option_to_list}
use Rattle.std.proofs.lemmas.List.{append-nil}
use Rattle.asm_portable.specs.declared.port.Port.{Port}
use Rattle.asm_board.specs.declared.board.Board.{Board}
use Rattle.asm_board.specs.declared.call.Call.{Call}
use Rattle.asm_board.specs.declared.reply.Body.{Body}
use Rattle.asm_board.specs.declared.reply.Body.TheVariants as bodies
use Rattle.asm_board.specs.declared.entry.Entry.{Entry}
use Rattle.asm_board.specs.Meanings.{Meanings}
use Rattle.asm_board.specs.Refusals.{models_full, journal_full}
use Rattle.asm_board.specs.Replies.{tail_of}
use Rattle.asm_board.specs.Calls.{is_change, is_log}
use Rattle.asm_board.specs.Logs.{log_of}
use Rattle.asm_board.specs.Boards.{model_limit, empty_board, body_at, loads_at, weight_at, applied, board_of}
use Rattle.asm_board.specs.Answers.{Answer, without_entry, told, entry_at, with_room, outcome, answer_change, answer_at, answer, Legal, LegalFrom}
use Rattle.asm_board.specs.Numbers.{IsNext, HasNumber, TellsItsNumber}

-- ---- answers tell their numbers

in_room : (b : Board) (seat : ℕ) (c : Call) (w : ℕ) (tree : Port) (t : List ℕ) (full : Bool)
    → TellsItsNumber b.front seat c (cond full (without_entry b.front (bodies.No (journal_full w b.weight))) (record { reply = told (b.front + 1) (bodies.Ok tree) t; entry = Some (entry_at b seat c (bodies.Ok tree)) }))
in_room b seat c w tree t true = refl
in_room b seat c w tree t false = record { of_seat = refl; of_call = refl; number = refl; body = refl; told = refl }

module _ (room : ℕ) where
  with_room_tells : (b : Board) (seat : ℕ) (c : Call) (w : ℕ) (y : Body) (t : List ℕ) → TellsItsNumber b.front seat c (with_room room b seat c w y t)
  with_room_tells b seat c w (bodies.No why) t = refl
  with_room_tells b seat c w (bodies.Ok tree) t = in_room b seat c w tree t (nat_lt room (b.weight + w))

  numbered : (b : Board) (seat : ℕ) (c : Call) (w : ℕ) (y : Body) (t : List ℕ) (full : Bool)
      → TellsItsNumber b.front seat c (cond full (without_entry b.front (bodies.No (models_full model_limit))) (with_room room b seat c w y t))
  numbered b seat c w y t true = refl
  numbered b seat c w y t false = with_room_tells b seat c w y t

  pub outcome_tells : (b : Board) (seat : ℕ) (c : Call) (loads : Bool) (w : ℕ) (y : Body) (t : List ℕ) → TellsItsNumber b.front seat c (outcome room b seat c loads w y t)
  outcome_tells b seat c loads w y t = numbered b seat c w y t (loads && nat_le model_limit (length b.slots))

module _ (m : Meanings) (room : ℕ) where
  answer_at_tells : (b : Board) (seat : ℕ) (c : Call) (t : Bool) → TellsItsNumber b.front seat c (cond t (answer_change m room b seat c) (without_entry b.front (body_at m b c)))
  answer_at_tells b seat c true = outcome_tells room b seat c (loads_at b c) (weight_at m b c) (body_at m b c) (tail_of (body_at m b c))
  answer_at_tells b seat c false = refl

-- an answer's entry is of its seat and its call
pub entry_is : (front seat : ℕ) (c : Call) (a : Answer) (e : Entry) → TellsItsNumber front seat c a → a.entry ≡ Some e → IsNext front seat c a.reply e
entry_is front seat c a e tells is = subst (HasNumber front seat c a.reply) is tells

module _ (m : Meanings) (room : ℕ) where
  pub answer_at_of : (b : Board) (seat : ℕ) (c : Call) (e : Entry) → (answer_at m room b seat c).entry ≡ Some e → IsNext b.front seat c (answer_at m room b seat c).reply e
  answer_at_of b seat c e is = entry_is b.front seat c (answer_at m room b seat c) e (answer_at_tells m room b seat c (is_change c)) is

  made_by : (journal : List Entry) (seat : ℕ) (c : Call) (e : Entry) (t : Bool)
      → (cond t (without_entry (length journal) (log_of journal c)) (answer_at m room (board_of m journal) seat c)).entry ≡ Some e
      → (answer_at m room (board_of m journal) seat c).entry ≡ Some e
  made_by journal seat c e true is = absurd (cc (is))
  made_by journal seat c e false is = is

  -- an entry after a journal is one at its board, since a log has none
  pub made_at : (journal : List Entry) (seat : ℕ) (c : Call) (e : Entry) → (answer m room journal seat c).entry ≡ Some e
      → (answer_at m room (board_of m journal) seat c).entry ≡ Some e
  made_at journal seat c e is = made_by journal seat c e (is_log c) is

  -- ---- the journal stays legal

  legal_push : (xs : List Entry) (e : Entry) (b : Board) → LegalFrom m room b xs → (answer_at m room (fold (applied m) b xs) e.seat e.call).entry ≡ Some e → LegalFrom m room b (xs ++ e ∷ [])
  legal_push [] e b h is = (is, tt)
  legal_push (x ∷ xs) e b h is = (h.0, legal_push xs e (applied m b x) h.1 is)

  legal_with : (journal : List Entry) (seat : ℕ) (c : Call) (o : Option Entry) → Legal m room journal → (answer m room journal seat c).entry ≡ o → Legal m room (journal ++ option_to_list o)
  unfolding board_of
  legal_with journal seat c None h is = subst (Legal m room) (sym (append-nil journal)) h
  legal_with journal seat c (Some e) h is =
      let made = made_at journal seat c e is in
      let of = answer_at_of (board_of m journal) seat c e made in
      legal_push journal e empty_board h
      (ap (λ s. (answer_at m room (board_of m journal) s e.call).entry) of.of_seat ∙ ap (λ d. (answer_at m room (board_of m journal) seat d).entry) of.of_call ∙ made)

  pub grows_legally : (journal : List Entry) (seat : ℕ) (c : Call) → Legal m room journal → Legal m room (journal ++ option_to_list (answer m room journal seat c).entry)
  grows_legally journal seat c h = legal_with journal seat c (answer m room journal seat c).entry h refl

-- ---- the front is the number of entries

front-fold : (m : Meanings) (journal : List Entry) (b : Board) → (fold (applied m) b journal).front ≡ b.front + length journal
front-fold m [] b = omega arith
front-fold m (e ∷ es) b = omega (arith, front-fold m es (applied m b e))

pub front_is : (m : Meanings) (journal : List Entry) → (board_of m journal).front ≡ length journal
unfolding board_of
front_is m journal = omega (arith, front-fold m journal empty_board)

tells_by : (m : Meanings) (room : ℕ) (journal : List Entry) (seat : ℕ) (c : Call) (t : Bool)
    → TellsItsNumber (length journal) seat c (answer_at m room (board_of m journal) seat c)
    → TellsItsNumber (length journal) seat c (cond t (without_entry (length journal) (log_of journal c)) (answer_at m room (board_of m journal) seat c))
tells_by m room journal seat c true h = refl
tells_by m room journal seat c false h = h

-- after a journal, an answer tells the number of entries
pub tells_its_number : (m : Meanings) (room : ℕ) (journal : List Entry) (seat : ℕ) (c : Call) → TellsItsNumber (length journal) seat c (answer m room journal seat c)
tells_its_number m room journal seat c =
    tells_by m room journal seat c (is_log c)
    (subst (λ n. TellsItsNumber n seat c (answer_at m room (board_of m journal) seat c)) (front_is m journal) (answer_at_tells m room (board_of m journal) seat c (is_change c)))
