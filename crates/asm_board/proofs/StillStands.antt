-- What was prepared at a beginning of a journal stands after it, where its versions are the same.
use Rattle.std.proofs.Common.{true, false, cond, eq-eqb, ◌≡◌, ℕ, List, [], ◌∷◌, fold, Some, None, refl, sym, ap, subst, ◌∙◌}
use Rattle.std.proofs.lemmas.List.Sums.{fold-append}
use mathlib.Core.List.{IsPrefix}
use Rattle.asm_board.specs.declared.board.Board.{Board}
use Rattle.asm_board.specs.declared.call.Call.{Call}
use Rattle.asm_board.specs.declared.entry.Entry.{Entry}
use Rattle.asm_board.specs.declared.prepared.Prepared.{Prepared}
use Rattle.asm_board.specs.Meanings.{Meanings}
use Rattle.asm_board.specs.Slots.{slot_in, versions_in}
use Rattle.asm_board.specs.Calls.{footprint, is_change, is_log}
use Rattle.asm_board.specs.Changes.{change}
use Rattle.asm_board.specs.Replies.{tail_of}
use Rattle.asm_board.specs.Boards.{empty_board, version_of, body_of_change, read_at, slots_of_change, weight_of_change, is_new_model, spoken_of, change_at, body_at, versions_at, applied, board_of}
use Rattle.asm_board.specs.Answers.{answer, Stands, Settled, first_stale, settle}
use Rattle.asm_board.proofs.CallKinds.{no_log}
use Rattle.asm_board.proofs.Boards.{Grows, grows, fits, none_fits, same_slot, same_models}

module _ (m : Meanings) where
  -- the body of a change is that of the models of which it speaks
  body_of_a_change : (b : Board) (c : Call) → is_change c ≡ true → body_at m b c ≡ body_of_change (change_at m b c)
  body_of_a_change b c is = ap (λ t. cond t (body_of_change (change_at m b c)) (read_at m b c)) is

  -- equal versions of a change's models mean that these models are the same
  pub same_spoken : (prefix journal : List Entry) (c : Call) → IsPrefix prefix journal → versions_at (board_of m prefix) c ≡ versions_at (board_of m journal) c
      → spoken_of (board_of m journal) c ≡ spoken_of (board_of m prefix) c
  unfolding board_of
  same_spoken prefix journal c pre same =
      let b : Board = board_of m prefix in
      let later : board_of m journal ≡ fold (applied m) b pre.0 = ap (board_of m) (sym pre.1) ∙ fold-append (applied m) empty_board prefix pre.0 in
      same_models b.slots (board_of m journal).slots (footprint c)
      (λ q v. same_slot b.front (slot_in b.slots q) (slot_in (board_of m journal).slots q)
      (fits m prefix empty_board q (none_fits 0))
      (subst (λ (d : Board). Grows b.front (slot_in b.slots q) (slot_in d.slots q)) (sym later) (grows m pre.0 b q))
      v)
      same

  pub still_stands : (prefix journal : List Entry) (p : Prepared) (c : Call) → is_change c ≡ true → IsPrefix prefix journal → Stands m p c (board_of m prefix)
      → p.versions ≡ versions_at (board_of m journal) c → Stands m p c (board_of m journal)
  still_stands prefix journal p c is pre s same =
      let b : Board = board_of m prefix in
      let d : Board = board_of m journal in
      let spoken : spoken_of b c ≡ spoken_of d c = sym (same_spoken prefix journal c pre (sym s.versions ∙ same)) in
      let body : body_at m b c ≡ body_at m d c = body_of_a_change b c is ∙ ap (λ ms. body_of_change (change m ms c)) spoken ∙ sym (body_of_a_change d c is) in
      record {
        is_call = s.is_call;
        versions = same;
        body = s.body ∙ body;
        tail = s.tail ∙ ap tail_of body;
        slots = s.slots ∙ ap (λ ms. cond (is_change c) (slots_of_change ms (change m ms c)) []) spoken;
        loads = s.loads ∙ ap (λ ms. is_new_model ms c) spoken;
        weight = s.weight ∙ ap (λ ms. cond (is_change c) (weight_of_change c (change m ms c)) 0) spoken;
      }

  -- where the versions are the board's, none is stale
  none_stale : (b : Board) (names : List (List ℕ)) → first_stale (versions_in b.slots names) b ≡ None
  none_stale b [] = refl
  none_stale b (q ∷ qs) = ap (λ t. cond t (first_stale (versions_in b.slots qs) b) (Some (q, (version_of b q, version_of b q)))) (eq-eqb (version_of b q) (version_of b q) refl) ∙ none_stale b qs

  -- what stands is settled as the one-thread server answers
  pub settled_is_answered : (room : ℕ) (journal : List Entry) (seat : ℕ) (p : Prepared) (c : Call) → is_change c ≡ true → Stands m p c (board_of m journal)
      → settle m room journal seat p ≡ Settled (answer m room journal seat c)
  settled_is_answered room journal seat p c is s =
      let b : Board = board_of m journal in
      let fresh : first_stale p.versions b ≡ None = ap (λ vs. first_stale vs b) s.versions ∙ none_stale b (footprint c) in
      let log : is_log c ≡ false = no_log c is in
      rw (log, fresh, s.is_call, s.loads, s.weight, s.body, s.tail, is) refl
