-- What holds of every world that a run reaches.
use Rattle.std.proofs.Common.{Bool, true, false, cond, ◌==◌, ◌≡◌, ℕ, ◌≤◌, ◌⊎◌, inl, inr, ⊎_elim, List, [], ◌∷◌, ◌++◌, length, take, drop, Some, None, Option, refl, sym, ap, subst, ◌∙◌, arith, append_assoc, length-append}
use Rattle.std.specs.Prelude.{option_to_list, ⊤}
use Rattle.std.proofs.lemmas.Bool.Decides.{nat_tests}
use Rattle.std.proofs.lemmas.List.{append-nil, length-take-le, take-append-drop, take_all}
use Rattle.std.proofs.lemmas.List.Elements.{filter-append}
use mathlib.Core.List.{IsPrefix}
use Rattle.asm_board.specs.declared.board.Board.{Board}
use Rattle.asm_board.specs.declared.call.Call.{Call}
use Rattle.asm_board.specs.declared.entry.Entry.{Entry}
use Rattle.asm_board.specs.declared.prepared.Prepared.{Prepared}
use Rattle.asm_board.specs.Meanings.{Meanings}
use Rattle.asm_board.specs.Calls.{footprint, is_change, is_log}
use Rattle.asm_board.specs.Boards.{version_of, versions_at, board_of}
use Rattle.asm_board.specs.Slots.{Models, version_in, versions_in}
use Rattle.asm_board.specs.Answers.{answer, outcome_of, Legal, Stands, Verdict, Settled, first_stale, unless_stale, settle}
use Rattle.asm_core.specs.World.{Seat, World, Event, Peek, Prepare, Commit, Hold, new_world, seen_by, entry_of, with_verdict, read_answer, KeepsChange, IsPossible, settle_kept, reply_to, after_reply, happened, Happen, IsReached, seat_of, entries_told, accepted_of, entries_of, IsAnswered, KeptIsAnswered, TellsRight, WorldIsOrderly}
use Rattle.asm_board.proofs.StillStands.{still_stands, settled_is_answered}
use Rattle.asm_board.proofs.Legal.{grows_legally, answer_at_of, made_at, entry_is, outcome_tells, front_is}

-- ---- lists

prefix_take : {A : Type 0} (k : ℕ) (xs : List A) → IsPrefix (take k xs) xs
prefix_take k xs = (drop k xs, take-append-drop k xs)

prefix_longer : {A : Type 0} (xs ys zs : List A) → IsPrefix xs ys → IsPrefix xs (ys ++ zs)
prefix_longer xs ys zs p = (p.0 ++ zs, sym (append_assoc xs p.0 zs) ∙ ap (λ ws. ws ++ zs) p.1)

chosen : {A : Type 0} (P : A → Type 0) (t : Bool) (x y : A) → P x → P y → P (cond t x y)
chosen P true x y p q = p
chosen P false x y p q = q

-- ---- which versions are stale

fresh_at : (t : Bool) (v w : ℕ) (q : List ℕ) (rest : Option (List ℕ × (ℕ × ℕ))) → (v == w) ≡ t → cond t rest (Some (q, (v, w))) ≡ None → (v ≡ w) × (rest ≡ None)
fresh_at true v w q rest test is = (grind (arith, nat_tests), is)
fresh_at false v w q rest test is = absurd (cc (is))

-- where none is stale, the versions are the board's
fresh : (old : Models) (b : Board) (names : List (List ℕ)) → first_stale (versions_in old names) b ≡ None → versions_in old names ≡ versions_in b.slots names
fresh old b [] is = refl
fresh old b (q ∷ qs) is =
    let h = fresh_at (version_in old q == version_of b q) (version_in old q) (version_of b q) q (first_stale (versions_in old qs) b) refl is in
    ap (λ v. record { name = q; version = v } ∷ versions_in old qs) h.0 ∙ ap (λ vs. record { name = q; version = version_of b q } ∷ vs) (fresh old b qs h.1)

module _ (m : Meanings) (room : ℕ) where
  -- ---- what is kept stands at a beginning

  abbrev KeptStands : List Entry → Option Prepared → Type 0
  KeptStands journal None = ⊤
  KeptStands journal (Some p) = (h : List Entry) × (IsPrefix h journal × Stands m p p.call (board_of m h))

  kept_longer : (journal more : List Entry) (o : Option Prepared) → KeptStands journal o → KeptStands (journal ++ more) o
  kept_longer journal more None k = k
  kept_longer journal more (Some p) k = (k.0, (prefix_longer k.0 journal more k.1.0, k.1.1))

  -- a kept change whose versions are the board's is settled as the one-thread server answers
  settled_fresh : (journal : List Entry) (seat : ℕ) (p : Prepared) → is_change p.call ≡ true → KeptStands journal (Some p) → first_stale p.versions (board_of m journal) ≡ None
      → settle m room journal seat p ≡ Settled (answer m room journal seat p.call)
  settled_fresh journal seat p is k none =
      let same : p.versions ≡ versions_at (board_of m journal) p.call =
      k.1.1.versions ∙ fresh (board_of m k.0).slots (board_of m journal) (footprint p.call) (ap (λ vs. first_stale vs (board_of m journal)) (sym k.1.1.versions) ∙ none) in
      settled_is_answered m room journal seat p p.call is (still_stands m k.0 journal p p.call is k.1.0 k.1.1 same)

  settled_by : (journal : List Entry) (seat : ℕ) (p : Prepared) (s : Option (List ℕ × (ℕ × ℕ))) → is_change p.call ≡ true → KeptStands journal (Some p) → first_stale p.versions (board_of m journal) ≡ s
      → (entry_of (settle m room journal seat p) ≡ None) ⊎ (settle m room journal seat p ≡ Settled (answer m room journal seat p.call))
  settled_by journal seat p (Some s) is k stale = inl (ap (λ o. entry_of (unless_stale o (outcome_of room (board_of m journal) seat p))) stale)
  settled_by journal seat p None is k none = inr (settled_fresh journal seat p is k none)

  -- ---- good worlds

  record IsGood (w : World) : Type 0 where
    legal : Legal m room w.journal
    seen : (s : ℕ) → (w.seats s).seen ≤ length w.journal
    kept : (s : ℕ) → KeptStands w.journal (w.seats s).kept

  verdict_good : (w : World) (seat : ℕ) (kept : Option Prepared) (v : Verdict) → IsGood w → Legal m room (w.journal ++ option_to_list (entry_of v)) → KeptStands w.journal kept → IsGood (with_verdict w seat kept v)
  verdict_good w seat kept v good legal stands =
      let more : List Entry = option_to_list (entry_of v) in
      record {
        legal = legal;
        seen = λ s. chosen (λ (x : Seat). x.seen ≤ length (w.journal ++ more)) (s == seat) (record { seen = length (w.journal ++ more); kept = kept }) (w.seats s) (omega arith) (omega (arith, good.seen s, length-append w.journal more));
        kept = λ s. chosen (λ (x : Seat). KeptStands (w.journal ++ more) x.kept) (s == seat) (record { seen = length (w.journal ++ more); kept = kept }) (w.seats s) (kept_longer w.journal more kept stands) (kept_longer w.journal more (w.seats s).kept (good.kept s));
      }

  commit_good : (w : World) (seat : ℕ) (o : Option Prepared) → IsGood w → KeepsChange o → KeptStands w.journal o → IsGood (after_reply w seat None (settle_kept m room w.journal seat o))
  commit_good w seat None good is stands = absurd is
  commit_good w seat (Some p) good is stands =
      let v : Verdict = settle m room w.journal seat p in
      verdict_good w seat None v good
      (⊎_elim (λ none. subst (λ o. Legal m room (w.journal ++ option_to_list o)) (sym none) (subst (Legal m room) (sym (append-nil w.journal)) good.legal))
      (λ same. subst (λ x. Legal m room (w.journal ++ option_to_list (entry_of x))) (sym same) (grows_legally m room w.journal seat p.call good.legal))
      (settled_by w.journal seat p (first_stale p.versions (board_of m w.journal)) is stands refl))
      tt

  good_next : (w : World) (e : Event) → IsPossible m room w e → IsGood w → IsGood (happened m room w e)
  good_next w (Peek seat front) can good = record {
    legal = good.legal;
    seen = λ s. chosen (λ (x : Seat). x.seen ≤ length w.journal) (s == seat) (record { seen = front; kept = (w.seats seat).kept }) (w.seats s) can.1 (good.seen s);
    kept = λ s. chosen (λ (x : Seat). KeptStands w.journal x.kept) (s == seat) (record { seen = front; kept = (w.seats seat).kept }) (w.seats s) (good.kept seat) (good.kept s);
  }
  good_next w (Prepare seat c p) can good = record {
    legal = good.legal;
    seen = λ s. chosen (λ (x : Seat). x.seen ≤ length w.journal) (s == seat) (record { seen = (w.seats seat).seen; kept = Some p }) (w.seats s) (good.seen seat) (good.seen s);
    kept = λ s. chosen (λ (x : Seat). KeptStands w.journal x.kept) (s == seat) (record { seen = (w.seats seat).seen; kept = Some p }) (w.seats s)
        (seen_by w seat, (prefix_take (w.seats seat).seen w.journal, subst (λ d. Stands m p d (board_of m (seen_by w seat))) (sym can.1.is_call) can.1)) (good.kept s);
  }
  good_next w (Commit seat) can good = commit_good w seat (w.seats seat).kept good can (good.kept seat)
  good_next w (Hold seat c) can good = verdict_good w seat (w.seats seat).kept (Settled (answer m room w.journal seat c)) good (grows_legally m room w.journal seat c good.legal) (good.kept seat)

  good_later : (w end : World) (es : List Event) → IsGood w → Happen m room w es end → IsGood end
  good_later w end [] good h = subst IsGood (sym h) good
  good_later w end (e ∷ es) good h = good_later (happened m room w e) end es (good_next w e h.0 good) h.1

  good_new : IsGood new_world
  good_new = record { legal = tt; seen = λ s. omega arith; kept = λ s. tt }

  good_reached : (w : World) → IsReached m room w → IsGood w
  good_reached w r = good_later new_world w r.0 good_new r.1

  -- ---- answers

  answered_now : (journal : List Entry) (seat : ℕ) (c : Call) → IsAnswered m room journal seat c (Some (Settled (answer m room journal seat c)))
  answered_now journal seat c = (length journal, (omega arith, ap (λ h. answer m room h seat c) (take_all (length journal) journal (omega arith))))

  -- the answer to a read that stands is what was prepared
  read_is : (journal : List Entry) (seat : ℕ) (c : Call) (p : Prepared) → is_log c ≡ false → is_change c ≡ false → Stands m p c (board_of m journal)
      → answer m room journal seat c ≡ read_answer (length journal) p
  read_is journal seat c p other is s = rw (other, s.body, s.tail, sym (front_is m journal), is) refl

  prepare_answered : (w : World) (seat : ℕ) (c : Call) (p : Prepared) (t : Bool) → is_log c ≡ false → is_change c ≡ t → IsGood w → Stands m p c (board_of m (seen_by w seat))
      → IsAnswered m room w.journal seat c (cond t None (Some (Settled (read_answer (w.seats seat).seen p))))
  prepare_answered w seat c p true other is good s = tt
  prepare_answered w seat c p false other is good s =
      let k = (w.seats seat).seen in
      (k, (good.seen seat, read_is (take k w.journal) seat c p other is s ∙ ap (λ n. read_answer n p) (length-take-le k w.journal (good.seen seat))))

  kept_answered : (journal : List Entry) (seat : ℕ) (p : Prepared) (s : Option (List ℕ × (ℕ × ℕ))) → is_change p.call ≡ true → KeptStands journal (Some p) → first_stale p.versions (board_of m journal) ≡ s
      → IsAnswered m room journal seat p.call (Some (settle m room journal seat p))
  kept_answered journal seat p (Some s) is k stale =
      subst (λ o. IsAnswered m room journal seat p.call (Some (unless_stale o (outcome_of room (board_of m journal) seat p)))) (sym stale) tt
  kept_answered journal seat p None is k none =
      subst (λ v. IsAnswered m room journal seat p.call (Some v)) (sym (settled_fresh journal seat p is k none)) (answered_now journal seat p.call)

  commit_answered : (journal : List Entry) (seat : ℕ) (o : Option Prepared) → KeepsChange o → KeptStands journal o → KeptIsAnswered m room journal seat o
  commit_answered journal seat None is k = tt
  commit_answered journal seat (Some p) is k = kept_answered journal seat p (first_stale p.versions (board_of m journal)) is k refl

  answered : (w : World) (e : Event) → IsReached m room w → IsPossible m room w e → TellsRight m room w e
  answered w (Peek seat front) r can = tt
  answered w (Prepare seat c p) r can = prepare_answered w seat c p (is_change c) can.0 refl (good_reached w r) can.1
  answered w (Commit seat) r can = commit_answered w.journal seat (w.seats seat).kept can ((good_reached w r).kept seat)
  answered w (Hold seat c) r can = answered_now w.journal seat c

  -- ---- what a seat has seen never shrinks

  peek_shrinks : (w : World) (seat front s : ℕ) (t : Bool) → (s == seat) ≡ t → (w.seats seat).seen ≤ front → (w.seats s).seen ≤ (cond t (record { seen = front; kept = (w.seats seat).kept }) (w.seats s)).seen
  peek_shrinks w seat front s true test le = let same : s ≡ seat = grind (arith, nat_tests) in subst (λ k. (w.seats k).seen ≤ front) (sym same) le
  peek_shrinks w seat front s false test le = omega arith

  prepare_shrinks : (w : World) (seat s : ℕ) (p : Prepared) (t : Bool) → (s == seat) ≡ t → (w.seats s).seen ≤ (cond t (record { seen = (w.seats seat).seen; kept = Some p }) (w.seats s)).seen
  prepare_shrinks w seat s p true test = let same : s ≡ seat = grind (arith, nat_tests) in subst (λ k. (w.seats k).seen ≤ (w.seats seat).seen) (sym same) (omega arith)
  prepare_shrinks w seat s p false test = omega arith

  verdict_shrinks : (w : World) (seat s : ℕ) (kept : Option Prepared) (v : Verdict) → IsGood w → (w.seats s).seen ≤ ((with_verdict w seat kept v).seats s).seen
  verdict_shrinks w seat s kept v good =
      let more : List Entry = option_to_list (entry_of v) in
      chosen (λ (x : Seat). (w.seats s).seen ≤ x.seen) (s == seat) (record { seen = length (w.journal ++ more); kept = kept }) (w.seats s) (omega (arith, good.seen s, length-append w.journal more)) (omega arith)

  commit_shrinks : (w : World) (seat s : ℕ) (o : Option Prepared) → KeepsChange o → IsGood w → (w.seats s).seen ≤ ((after_reply w seat None (settle_kept m room w.journal seat o)).seats s).seen
  commit_shrinks w seat s None is good = absurd is
  commit_shrinks w seat s (Some p) is good = verdict_shrinks w seat s None (settle m room w.journal seat p) good

  never_shrinks : (w : World) (e : Event) (s : ℕ) → IsReached m room w → IsPossible m room w e → (w.seats s).seen ≤ ((happened m room w e).seats s).seen
  never_shrinks w (Peek seat front) s r can = peek_shrinks w seat front s (s == seat) refl can.0
  never_shrinks w (Prepare seat c p) s r can = prepare_shrinks w seat s p (s == seat) refl
  never_shrinks w (Commit seat) s r can = commit_shrinks w seat s (w.seats seat).kept can (good_reached w r)
  never_shrinks w (Hold seat c) s r can = verdict_shrinks w seat s (w.seats seat).kept (Settled (answer m room w.journal seat c)) (good_reached w r)

  -- ---- each accepted change is there once

  nothing : (t : Bool) → cond {A = List Entry} t [] [] ≡ []
  nothing true = refl
  nothing false = refl

  adds_nothing : (s : ℕ) (t : Bool) (journal more : List Entry) → more ≡ [] → entries_of s journal ≡ entries_of s journal ++ cond t more []
  adds_nothing s t journal more none = sym (ap (λ xs. entries_of s journal ++ xs) (ap (λ ys. cond t ys []) none ∙ nothing t) ∙ append-nil (entries_of s journal))

  verdict_entries : (journal : List Entry) (seat s : ℕ) (o : Option Entry) → ((e : Entry) → o ≡ Some e → e.seat ≡ seat) → entries_of s (journal ++ option_to_list o) ≡ entries_of s journal ++ cond (seat == s) (option_to_list o) []
  verdict_entries journal seat s None of = ap (entries_of s) (append-nil journal) ∙ adds_nothing s (seat == s) journal [] refl
  verdict_entries journal seat s (Some e) of = filter-append (λ x. x.seat == s) journal (e ∷ []) ∙ ap (λ k. entries_of s journal ++ cond (k == s) (e ∷ []) []) (of e refl)

  settle_of : (journal : List Entry) (seat : ℕ) (p : Prepared) (e : Entry) (o : Option (List ℕ × (ℕ × ℕ)))
      → entry_of (unless_stale o (outcome_of room (board_of m journal) seat p)) ≡ Some e → e.seat ≡ seat
  settle_of journal seat p e (Some s) is = absurd (cc (is))
  settle_of journal seat p e None is =
      (entry_is (board_of m journal).front seat p.call (outcome_of room (board_of m journal) seat p) e (outcome_tells room (board_of m journal) seat p.call p.loads p.weight p.body p.tail) is).of_seat

  read_tells : (front : ℕ) (p : Prepared) (t : Bool) → entries_told (cond t None (Some (Settled (read_answer front p)))) ≡ []
  read_tells front p true = refl
  read_tells front p false = refl

  commit_entries : (w : World) (seat s : ℕ) (o : Option Prepared)
      → entries_of s (after_reply w seat None (settle_kept m room w.journal seat o)).journal ≡ entries_of s w.journal ++ cond (seat == s) (entries_told (settle_kept m room w.journal seat o)) []
  commit_entries w seat s None = adds_nothing s (seat == s) w.journal [] refl
  commit_entries w seat s (Some p) = verdict_entries w.journal seat s (entry_of (settle m room w.journal seat p)) (λ e is. settle_of w.journal seat p e (first_stale p.versions (board_of m w.journal)) is)

  next_entries : (w : World) (e : Event) (s : ℕ) → entries_of s (happened m room w e).journal ≡ entries_of s w.journal ++ cond (seat_of e == s) (entries_told (reply_to m room w e)) []
  next_entries w (Peek seat front) s = adds_nothing s (seat == s) w.journal [] refl
  next_entries w (Prepare seat c p) s = adds_nothing s (seat == s) w.journal (entries_told (reply_to m room w (Prepare seat c p))) (read_tells (w.seats seat).seen p (is_change c))
  next_entries w (Commit seat) s = commit_entries w seat s (w.seats seat).kept
  next_entries w (Hold seat c) s = verdict_entries w.journal seat s (answer m room w.journal seat c).entry (λ e is. (answer_at_of m room (board_of m w.journal) seat c e (made_at m room w.journal seat c e is)).of_seat)

  each_from : (w end : World) (es : List Event) (s : ℕ) → Happen m room w es end → entries_of s end.journal ≡ entries_of s w.journal ++ accepted_of m room s w es
  each_from w end [] s h = ap (λ (x : World). entries_of s x.journal) h ∙ sym (append-nil (entries_of s w.journal))
  each_from w end (e ∷ es) s h =
      each_from (happened m room w e) end es s h.1
      ∙ (ap (λ xs. xs ++ accepted_of m room s (happened m room w e) es) (next_entries w e s)
      ∙ append_assoc (entries_of s w.journal) (cond (seat_of e == s) (entries_told (reply_to m room w e)) []) (accepted_of m room s (happened m room w e) es))

  pub orderly : WorldIsOrderly m room
  orderly = record {
    legal = λ w r. (good_reached w r).legal;
    answered = answered;
    never_shrinks = never_shrinks;
    each_once = λ w es s h. each_from new_world w es s h;
  }
