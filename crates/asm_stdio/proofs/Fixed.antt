-- What is written for lines is fixed by them and by the journal before them, up to want of memory.
use Rattle.std.proofs.Common.{◌≡◌, ◌≢◌, ℕ, ◌||◌, List, [], ◌∷◌, ◌++◌, length, Bool, true, false, cond, Ok, Err, inl, inr, refl, sym, ap, subst, ◌∙◌}
use Rattle.std.specs.List.{AllByRecursion}
use Rattle.asm_io.specs.Lines.{Line, whole, too_long, has_feed, is_feed, first_piece, later_pieces, lines, lines_of}
use Rattle.asm_io.specs.Lines as io
use Rattle.asm_board.specs.declared.board.Board.{Board}
use Rattle.asm_board.specs.declared.call.Call.{Call}
use Rattle.asm_board.specs.declared.entry.Entry.{Entry}
use Rattle.asm_board.specs.declared.reply.Body.{Body}
use Rattle.asm_board.specs.declared.reply.Body.TheVariants as bodies
use Rattle.asm_board.specs.declared.reply.Reply.{Reply}
use Rattle.asm_board.specs.Answers.{Answer, with_room, outcome, answer_change, answer_at, without_entry}
use Rattle.asm_board.specs.Boards.{board_of, body_at, loads_at, weight_at}
use Rattle.asm_board.specs.Calls.{is_change, is_log}
use Rattle.asm_board.specs.Logs.{log_of}
use Rattle.asm_board.specs.Refusals.{Tried}
use Rattle.asm_board.specs.Replies.{tail_of, reply_of, reply_text, no_memory_text}
use Rattle.asm_core.specs.Language.{asmeta}
use Rattle.asm_wire.specs.Lines.{line_of, reply_line, no_memory_line}
use Rattle.asm_wire.proofs.Asked.{asks_one}
use Rattle.asm_wire.proofs.OneLine.{reply_unfed}
use Rattle.asm_stdio.specs.Transcripts.{journal_room, LineAsks, answer_to, grown, Replied, IsWant, Transcript, FullTranscript, NeverWants}

-- ---- lines that are written

unfed_first : (a b : Bool) → (a || b) ≡ false → a ≡ false
unfed_first true b e = absurd (cc)
unfed_first false b e = refl

unfed_rest : (a b : Bool) → (a || b) ≡ false → b ≡ false
unfed_rest true b e = absurd (cc)
unfed_rest false b e = e

first_is : (text later : List ℕ) → has_feed text ≡ false → first_piece (line_of text ++ later) ≡ text
first_is [] later e = refl
first_is (b ∷ bs) later e =
    let here = unfed_first (is_feed b) (has_feed bs) e in
    let more = first_is bs later (unfed_rest (is_feed b) (has_feed bs) e) in
    λ i. cond (here i) [] (b ∷ more i)

later_are : (text later : List ℕ) → has_feed text ≡ false
    → later_pieces (line_of text ++ later) ≡ first_piece later ∷ later_pieces later
later_are [] later e = refl
later_are (b ∷ bs) later e =
    let here = unfed_first (is_feed b) (has_feed bs) e in
    let more = later_are bs later (unfed_rest (is_feed b) (has_feed bs) e) in
    (λ i. cond (here i) (first_piece (line_of bs ++ later) ∷ later_pieces (line_of bs ++ later)) (later_pieces (line_of bs ++ later)))
    ∙ more

one_more_line : (text later : List ℕ) → has_feed text ≡ false
    → lines (line_of text ++ later) ≡ io.line_of text ∷ lines later
one_more_line text later e = λ i. lines_of (first_is text later e i) (later_are text later e i)

never_split : (text later : List ℕ) → has_feed text ≡ false → NeverWants (line_of text ++ later)
    → (io.line_of text ≢ whole no_memory_text) × NeverWants later
never_split text later e never =
    let both = subst (AllByRecursion (λ line. line ≢ whole no_memory_text)) (one_more_line text later e) never in
    (both.0, both.1)

-- ---- replies have no line feed

IsMade : Answer → Type 0
IsMade a = a.reply.tail ≡ tail_of a.reply.body

made_cond : (b : Bool) (x y : Answer) → IsMade x → IsMade y → IsMade (cond b x y)
unfolding IsMade
made_cond true x y h k = h
made_cond false x y h k = k

made_with_room : (room : ℕ) (board : Board) (seat : ℕ) (c : Call) (weight : ℕ) (body : Body)
    → IsMade (with_room room board seat c weight body (tail_of body))
unfolding IsMade
made_with_room room board seat c weight (bodies.No why) = refl
made_with_room room board seat c weight (bodies.Ok tree) = made_cond _ _ _ refl refl

made_answer : (journal : List Entry) (c : Call) → IsMade (answer_to journal (Ok c))
unfolding IsMade
made_answer journal c =
    let board = board_of asmeta journal in
    let body = body_at asmeta board c in
    made_cond (is_log c) (without_entry (length journal) (log_of journal c)) (answer_at asmeta journal_room board 0 c) refl
    (made_cond (is_change c) (answer_change asmeta journal_room board 0 c) (without_entry board.front body)
    (made_cond _ _ _ refl (made_with_room journal_room board 0 c (weight_at asmeta board c) body)) refl)

made_asked : (journal : List Entry) (asked : Tried Call) → IsMade (answer_to journal asked)
unfolding IsMade
made_asked journal (Ok c) = made_answer journal c
made_asked journal (Err why) = refl

unfed : (journal : List Entry) (asked : Tried Call) → has_feed (reply_text (answer_to journal asked).reply) ≡ false
unfolding IsMade
unfed journal asked =
    let reply = (answer_to journal asked).reply in
    let made = made_asked journal asked in
    subst (λ tail. has_feed (reply_text (record { at = reply.at; body = reply.body; tail = tail })) ≡ false) (sym made)
    (reply_unfed reply.at reply.body)

-- ---- transcripts

pub full : (journal : List Entry) (ls : List Line) (written : List ℕ) (last : List Entry)
    → Transcript journal ls written last → NeverWants written → FullTranscript journal ls written last
full journal [] written last t never = t
full journal (line ∷ ls) written last t never =
    let now = subst NeverWants t.5 never in
    elim t.3 [
      | inl replied ↦ (
        t.0,
        t.1,
        t.2,
        replied,
        full t.2 ls t.1 last t.4 (never_split (reply_text (answer_to journal replied.asked).reply) t.1 (unfed journal replied.asked)
            (subst (λ a. NeverWants (a ++ t.1)) replied.is now)).1,
        t.5,
      )
      | inr want ↦ absurd ((never_split no_memory_text t.1 refl (subst (λ a. NeverWants (a ++ t.1)) want.is now)).0 refl)
    ]

one_asked : (line : Line) (a b : Tried Call) → LineAsks line a → LineAsks line b → a ≡ b
one_asked (whole line) a b p q = asks_one line a b p q
one_asked too_long a b p q = p ∙ sym q

pub fixed : (journal : List Entry) (ls : List Line) (written other : List ℕ) (last end : List Entry)
    → FullTranscript journal ls written last → FullTranscript journal ls other end
    → (written ≡ other) × (last ≡ end)
fixed journal [] written other last end t u = (t.0 ∙ sym u.0, t.1 ∙ sym u.1)
fixed journal (line ∷ ls) written other last end t u =
    let asked = one_asked line t.3.asked u.3.asked t.3.asks u.3.asks in
    let answers = t.3.is ∙ ap (λ a. reply_line (answer_to journal a).reply) asked ∙ sym u.3.is in
    let journals = t.3.grows ∙ ap (λ a. grown journal (answer_to journal a)) asked ∙ sym u.3.grows in
    let more = fixed t.2 ls t.1 u.1 last end t.4 (subst (λ j. FullTranscript j ls u.1 end) (sym journals) u.4) in
    (t.5 ∙ (λ i. answers i ++ more.0 i) ∙ sym u.5, more.1)
