-- How the ends of a commit are put together.
use Rattle.std.proofs.Common.{◌≡◌, ◌+◌, ℕ, true, List, [], ◌∷◌, ◌++◌, length, Some, None, Option, Result, Ok, Err, refl, sym, ap, subst, ◌∙◌}
use Rattle.std.proofs.lemmas.List.{append-nil}
use Rattle.std.specs.Prelude.{option_map, IfSome}
use mathlib.Core.List.{IsPrefix}
use Rattle.asm_board.specs.declared.board.Board.{Board}
use Rattle.asm_board.specs.declared.entry.Entry.{Entry}
use Rattle.asm_board.specs.declared.outcome.Outcome.{Outcome}
use Rattle.asm_board.specs.declared.outcome.Next.{Next}
use Rattle.asm_board.specs.declared.prepared.NameVersion.{NameVersion}
use Rattle.asm_board.specs.declared.prepared.Prepared.{Prepared}
use Rattle.asm_board.specs.declared.reply.Reply.{Reply}
use Rattle.asm_board.specs.Meanings.{Meanings}
use Rattle.asm_board.specs.Calls.{is_change}
use Rattle.asm_board.specs.Boards.{version_of, board_of, with_entry}
use Rattle.asm_board.specs.Answers.{Answer, answer_in, outcome_of, Legal, Stands, Settled, first_stale, unless_stale, settle}
use Rattle.asm_board.specs.Answers as verdicts
use Rattle.asm_book.specs.declared.refusal.CommitRefusal.{CommitRefusal}
use Rattle.asm_book.specs.declared.refusal.CommitRefusal.TheVariants.{Stale, NoMemory}
use Rattle.asm_book.specs.Versions.{stale_at}
use Rattle.asm_book.specs.Seats.{IsPick, numbers_of}
use Rattle.asm_book.specs.Commits.{IsStale, Commits, grown}
use Rattle.asm_book.proofs.Journals.{Adds, adds}
use Rattle.asm_book.proofs.SeatLists.{numbers_push}

-- a change that is stale for this version
pub stale_ends : (m : Meanings) (room : ℕ) (journal : List Entry) (seat : ℕ) (p : Prepared) (mine : List ℕ) (v : NameVersion) (r : CommitRefusal)
    → stale_at (board_of m journal) (Some v) ≡ first_stale p.versions (board_of m journal)
    → IsStale m journal v r → Commits m room journal seat p mine (Err r) journal mine
stale_ends m room journal seat p mine v (Stale model had now board) first is =
    let b : Board = board_of m journal in
    let answered : Answer = outcome_of room b seat p in
    let name : v.name ≡ model = sym is.0 in
    let before : v.version ≡ had = sym is.1 in
    let after : version_of b v.name ≡ now = sym is.2 in (
      ap (λ s. unless_stale s answered) (sym first) ∙ (λ j. verdicts.Stale (name j) (before j) (after j)),
      is.3,
      refl,
      refl,
    )
stale_ends m room journal seat p mine v NoMemory first is = (refl, refl)

-- a change that isn't stale is answered
settles : (m : Meanings) (room : ℕ) (journal : List Entry) (seat : ℕ) (p : Prepared) (o : Outcome)
    → None ≡ first_stale p.versions (board_of m journal)
    → answer_in o ≡ outcome_of room (board_of m journal) seat p
    → settle m room journal seat p ≡ Settled (answer_in o)
settles m room journal seat p o fresh is =
    ap (λ s. unless_stale s (outcome_of room (board_of m journal) seat p)) (sym fresh) ∙ ap Settled (sym is)

-- it is answered without an entry
pub told_ends : (m : Meanings) (room : ℕ) (journal : List Entry) (seat : ℕ) (p : Prepared) (mine : List ℕ) (o : Outcome)
    → None ≡ first_stale p.versions (board_of m journal)
    → answer_in o ≡ outcome_of room (board_of m journal) seat p
    → o.next ≡ None → Commits m room journal seat p mine (Ok o.reply) journal mine
told_ends m room journal seat p mine o fresh is none = record {
  entry = None;
  settled = settles m room journal seat p o fresh is ∙ ap (λ (next : Option Next). Settled (record { reply = o.reply; entry = option_map (λ (n : Next). n.entry) next })) none;
  journal_is = refl;
  own_is = refl;
}

-- it is answered with an entry
pub entered_ends : (m : Meanings) (room : ℕ) (journal : List Entry) (seat : ℕ) (p : Prepared) (mine : List ℕ) (o : Outcome) (n : Next) (after : List Entry) (own : List ℕ)
    → None ≡ first_stale p.versions (board_of m journal)
    → answer_in o ≡ outcome_of room (board_of m journal) seat p
    → o.next ≡ Some n → after ≡ journal ++ n.entry ∷ [] → own ≡ mine ++ n.entry.number ∷ []
    → Commits m room journal seat p mine (Ok o.reply) after own
entered_ends m room journal seat p mine o n after own fresh is some journal_is own_is = record {
  entry = Some n.entry;
  settled = settles m room journal seat p o fresh is ∙ ap (λ (next : Option Next). Settled (record { reply = o.reply; entry = option_map (λ (k : Next). k.entry) next })) some;
  journal_is = journal_is;
  own_is = own_is;
}

pub record Enters (m : Meanings) (room : ℕ) (journal : List Entry) (seat : ℕ) (p : Prepared) (n : Next) : Type 0 where
  pub adds : Adds m room journal seat p n.entry
  pub board : n.board ≡ board_of m (journal ++ n.entry ∷ [])

-- what its entry adds
pub enters : (m : Meanings) (room : ℕ) (prefix journal : List Entry) (seat : ℕ) (p : Prepared) (o : Outcome) (n : Next) → is_change p.call ≡ true
    → Legal m room journal → IsPrefix prefix journal → Stands m p p.call (board_of m prefix)
    → None ≡ first_stale p.versions (board_of m journal)
    → answer_in o ≡ outcome_of room (board_of m journal) seat p
    → IfSome o.next (λ next. next.board ≡ with_entry (board_of m journal) p.weight p.slots)
    → o.next ≡ Some n → Enters m room journal seat p n
enters m room prefix journal seat p o n is legal pre stands fresh answered left some =
    let made : (outcome_of room (board_of m journal) seat p).entry ≡ Some n.entry = ap (λ (a : Answer). a.entry) (sym answered) ∙ ap (λ (next : Option Next). option_map (λ (k : Next). k.entry) next) some in
    let a = adds m room prefix journal seat p n.entry is legal pre stands (sym fresh) made in
    let after : n.board ≡ with_entry (board_of m journal) p.weight p.slots = subst (λ (next : Option Next). IfSome next (λ k. k.board ≡ with_entry (board_of m journal) p.weight p.slots)) some left in
    record { adds = a; board = after ∙ a.board }

-- the seat's own numbers with that of the entry
pub pick_entered : (m : Meanings) (room : ℕ) (journal : List Entry) (seat : ℕ) (p : Prepared) (e : Entry) (mine : List ℕ) (after : List Entry) (own : List ℕ)
    → Adds m room journal seat p e → after ≡ journal ++ e ∷ [] → own ≡ mine ++ e.number ∷ []
    → IsPick mine (numbers_of seat journal) → IsPick own (numbers_of seat after)
pick_entered m room journal seat p e mine after own a journal_is own_is pick =
    let number : own ≡ mine ++ (length journal + 1) ∷ [] = own_is ∙ ap (λ k. mine ++ k ∷ []) a.number in
    subst (λ xs. IsPick xs (numbers_of seat after)) (sym number)
    (subst (λ (h : List Entry). IsPick (mine ++ (length journal + 1) ∷ []) (numbers_of seat h)) (sym journal_is) (numbers_push seat journal e mine pick a.of_seat))

grown_later : (journal : List Entry) (entry : Option Entry) → IsPrefix journal (grown journal entry)
grown_later journal None = ([], append-nil journal)
grown_later journal (Some e) = (e ∷ [], refl)

-- a commit goes on from its journal
pub commits_later : (m : Meanings) (room : ℕ) (journal : List Entry) (seat : ℕ) (p : Prepared) (mine : List ℕ) (result : Result Reply CommitRefusal) (after : List Entry) (own : List ℕ)
    → Commits m room journal seat p mine result after own → IsPrefix journal after
commits_later m room journal seat p mine (Ok reply) after own s = subst (λ (h : List Entry). IsPrefix journal h) (sym s.journal_is) (grown_later journal s.entry)
commits_later m room journal seat p mine (Err (Stale model had now board)) after own s = ([], append-nil journal ∙ sym s.2)
commits_later m room journal seat p mine (Err NoMemory) after own s = ([], append-nil journal ∙ sym s.0)
