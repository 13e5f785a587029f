-- What holds between two lines of a session.
use Rattle.std.proofs.Common.{◌≡◌, ℕ, ◌+◌, ◌<◌, ◌≤◌, List, [], ◌∷◌, ◌++◌, length, Bool, true, false, Option, refl, sym, ap, subst, ◌∙◌, append_assoc, append-nil, length-append, arith}
use Rattle.std.specs.Io.KnownBytes.{Consumes, IsAtEnd}
use Rattle.std.proofs.KnownBytes.{Consumes-nil, Consumes-trans}
use Rattle.asm_io.specs.Causes.{Rose}
use Rattle.asm_io.specs.Lines.{Line, lines, ended_lines, ended_of, has_feed, is_feed, later_pieces, first_piece}
use Rattle.asm_io.specs.Readings.{Reading, fresh, lines_on, ended_on, ended_from, ended_behind, GoesOn, Gives, Takes}
use Rattle.asm_board.specs.declared.entry.Entry.{Entry}
use Rattle.asm_stdio.specs.Transcripts.{Answers, IsGivenPart}
use Rattle.asm_stdio.specs.Headline.{session_bytes, IsLegal, AnsweredEnded, AnsweredBudget, AnsweredPart}
use Rattle.asm_stdio.proofs.Written.{answers_append, no_answers, legal_after}

-- which lines were answered of the bytes taken, while the input goes on and once it has ended
abbrev pub Pending : Bool → Option (List ℕ) → List ℕ → List Line → Reading → Type 0
Pending false rest taken done buf =
    ((more : List ℕ) → lines (taken ++ more) ≡ done ++ lines_on buf more)
    × ((more : List ℕ) → ended_lines (taken ++ more) ≡ done ++ ended_on buf more)
Pending true rest taken done buf = (lines taken ≡ done) × IsAtEnd rest × (0 < buf.budget)

-- the lines so far are answered from an empty journal on, and it is this one now
pub record Going (left rest held now : Option (List ℕ)) (journal : List Entry) (buf : Reading) : Type 0 where
  pub taken : List ℕ
  pub read : Consumes left rest taken
  pub budget : buf.budget + length taken ≡ session_bytes
  pub done : List Line
  pub answers : Answers [] done journal held now
  pub legal : IsLegal journal
  pub pending : Pending buf.at_end rest taken done buf

pub begins : (left held : Option (List ℕ)) (journal : List Entry) (buf : Reading) → journal ≡ [] → buf ≡ fresh session_bytes → Going left left held held journal buf
begins left held journal buf none is = subst (λ j. Going left left held held j buf) (sym none) (subst (λ b. Going left left held held [] b) (sym is) (record {
  taken = [];
  read = Consumes-nil left;
  budget = omega arith;
  done = [];
  answers = no_answers [] held;
  legal = tt;
  pending = (λ more. refl, λ more. refl);
}))

-- ---- one more call of `read_line`

-- the bytes taken, with those of the call
module _ (taken more_taken : List ℕ) (done given : List Line) (old new : Reading) where
  goes_lines : ((more : List ℕ) → lines (taken ++ more) ≡ done ++ lines_on old more) → GoesOn old new more_taken given
      → (more : List ℕ) → lines ((taken ++ more_taken) ++ more) ≡ (done ++ given) ++ lines_on new more
  goes_lines before step more =
      ap lines (append_assoc taken more_taken more) ∙ before (more_taken ++ more) ∙ ap (λ ls. done ++ ls) (step.lines more) ∙ sym (append_assoc done given (lines_on new more))

  goes_ended : ((more : List ℕ) → ended_lines (taken ++ more) ≡ done ++ ended_on old more) → GoesOn old new more_taken given
      → (more : List ℕ) → ended_lines ((taken ++ more_taken) ++ more) ≡ (done ++ given) ++ ended_on new more
  goes_ended before step more =
      ap ended_lines (append_assoc taken more_taken more) ∙ before (more_taken ++ more) ∙ ap (λ ls. done ++ ls) (step.ended more) ∙ sym (append_assoc done given (ended_on new more))

  -- what was pending, and what the call gave
  pends : (rest : Option (List ℕ)) (at_end : Bool) → Pending false rest taken done old → Gives at_end old new more_taken given → (rest' : Option (List ℕ)) → (at_end ≡ true → IsAtEnd rest')
      → Pending at_end rest' (taken ++ more_taken) (done ++ given) new
  pends rest false before step rest' met = (goes_lines before.0 step, goes_ended before.1 step)
  pends rest true before step rest' met = (before.0 more_taken ∙ ap (λ ls. done ++ ls) step.lines, met refl, step.room)

-- the state after a call that gave these lines, whose answers were written
pub goes : (left rest rest' held now now' : Option (List ℕ)) (journal next : List Entry) (old new : Reading) (lines : List Line) (taken : List ℕ)
    → Going left rest held now journal old → old.at_end ≡ false → Takes rest rest' old new taken → Gives new.at_end old new taken lines → (new.at_end ≡ true → IsAtEnd rest')
    → Answers journal lines next now now' → Going left rest' held now' next new
goes left rest rest' held now now' journal next old new lines taken s unended takes gives met answers = record {
  taken = s.taken ++ taken;
  read = Consumes-trans left rest rest' s.taken taken s.read takes.consumes;
  budget = omega (arith, length-append s.taken taken, s.budget, takes.budget);
  done = s.done ++ lines;
  answers = answers_append [] journal next s.done lines held now now' s.answers answers;
  legal = legal_after journal next lines answers.written answers.transcript s.legal;
  pending = pends s.taken taken s.done lines old new rest new.at_end (subst (λ b. Pending b rest s.taken s.done old) unended s.pending) gives rest' met;
}

-- ---- the ends

-- where no line feed comes, no line ends
no_pieces : (bytes : List ℕ) → has_feed bytes ≡ false → later_pieces bytes ≡ []
no_pieces [] none = refl
no_pieces (b ∷ bs) none = elim (is_feed b) as (λ t. is_feed b ≡ t → later_pieces (b ∷ bs) ≡ []) [
  | true ↦ λ e. absurd (cc (none, e))
  | false ↦ λ e. grind (arith, e, none, no_pieces bs)
] refl

none_from : (over : Bool) (bytes : List ℕ) → later_pieces bytes ≡ [] → ended_from over bytes ≡ []
none_from false bytes e = ap (ended_of (first_piece bytes)) e
none_from true bytes e = ap ended_behind e

none_ended : (buf : Reading) → has_feed buf.kept ≡ false → ended_on buf [] ≡ []
none_ended buf none = ap (ended_from buf.over) (append-nil buf.kept) ∙ none_from buf.over buf.kept (no_pieces buf.kept none)

pub ended : (left rest held now : Option (List ℕ)) (journal : List Entry) (buf : Reading) → Going left rest held now journal buf → buf.at_end ≡ false → has_feed buf.kept ≡ false → AnsweredEnded left rest held now
ended left rest held now journal buf s unended none =
    let p = subst (λ b. Pending b rest s.taken s.done buf) unended s.pending in
    let are : ended_lines s.taken ≡ s.done = ap ended_lines (sym (append-nil s.taken)) ∙ p.1 [] ∙ ap (λ ls. s.done ++ ls) (none_ended buf none) ∙ append-nil s.done in
    record { taken = s.taken; read = s.read; journal = journal; answers = subst (λ ls. Answers [] ls journal held now) (sym are) s.answers; legal = s.legal }

pub spent : (left rest held now : Option (List ℕ)) (journal : List Entry) (buf : Reading) → Going left rest held now journal buf → buf.at_end ≡ false → has_feed buf.kept ≡ false → buf.budget ≡ 0 → AnsweredBudget left rest held now
spent left rest held now journal buf s unended none zero =
    let p = subst (λ b. Pending b rest s.taken s.done buf) unended s.pending in
    let are : ended_lines s.taken ≡ s.done = ap ended_lines (sym (append-nil s.taken)) ∙ p.1 [] ∙ ap (λ ls. s.done ++ ls) (none_ended buf none) ∙ append-nil s.done in
    record { taken = s.taken; read = s.read; spent = omega (arith, s.budget, zero); journal = journal; answers = subst (λ ls. Answers [] ls journal held now) (sym are) s.answers; legal = s.legal }

-- the lines of the bytes taken: those answered, the one that was given, and those behind it
split : (at_end : Bool) (rest : Option (List ℕ)) (taken : List ℕ) (done : List Line) (line : Line) (more : List Line) (buf : Reading)
    → Pending at_end rest taken (done ++ line ∷ more) buf → (behind : List Line) × (lines taken ≡ done ++ line ∷ behind)
split false rest taken done line more buf p = (
  more ++ lines_on buf [],
  ap lines (sym (append-nil taken)) ∙ p.0 [] ∙ append_assoc done (line ∷ more) (lines_on buf []),
)
split true rest taken done line more buf p = (more, p.0)

-- the answer to the line that was given was written in part
pub part : (left rest rest' held now now' : Option (List ℕ)) (journal : List Entry) (old new : Reading) (given : List Line) (taken : List ℕ)
    → Going left rest held now journal old → old.at_end ≡ false → Takes rest rest' old new taken → Gives new.at_end old new taken given → (new.at_end ≡ true → IsAtEnd rest')
    → IsGivenPart journal given now now' → AnsweredPart left rest' held now'
part left rest rest' held now now' journal old new [] taken s unended takes gives met p = absurd p
part left rest rest' held now now' journal old new (line ∷ more) taken s unended takes gives met p =
    let pending = pends s.taken taken s.done (line ∷ more) old new rest new.at_end (subst (λ b. Pending b rest s.taken s.done old) unended s.pending) gives rest' met in
    let two = split new.at_end rest' (s.taken ++ taken) s.done line more new pending in
    record {
      taken = s.taken ++ taken;
      read = Consumes-trans left rest rest' s.taken taken s.read takes.consumes;
      before = s.done;
      line = line;
      behind = two.0;
      split = two.1;
      answers = record { last = journal; between = now; before = s.answers; part = p };
      legal = s.legal;
    }

-- ---- what a call's clauses tell

pub off : (b : Bool) → (b ≡ true → ⊥) → b ≡ false
off true h = absurd (h refl)
off false h = refl

-- no line was given, and the input goes on
pub faulted : (left rest rest' held now : Option (List ℕ)) (journal : List Entry) (old new : Reading) (taken : List ℕ)
    → Going left rest held now journal old → old.at_end ≡ false → Takes rest rest' old new taken → GoesOn old new taken [] → new.at_end ≡ false → Going left rest' held now journal new
faulted left rest rest' held now journal old new taken s unended takes step after =
    goes left rest rest' held now now journal journal old new [] taken s unended takes (subst (λ b. Gives b old new taken []) (sym after) step) (λ t. absurd (cc (t, after))) (no_answers journal now)

pub rose_before : (a b n : ℕ) → a ≤ b → Rose b n → Rose a n
rose_before a b n h r = omega arith
