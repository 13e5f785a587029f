-- What is written for lines, one after another, and the journal that goes on with them.
use Rattle.std.proofs.Common.{ℕ, List, [], ◌∷◌, ◌++◌, Option, Ok, Err, inl, inr, refl, sym, ap, ◌∙◌, subst, append_assoc, append-nil}
use Rattle.std.proofs.KnownBytes.{Appends-trans, Appends-nil}
use Rattle.asm_io.specs.Lines.{Line}
use Rattle.asm_board.specs.declared.entry.Entry.{Entry}
use Rattle.asm_board.specs.declared.call.Call.{Call}
use Rattle.asm_board.specs.Refusals.{Tried}
use Rattle.asm_board.proofs.Legal.{grows_legally}
use Rattle.asm_core.specs.Language.{asmeta}
use Rattle.asm_stdio.specs.Transcripts.{journal_room, answer_to, grown, IsAnswer, Transcript, Answers}
use Rattle.asm_stdio.specs.Headline.{IsLegal}

transcript_append : (first between last : List Entry) (xs ys : List Line) (a b : List ℕ) → Transcript first xs a between → Transcript between ys b last → Transcript first (xs ++ ys) (a ++ b) last
transcript_append first between last [] ys a b s t = subst (λ w. Transcript first ys (w ++ b) last) (sym s.0) (subst (λ j. Transcript j ys b last) s.1 t)
transcript_append first between last (x ∷ xs) ys a b s t =
    (s.0, s.1 ++ b, s.2, s.3, transcript_append s.2 between last xs ys s.1 b s.4 t, ap (λ w. w ++ b) s.5 ∙ append_assoc s.0 s.1 b)

-- these lines, and then those
pub answers_append : (first middle last : List Entry) (xs ys : List Line) (held between now : Option (List ℕ))
    → Answers first xs middle held between → Answers middle ys last between now → Answers first (xs ++ ys) last held now
answers_append first middle last xs ys held between now s t = record {
  written = s.written ++ t.written;
  transcript = transcript_append first middle last xs ys s.written t.written s.transcript t.transcript;
  appends = Appends-trans held between now s.written t.written s.appends t.appends;
}

pub no_answers : (journal : List Entry) (held : Option (List ℕ)) → Answers journal [] journal held held
no_answers journal held = record { written = []; transcript = (refl, refl); appends = Appends-nil held }

-- ---- a journal stays legal

legal_grown : (journal : List Entry) (asked : Tried Call) → IsLegal journal → IsLegal (grown journal (answer_to journal asked))
legal_grown journal (Ok call) legal = grows_legally asmeta journal_room journal 0 call legal
legal_grown journal (Err why) legal = subst IsLegal (sym (append-nil journal)) legal

legal_next : (journal next : List Entry) (line : Line) (answer : List ℕ) → IsAnswer journal line answer next → IsLegal journal → IsLegal next
legal_next journal next line answer (inl replied) legal = subst IsLegal (sym replied.grows) (legal_grown journal replied.asked legal)
legal_next journal next line answer (inr want) legal = subst IsLegal (sym want.stays) legal

pub legal_after : (journal last : List Entry) (lines : List Line) (written : List ℕ) → Transcript journal lines written last → IsLegal journal → IsLegal last
legal_after journal last [] written t legal = subst IsLegal (sym t.1) legal
legal_after journal last (line ∷ lines) written t legal =
    legal_after t.2 last lines t.1 t.4 (legal_next journal t.2 line t.0 t.3 legal)
