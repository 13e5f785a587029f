-- What is given at a line feed and at the source's end.
use Rattle.std.proofs.Common.{◌≡◌, ℕ, ◌≤◌, ◌<◌, List, [], ◌∷◌, ◌++◌, length, true, false, cond, refl, sym, ap, ◌∙◌, arith}
use Rattle.asm_io.specs.Lines.{limit, whole, too_long, has_feed, line_of, lines_of}
use Rattle.asm_io.specs.Readings.{Reading, lines_from}
use Rattle.asm_io.specs.Steps.{GivesNext, GivesLast}
use Rattle.asm_io.specs.declared.line_buf.LineEnd.TheVariants as ends
use Rattle.asm_io.proofs.Pieces.{lines_last, lines_last_over, line_of_short}

-- readings with the same parts
pub same_reading : (r s : Reading) → r.line ≡ s.line → r.over ≡ s.over → r.kept ≡ s.kept → r.at_end ≡ s.at_end → r.budget ≡ s.budget → r ≡ s
same_reading r s line over kept at_end budget = λ i. record { line = line i; over = over i; kept = kept i; at_end = at_end i; budget = budget i }

at_over : (over : _) (kept : List ℕ) → over ≡ true → has_feed kept ≡ false → too_long ∷ [] ≡ lines_from over kept
at_over over kept o h = sym (ap (λ t. lines_from t kept) o ∙ lines_last_over kept h)

one_line : (kept : List ℕ) → 0 < length kept → length kept ≤ limit → whole kept ∷ [] ≡ lines_of kept []
one_line [] some short = absurd (omega arith)
one_line (b ∷ bs) some short = ap (λ l. l ∷ []) (sym (line_of_short (b ∷ bs) short))

-- a line that is too long ends with the source
pub gives_last_long : (old new : Reading) → old.over ≡ true → has_feed old.kept ≡ false
    → new.line ≡ [] → new.over ≡ false → new.kept ≡ [] → new.at_end ≡ true → new.budget ≡ old.budget → GivesLast old new ends.TooLongLine
gives_last_long old new o h line over kept at_end budget = record {
  line = at_over old.over old.kept o h;
  lends = line;
  meets = tt;
  falls = rw (o, over, kept, budget) (omega arith);
  kept = kept;
  over = over;
  at_end = at_end;
  budget = budget;
}

pub gives_last_line : (old new : Reading) → old.over ≡ false → has_feed old.kept ≡ false → 0 < length old.kept → length old.kept ≤ limit
    → new.line ≡ old.kept → new.over ≡ false → new.kept ≡ [] → new.at_end ≡ true → new.budget ≡ old.budget → GivesLast old new ends.LastLine
gives_last_line old new o h some short line over kept at_end budget = record {
  line = ap (λ w. whole w ∷ []) line ∙ one_line old.kept some short ∙ sym (ap (λ t. lines_from t old.kept) o ∙ lines_last old.kept h);
  lends = tt;
  meets = refl;
  falls = rw (o, over, kept, budget) (omega arith);
  kept = kept;
  over = over;
  at_end = at_end;
  budget = budget;
}

pub gives_none : (old new : Reading) → old.over ≡ false → old.kept ≡ []
    → new.line ≡ [] → new.over ≡ false → new.kept ≡ [] → new.at_end ≡ true → new.budget ≡ old.budget → GivesLast old new ends.End
gives_none old new o none line over kept at_end budget = record {
  line = sym (ap (λ t. lines_from t old.kept) o ∙ ap (λ w. lines_from false w) none);
  lends = line;
  meets = refl;
  falls = tt;
  kept = kept;
  over = over;
  at_end = at_end;
  budget = budget;
}

-- at a line feed, of a line that has begun as one that is too long, and of one that fits
pub gives_next_long : (old new : Reading) (piece : List ℕ) → old.kept ≡ piece ++ 10 ∷ new.kept → has_feed piece ≡ false → old.over ≡ true
    → new.line ≡ [] → new.over ≡ false → new.at_end ≡ old.at_end → new.budget ≡ old.budget → GivesNext old new ends.TooLongLine
gives_next_long old new piece kept first o line over at_end budget = record {
  piece = piece;
  kept = kept;
  first = first;
  line = ap (λ t. cond t too_long (line_of piece) ∷ []) (sym o);
  lends = line;
  meets = tt;
  over = over;
  at_end = at_end;
  budget = budget;
}

pub gives_next_line : (old new : Reading) (piece : List ℕ) → old.kept ≡ piece ++ 10 ∷ new.kept → has_feed piece ≡ false → old.over ≡ false → length piece ≤ limit
    → new.line ≡ piece → new.over ≡ false → new.at_end ≡ old.at_end → new.budget ≡ old.budget → GivesNext old new ends.Line
gives_next_line old new piece kept first o short line over at_end budget = record {
  piece = piece;
  kept = kept;
  first = first;
  line = ap (λ w. whole w ∷ []) line ∙ ap (λ l. l ∷ []) (sym (line_of_short piece short)) ∙ ap (λ t. cond t too_long (line_of piece) ∷ []) (sym o);
  lends = tt;
  meets = refl;
  over = over;
  at_end = at_end;
  budget = budget;
}
