-- What a front without a line feed, a line feed and the end of the bytes do to the lines.
use Rattle.std.proofs.Common.{◌≡◌, ℕ, ◌≤◌, ◌<◌, List, [], ◌∷◌, ◌++◌, length, true, false, cond, ◌||◌, refl, sym, ap, ◌∙◌, arith, length-append, append-nil}
use Rattle.std.proofs.lemmas.Bool.Decides.{nat_tests}
use Rattle.asm_io.specs.Lines.{limit, whole, too_long, is_feed, has_feed, first_piece, later_pieces, line_of, lines_of, lines, ended_of, ended_lines}
use Rattle.asm_io.specs.Readings.{lines_behind, ended_behind, lines_from, ended_from}

-- a piece that fits is a line, and a longer one is too long
pub line_of_short : (piece : List ℕ) → length piece ≤ limit → line_of piece ≡ whole piece
line_of_short piece h = grind (arith, nat_tests)

pub line_of_long : (piece : List ℕ) → limit < length piece → line_of piece ≡ too_long
line_of_long piece h = grind (arith, nat_tests)

-- a front without a line feed
pub first_piece-front : (front more : List ℕ) → has_feed front ≡ false → first_piece (front ++ more) ≡ front ++ first_piece more
first_piece-front [] more h = refl
first_piece-front (b ∷ bs) more h =
    (elim (is_feed b) as (λ t. (t || has_feed bs) ≡ false → cond t [] (b ∷ first_piece (bs ++ more)) ≡ b ∷ (bs ++ first_piece more)) [
      | true ↦ λ e. cc
      | false ↦ λ e. ap (λ w. b ∷ w) (first_piece-front bs more e)
    ]) h

pub later_pieces-front : (front more : List ℕ) → has_feed front ≡ false → later_pieces (front ++ more) ≡ later_pieces more
later_pieces-front [] more h = refl
later_pieces-front (b ∷ bs) more h =
    (elim (is_feed b) as (λ t. (t || has_feed bs) ≡ false → cond t (first_piece (bs ++ more) ∷ later_pieces (bs ++ more)) (later_pieces (bs ++ more)) ≡ later_pieces more) [
      | true ↦ λ e. cc
      | false ↦ λ e. later_pieces-front bs more e
    ]) h

lines_of-cons : (xs ys : List ℕ) (zs : List (List ℕ)) → lines_of xs (ys ∷ zs) ≡ line_of xs ∷ lines_of ys zs
lines_of-cons [] ys zs = refl
lines_of-cons (x ∷ xs) ys zs = refl

-- a line feed behind such a front ends a line
pub lines_at_feed : (front rest : List ℕ) → has_feed front ≡ false → lines (front ++ 10 ∷ rest) ≡ line_of front ∷ lines rest
lines_at_feed front rest h =
    ap (λ w. lines_of w (later_pieces (front ++ 10 ∷ rest))) (first_piece-front front (10 ∷ rest) h ∙ append-nil front)
    ∙ ap (λ w. lines_of front w) (later_pieces-front front (10 ∷ rest) h)
    ∙ lines_of-cons front (first_piece rest) (later_pieces rest)

pub ended_at_feed : (front rest : List ℕ) → has_feed front ≡ false → ended_lines (front ++ 10 ∷ rest) ≡ line_of front ∷ ended_lines rest
ended_at_feed front rest h =
    ap (λ w. ended_of w (later_pieces (front ++ 10 ∷ rest))) (first_piece-front front (10 ∷ rest) h ∙ append-nil front)
    ∙ ap (λ w. ended_of front w) (later_pieces-front front (10 ∷ rest) h)

-- the same where the line began before
pub lines_behind_feed : (front rest : List ℕ) → has_feed front ≡ false → lines_from true (front ++ 10 ∷ rest) ≡ too_long ∷ lines rest
lines_behind_feed front rest h = ap (λ w. too_long ∷ lines_behind w) (later_pieces-front front (10 ∷ rest) h)

pub ended_behind_feed : (front rest : List ℕ) → has_feed front ≡ false → ended_from true (front ++ 10 ∷ rest) ≡ too_long ∷ ended_lines rest
ended_behind_feed front rest h = ap ended_behind (later_pieces-front front (10 ∷ rest) h)

-- a front of more than limit bytes is a line that is too long and has begun
long_piece : (front piece : List ℕ) (more : List (List ℕ)) → limit < length front → lines_of (front ++ piece) more ≡ too_long ∷ lines_behind more
long_piece [] piece more h = absurd (omega arith)
long_piece (b ∷ bs) piece [] h =
    ap (λ l. l ∷ []) (line_of_long ((b ∷ bs) ++ piece) (omega (arith, length-append (b ∷ bs) piece)))
long_piece (b ∷ bs) piece (next ∷ more) h =
    ap (λ l. l ∷ lines_of next more) (line_of_long ((b ∷ bs) ++ piece) (omega (arith, length-append (b ∷ bs) piece)))

long_ended : (front piece : List ℕ) (more : List (List ℕ)) → limit < length front → ended_of (front ++ piece) more ≡ ended_behind more
long_ended front piece [] h = refl
long_ended front piece (next ∷ more) h =
    ap (λ l. l ∷ ended_of next more) (line_of_long (front ++ piece) (omega (arith, length-append front piece)))

pub lines_over : (front more : List ℕ) → has_feed front ≡ false → limit < length front → lines (front ++ more) ≡ lines_from true more
lines_over front more h long =
    ap (λ w. lines_of w (later_pieces (front ++ more))) (first_piece-front front more h)
    ∙ long_piece front (first_piece more) (later_pieces (front ++ more)) long
    ∙ ap (λ w. too_long ∷ lines_behind w) (later_pieces-front front more h)

pub ended_over : (front more : List ℕ) → has_feed front ≡ false → limit < length front → ended_lines (front ++ more) ≡ ended_from true more
ended_over front more h long =
    ap (λ w. ended_of w (later_pieces (front ++ more))) (first_piece-front front more h)
    ∙ long_ended front (first_piece more) (later_pieces (front ++ more)) long
    ∙ ap ended_behind (later_pieces-front front more h)

-- what is skipped of such a line
pub lines_skipped : (front more : List ℕ) → has_feed front ≡ false → lines_from true (front ++ more) ≡ lines_from true more
lines_skipped front more h = ap (λ w. too_long ∷ lines_behind w) (later_pieces-front front more h)

pub ended_skipped : (front more : List ℕ) → has_feed front ≡ false → ended_from true (front ++ more) ≡ ended_from true more
ended_skipped front more h = ap ended_behind (later_pieces-front front more h)

-- at the end
pub lines_last : (front : List ℕ) → has_feed front ≡ false → lines front ≡ lines_of front []
lines_last front h =
    ap (λ w. lines_of (first_piece w) (later_pieces w)) (sym (append-nil front))
    ∙ ap (λ w. lines_of w (later_pieces (front ++ []))) (first_piece-front front [] h ∙ append-nil front)
    ∙ ap (λ w. lines_of front w) (later_pieces-front front [] h)

pub lines_last_over : (front : List ℕ) → has_feed front ≡ false → lines_from true front ≡ too_long ∷ []
lines_last_over front h =
    ap (λ w. lines_from true w) (sym (append-nil front)) ∙ lines_skipped front [] h
