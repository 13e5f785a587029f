-- One more word, row or definition at a turn of a loop.
use Rattle.std.proofs.Common.{◌≡◌, ℕ, suc, ◌+◌, ◌≤◌, ◌==◌, List, [], ◌∷◌, ◌++◌, length}
use Rattle.std.proofs.Common.{get_or, append_assoc, append-nil, refl, sym, ap, ◌∙◌, arith}
use Rattle.std.proofs.lemmas.List.FromFn.{map-range_with_len_more}
use Rattle.asm_calls.specs.Orders.{unit, count_below}
use Rattle.asm_calls.specs.Rows.{Rows, has, with_calls, row_of, word_through, row_through}
use Rattle.asm_calls.specs.Rows.{through, closed_to, counts_to, only_if, those_to, ordered_to}
use Rattle.asm_calls.proofs.Counted.{count_most}

one_more : (n : ℕ) → n + 1 ≡ suc n
one_more n = omega arith

pub row_of-none : (calls : List ℕ) → row_of 0 calls ≡ []
unfolding row_of
row_of-none calls = refl

pub row_of-more : (n : ℕ) (calls : List ℕ)
    → row_of (n + 1) calls ≡ row_of n calls ++ with_calls n 0 calls ∷ []
unfolding row_of
row_of-more n calls =
    map-range_with_len_more (λ at. with_calls at 0 calls) 0 n n (omega arith)

pub row_through-none : (rows : Rows) (middle from : ℕ) → row_through 0 rows middle from ≡ []
unfolding row_through
row_through-none rows middle from = refl

pub row_through-more : (n : ℕ) (rows : Rows) (middle from : ℕ)
    → row_through (n + 1) rows middle from
    ≡ row_through n rows middle from ++ word_through rows middle from n ∷ []
unfolding row_through
row_through-more n rows middle from =
    map-range_with_len_more (word_through rows middle from) 0 n n (omega arith)

pub through-none : (words : ℕ) (rows : Rows) (middle : ℕ) → through words 0 rows middle ≡ []
unfolding through
through-none words rows middle = refl

pub through-more : (words n : ℕ) (rows : Rows) (middle : ℕ)
    → through words (n + 1) rows middle
    ≡ through words n rows middle ++ row_through words rows middle n ∷ []
unfolding through
through-more words n rows middle =
    map-range_with_len_more (row_through words rows middle) 0 n n (omega arith)

pub closed_to-none : (words count : ℕ) (rows : Rows) → closed_to words count rows 0 ≡ rows
unfolding closed_to
closed_to-none words count rows = refl

pub closed_to-more : (words count : ℕ) (rows : Rows) (m : ℕ)
    → closed_to words count rows (m + 1) ≡ through words count (closed_to words count rows m) m
unfolding closed_to
closed_to-more words count rows m = ap (closed_to words count rows) (one_more m)

pub counts_to-none : (rows : Rows) (count : ℕ) → counts_to rows count 0 ≡ []
unfolding counts_to
counts_to-none rows count = refl

pub counts_to-more : (rows : Rows) (count n : ℕ)
    → counts_to rows count (n + 1) ≡ counts_to rows count n ++ count_below (has rows n) count ∷ []
unfolding counts_to
counts_to-more rows count n =
    map-range_with_len_more (λ from. count_below (has rows from) count) 0 n n (omega arith)

pub those_to-none : (counts : List ℕ) (count : ℕ) → those_to counts count 0 ≡ []
unfolding those_to
those_to-none counts count = refl

pub those_to-more : (counts : List ℕ) (count n : ℕ)
    → those_to counts count (n + 1)
    ≡ those_to counts count n ++ only_if (get_or counts n 0 == count) n
unfolding those_to
those_to-more counts count n = ap (those_to counts count) (one_more n)

-- those so far, and one more
pub those_to-on : (old counts : List ℕ) (count n : ℕ)
    → (old ++ those_to counts count n) ++ only_if (get_or counts n 0 == count) n
    ≡ old ++ those_to counts count (n + 1)
those_to-on old counts count n =
    append_assoc old (those_to counts count n) (only_if (get_or counts n 0 == count) n)
    ∙ ap (λ xs. old ++ xs) (sym (those_to-more counts count n))

pub those_to-first : (old counts : List ℕ) (count : ℕ) → old ++ those_to counts count 0 ≡ old
those_to-first old counts count =
    ap (λ xs. old ++ xs) (those_to-none counts count) ∙ append-nil old

pub ordered_to-none : (counts : List ℕ) → ordered_to counts 0 ≡ []
unfolding ordered_to
ordered_to-none counts = refl

pub ordered_to-more : (counts : List ℕ) (n : ℕ)
    → ordered_to counts (n + 1) ≡ ordered_to counts n ++ those_to counts n (length counts)
unfolding ordered_to
ordered_to-more counts n = ap (ordered_to counts) (one_more n)

pub count_below-more : (rows : Rows) (from n : ℕ)
    → count_below (has rows from) (n + 1) ≡ unit (has rows from n) + count_below (has rows from) n
count_below-more rows from n = ap (count_below (has rows from)) (one_more n)

pub count_below-most : (rows : Rows) (from n : ℕ) → count_below (has rows from) n ≤ n
count_below-most rows from n = count_most (has rows from) n

pub ruleset row_steps = (row_of-none, row_of-more)

pub ruleset row_through_steps = (row_through-none, row_through-more)

pub ruleset through_steps = (through-none, through-more)

pub ruleset closing = (closed_to-none, closed_to-more)

pub ruleset counts_steps = (counts_to-none, counts_to-more)

pub ruleset those_steps = (those_to-first, those_to-on)

pub ruleset ordered_steps = (ordered_to-none, ordered_to-more)

pub ruleset count_steps = (count_below-more, count_below-most)
