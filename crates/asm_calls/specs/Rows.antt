-- Rows of bits: for each definition those that it reaches, in words of 64 bits.
use Rattle.std.specs.Prelude.{◌≡◌, ◌<◌, Option, Some, None, ℕ, zero, suc, ◌+◌, ◌*◌, ◌/◌, ◌%◌, ◌^◌, ◌==◌, Bool, true, false, if◌then◌else◌, List, [], ◌∷◌, ◌++◌, map, length, get_or, bit_and, bit_or}
use Rattle.std.specs.List.{range_with_len}
use Rattle.asm_program.specs.Calls.{CallGraph}
use Rattle.asm_calls.specs.Orders.{count_below}

abbrev pub Rows : Type 0
Rows = List (List ℕ)

-- a word of a row; past the end no bit is set
abbrev pub row_word : Rows → ℕ → ℕ → ℕ
row_word rows from at = get_or (get_or rows from []) at 0

-- whether a definition reaches another
unfoldable pub has : Rows → ℕ → ℕ → Bool
has rows from to = bit_and (row_word rows from (to / 64) / 2 ^ (to % 64)) 1 == 1

-- ---- the first rows: those that each one calls

-- the word with this number, with the bit of one more that is called
unfoldable pub with_call : ℕ → ℕ → ℕ → ℕ
with_call at word to =
    if (to / 64) == at then bit_or word (1 * 2 ^ (to % 64) % 2 ^ 64) else word

unfoldable pub with_calls : ℕ → ℕ → List ℕ → ℕ
with_calls at word [] = word
with_calls at word (to ∷ rest) = with_calls at (with_call at word to) rest

unfoldable pub row_of : ℕ → List ℕ → List ℕ
row_of words calls = map (λ at. with_calls at 0 calls) (range_with_len 0 words)

abbrev pub rows_of : ℕ → CallGraph → Rows
rows_of words graph = map (row_of words) graph

-- ---- closure

abbrev pub masked : Bool → ℕ → ℕ
masked true word = word
masked false word = 0

-- the word of a row, with that of the middle's row where it reaches the middle
abbrev pub word_through : Rows → ℕ → ℕ → ℕ → ℕ
word_through rows middle from at =
    bit_or (row_word rows from at) (masked (has rows from middle) (row_word rows middle at))

unfoldable pub row_through : ℕ → Rows → ℕ → ℕ → List ℕ
row_through words rows middle from =
    map (word_through rows middle from) (range_with_len 0 words)

unfoldable pub through : ℕ → ℕ → Rows → ℕ → Rows
through words count rows middle =
    map (row_through words rows middle) (range_with_len 0 count)

-- by way of the first so many
unfoldable pub closed_to : ℕ → ℕ → Rows → ℕ → Rows
closed_to words count rows zero = rows
closed_to words count rows (suc m) = through words count (closed_to words count rows m) m

abbrev pub words_of : CallGraph → ℕ
words_of graph = length graph / 64 + 1

unfoldable pub closure : CallGraph → Rows
closure graph =
    closed_to (words_of graph) (length graph) (rows_of (words_of graph) graph) (length graph)

-- ---- the order by how many each one reaches

unfoldable pub counts_to : Rows → ℕ → ℕ → List ℕ
counts_to rows count n = map (λ from. count_below (has rows from) count) (range_with_len 0 n)

abbrev pub only_if : Bool → ℕ → List ℕ
only_if true at = at ∷ []
only_if false at = []

-- those among the first n that reach so many
unfoldable pub those_to : List ℕ → ℕ → ℕ → List ℕ
those_to counts count zero = []
those_to counts count (suc n) =
    those_to counts count n ++ only_if (get_or counts n 0 == count) n

-- those that reach fewer than n, by how many
unfoldable pub ordered_to : List ℕ → ℕ → List ℕ
ordered_to counts zero = []
ordered_to counts (suc n) = ordered_to counts n ++ those_to counts n (length counts)

abbrev pub counts_of : CallGraph → List ℕ
counts_of graph = counts_to (closure graph) (length graph) (length graph)

-- the first of so many that reaches itself
abbrev pub IsFirst : Rows → ℕ → Option ℕ → Type 0
IsFirst rows count None = (k : ℕ) → k < count → has rows k k ≡ false
IsFirst rows count (Some i) =
    (i < count) × (has rows i i ≡ true) × ((k : ℕ) → k < i → has rows k k ≡ false)
