-- The closure has the bits of what is reached by calls.
use Rattle.std.proofs.Common.{◌≡◌, ℕ, zero, suc, ◌+◌, ◌*◌, ◌/◌, ◌%◌, ◌^◌, ◌<◌, ◌≤◌, ◌==◌, ◌≢◌, max}
use Rattle.std.proofs.Common.{Bool, true, false, ◌||◌, ◌&&◌, if◌then◌else◌, ◌⊎◌, inl, inr}
use Rattle.std.proofs.Common.{Option, Some, None, List, [], ◌∷◌, length, get_or}
use Rattle.std.proofs.Common.{bit_and, bit_or, refl, sym, ap, subst, ◌∙◌, arith, w64}
use Rattle.std.specs.Option.{option_map_or}
use Rattle.std.specs.Int.{bit_at}
use Rattle.std.proofs.lemmas.Bool.Decides.{nat_tests}
use Rattle.std.proofs.lemmas.List.{get_or-map}
use Rattle.std.proofs.lemmas.List.FromFn.{get_or-map-range_with_len}
use Rattle.std.proofs.lemmas.Nat.Bits.{shr_and_one, bit_at_or, bit_at-zero, bit_at_set_same}
use Rattle.std.proofs.lemmas.Nat.Bits.{bit_at_set_other}
use Rattle.std.proofs.lemmas.Option.{slice_get-get_or}
use Rattle.asm_program.specs.Calls.{CallGraph, calls_of, reaches}
use Rattle.asm_calls.specs.Orders.{calls, IsFirstRecursive}
use Rattle.asm_calls.specs.Rows.{Rows, row_word, has, with_call, with_calls, row_of, rows_of, masked}
use Rattle.asm_calls.specs.Rows.{word_through, row_through, through, closed_to, words_of, closure}
use Rattle.asm_calls.specs.Rows.{IsFirst}
use Rattle.asm_calls.proofs.Counted.{true_or_false}
use Rattle.asm_calls.proofs.Reaching.{is_in, outside}
use Rattle.asm_calls.proofs.Closing.{closed_reaches}

-- ---- one bit

-- whether a word has a bit
abbrev pub bit : ℕ → ℕ → Bool
bit word k = bit_and (word / 2 ^ k) 1 == 1

bit_is : (word k : ℕ) → bit word k ≡ (bit_at word k == 1)
bit_is word k = ap (λ b. b == 1) (shr_and_one word k)

most_test : (x y : ℕ) → x < 2 → y < 2 → (max x y == 1) ≡ ((x == 1) || (y == 1))
most_test zero zero a b = refl
most_test zero (suc zero) a b = refl
most_test (suc zero) zero a b = refl
most_test (suc zero) (suc zero) a b = refl
most_test zero (suc (suc y)) a b = absurd (omega (arith, b))
most_test (suc zero) (suc (suc y)) a b = absurd (omega (arith, b))
most_test (suc (suc x)) y a b = absurd (omega (arith, a))

low_bit : (word k : ℕ) → bit_at word k < 2
low_bit word k = omega arith

bit_or-is : (a b k : ℕ) → bit (bit_or a b) k ≡ (bit a k || bit b k)
bit_or-is a b k =
    bit_is (bit_or a b) k ∙ ap (λ x. x == 1) (bit_at_or a b k)
    ∙ most_test (bit_at a k) (bit_at b k) (low_bit a k) (low_bit b k)
    ∙ (λ i. sym (bit_is a k) i || sym (bit_is b k) i)

no_bit : (k : ℕ) → bit 0 k ≡ false
no_bit k = bit_is 0 k ∙ ap (λ b. b == 1) (bit_at-zero k)

masked_bit : (whole : Bool) (word k : ℕ) → bit (masked whole word) k ≡ (whole && bit word k)
masked_bit true word k = refl
masked_bit false word k = no_bit k

-- ---- the bits of what is called

parts_same : (t j : ℕ) → t / 64 ≡ j / 64 → t % 64 ≡ j % 64 → t ≡ j
parts_same t j a b = omega (arith, a, b)

same_test : (t j : ℕ) → t ≡ j → (t == j) ≡ true
same_test t j e = grind (arith, nat_tests, e)

other_test : (t j : ℕ) → t ≢ j → (t == j) ≡ false
other_test t j e = grind (arith, nat_tests, e)

test_same : (t j : ℕ) → (t == j) ≡ true → t ≡ j
test_same t j e = grind (arith, nat_tests, e)

test_other : (t j : ℕ) → (t == j) ≡ false → t ≢ j
test_other t j e h = absurd (grind (arith, nat_tests, e, h))

low_part : (t : ℕ) → t % 64 < 64
low_part t = omega arith

set_bit : (word t j : ℕ) → t / 64 ≡ j / 64
    → bit (bit_or word (1 * 2 ^ (t % 64) % 2 ^ 64)) (j % 64) ≡ ((t == j) || bit word (j % 64))
set_bit word t j e = elim (true_or_false ((t % 64) == (j % 64))) [
  | inl h ↦
      let k = test_same (t % 64) (j % 64) h in
      let same = same_test t j (parts_same t j e k) in
      bit_is (bit_or word (1 * 2 ^ (t % 64) % 2 ^ 64)) (j % 64)
      ∙ ap (λ b. b == 1) (subst (λ m. bit_at (bit_or word (1 * 2 ^ (t % 64) % 2 ^ 64)) m ≡ 1) k
      (bit_at_set_same w64 word (t % 64) (low_part t)))
      ∙ ap (λ b. b || bit word (j % 64)) (sym same)
  | inr h ↦
      let k = test_other (t % 64) (j % 64) h in
      let other = other_test t j (λ s. k (ap (λ x. x % 64) s)) in
      bit_is (bit_or word (1 * 2 ^ (t % 64) % 2 ^ 64)) (j % 64)
      ∙ ap (λ b. b == 1) (bit_at_set_other w64 word (t % 64) (low_part t) (j % 64) (λ s. k (sym s)))
      ∙ sym (bit_is word (j % 64))
      ∙ ap (λ b. b || bit word (j % 64)) (sym other)
]

one_call : (word t j : ℕ) → bit (with_call (j / 64) word t) (j % 64)
    ≡ ((t == j) || bit word (j % 64))
unfolding with_call
one_call word t j = by_test ((t / 64) == (j / 64)) refl
  where
    by_test : (b : Bool) → ((t / 64) == (j / 64)) ≡ b
        → bit (if b then bit_or word (1 * 2 ^ (t % 64) % 2 ^ 64) else word) (j % 64)
        ≡ ((t == j) || bit word (j % 64))
    by_test true e = set_bit word t j (test_same (t / 64) (j / 64) e)
    by_test false e =
        let other = other_test t j (λ s. test_other (t / 64) (j / 64) e (ap (λ x. x / 64) s)) in
        ap (λ b. b || bit word (j % 64)) (sym other)

moved : (a b c : Bool) → ((a || b) || c) ≡ (b || (a || c))
moved true true c = refl
moved true false c = refl
moved false b c = refl

all_calls : (j word : ℕ) (ts : List ℕ) → bit (with_calls (j / 64) word ts) (j % 64)
    ≡ (bit word (j % 64) || is_in ts j)
unfolding with_calls
all_calls j word [] = sym (or_none (bit word (j % 64)))
  where
    or_none : (b : Bool) → (b || false) ≡ b
    or_none true = refl
    or_none false = refl
all_calls j word (t ∷ ts) =
    all_calls j (with_call (j / 64) word t) ts
    ∙ ap (λ b. b || is_in ts j) (one_call word t j)
    ∙ moved (t == j) (bit word (j % 64)) (is_in ts j)

row_bit : (words j : ℕ) (ts : List ℕ) → j / 64 < words
    → bit (get_or (row_of words ts) (j / 64) 0) (j % 64) ≡ is_in ts j
unfolding row_of
row_bit words j ts low =
    ap (λ w. bit w (j % 64)) (get_or-map-range_with_len (λ at. with_calls at 0 ts) 0 words (j / 64)
    (j / 64) 0 low (omega arith))
    ∙ all_calls j 0 ts ∙ ap (λ b. b || is_in ts j) (no_bit (j % 64))

called_or_none : (graph : CallGraph) (i : ℕ) → i < length graph
    → get_or graph i [] ≡ calls_of graph i
called_or_none graph i low =
    ap (λ o. option_map_or (λ (js : List ℕ). js) o []) (sym (slice_get-get_or graph i [] low))

first_rows : (graph : CallGraph) (words i j : ℕ) → i < length graph → j / 64 < words
    → has (rows_of words graph) i j ≡ calls graph i j
unfolding has
first_rows graph words i j low within =
    ap (λ row. bit (get_or row (j / 64) 0) (j % 64)) (get_or-map (row_of words) graph i [] [] low)
    ∙ row_bit words j (get_or graph i []) within
    ∙ ap (λ ts. is_in ts j) (called_or_none graph i low)

-- ---- one step

next_rows : (words count : ℕ) (rows : Rows) (m i j : ℕ) → i < count → j / 64 < words
    → has (through words count rows m) i j ≡ (has rows i j || (has rows i m && has rows m j))
unfolding has through row_through
next_rows words count rows m i j low within =
    ap (λ row. bit (get_or row (j / 64) 0) (j % 64)) (get_or-map-range_with_len
    (row_through words rows m) 0 count i i [] low (omega arith))
    ∙ ap (λ w. bit w (j % 64)) (get_or-map-range_with_len (word_through rows m i) 0 words (j / 64)
    (j / 64) 0 within (omega arith))
    ∙ bit_or-is (row_word rows i (j / 64)) (masked (has rows i m) (row_word rows m (j / 64)))
    (j % 64)
    ∙ ap (λ b. has rows i j || b) (masked_bit (has rows i m) (row_word rows m (j / 64)) (j % 64))

-- ---- all steps

within_words : (n j : ℕ) → j < n → j / 64 < n / 64 + 1
within_words n j low = omega (arith, low)

module _ (graph : CallGraph) where
  abbrev step : ℕ → ℕ → ℕ → Bool
  step m = has (closed_to (words_of graph) (length graph) (rows_of (words_of graph) graph) m)

  first_step : (i j : ℕ) → i < length graph → j < length graph → step 0 i j ≡ calls graph i j
  unfolding closed_to
  first_step i j a b = first_rows graph (words_of graph) i j a (within_words (length graph) j b)

  next_step : (m i j : ℕ) → m < length graph → i < length graph → j < length graph
      → step (suc m) i j ≡ (step m i j || (step m i m && step m m j))
  unfolding closed_to
  next_step m i j low a b =
      next_rows (words_of graph) (length graph) (closed_to (words_of graph) (length graph)
      (rows_of (words_of graph) graph) m) m i j a (within_words (length graph) j b)

  pub closure-reaches : (i j : ℕ) → i < length graph → j < length graph
      → has (closure graph) i j ≡ reaches graph (length graph) i j
  unfolding closure
  closure-reaches i j a b = closed_reaches graph step first_step next_step i j a b

-- ---- the first that reaches itself

low_or_high : (a b : ℕ) → (a < b) ⊎ (b ≤ a)
low_or_high a b = grind arith

pub first_is : (graph : CallGraph) (rows : Rows) (o : Option ℕ) → rows ≡ closure graph
    → IsFirst rows (length graph) o → IsFirstRecursive graph o
first_is graph rows None e h = λ i. elim (low_or_high i (length graph)) [
  | inl low ↦ sym (closure-reaches graph i i low low) ∙ ap (λ r. has r i i) (sym e) ∙ h i low
  | inr high ↦ outside graph (length graph) i i high
]
first_is graph rows (Some i) e h = (
  h.0,
  sym (closure-reaches graph i i h.0 h.0) ∙ ap (λ r. has r i i) (sym e) ∙ h.1,
  λ k l.
      let low : k < length graph = omega (arith, l, h.0) in
      sym (closure-reaches graph k k low low) ∙ ap (λ r. has r k k) (sym e) ∙ h.2 k l,
)
