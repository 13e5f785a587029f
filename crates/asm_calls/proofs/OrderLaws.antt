-- The order by how many each one reaches has each definition once, and none before one that it
-- calls.
use Rattle.std.proofs.Common.{◌≡◌, ℕ, zero, suc, ◌+◌, ◌<◌, ◌≤◌, ◌==◌, ◌≢◌, Bool, true, false, cond}
use Rattle.std.proofs.Common.{◌⊎◌, inl, inr, List, [], ◌∷◌, ◌++◌, length, get_or, count_by}
use Rattle.std.proofs.Common.{refl, sym, ap, subst, ◌∙◌, arith}
use Rattle.std.specs.List.{AllByRecursion}
use Rattle.std.proofs.lemmas.Bool.Decides.{nat_tests}
use Rattle.std.proofs.lemmas.List.Sums.{sum_by-append, sum_by-cons}
use Rattle.std.proofs.lemmas.List.FromFn.{get_or-map-range_with_len, length-map-range_with_len}
use Rattle.asm_program.specs.Calls.{CallGraph, reaches}
use Rattle.asm_calls.specs.Orders.{calls, NoneRecursive, IsOrder, unit, count_below, reached}
use Rattle.asm_calls.specs.Rows.{has, closure, counts_to, counts_of, only_if, those_to, ordered_to}
use Rattle.asm_calls.proofs.Counted.{true_or_false}
use Rattle.asm_calls.proofs.Reaching.{reached_ranks}
use Rattle.asm_calls.proofs.RowLaws.{closure-reaches}

-- ---- how often a number is in a list

abbrev times : ℕ → List ℕ → ℕ
times i xs = count_by (λ k. k == i) xs

times-append : (i : ℕ) (xs ys : List ℕ) → times i (xs ++ ys) ≡ times i xs + times i ys
times-append i xs ys = sum_by-append (λ k. cond (k == i) 1 0) xs ys

times-one : (i n : ℕ) → times i (n ∷ []) ≡ cond (n == i) 1 0
times-one i n = sum_by-cons (λ k. cond (k == i) 1 0) n [] ∙ omega arith

same_test : (n i : ℕ) → n ≡ i → (n == i) ≡ true
same_test n i e = grind (arith, nat_tests, e)

other_test : (n i : ℕ) → n ≢ i → (n == i) ≡ false
other_test n i e = grind (arith, nat_tests, e)

test_same : (n i : ℕ) → (n == i) ≡ true → n ≡ i
test_same n i e = grind (arith, nat_tests, e)

only_same : (b : Bool) (n i : ℕ) → n ≡ i → times i (only_if b n) ≡ unit b
only_same true n i e = times-one i n ∙ ap (λ t. cond t 1 0) (same_test n i e)
only_same false n i e = refl

only_other : (b : Bool) (n i : ℕ) → n ≢ i → times i (only_if b n) ≡ 0
only_other true n i e = times-one i n ∙ ap (λ t. cond t 1 0) (other_test n i e)
only_other false n i e = refl

last_or_below : (i n : ℕ) → i < suc n → (i ≡ n) ⊎ (i < n)
last_or_below i n h = grind (arith, h)

module _ (counts : List ℕ) where
  abbrev count : ℕ → ℕ
  count i = get_or counts i 0

  those_later : (m n i : ℕ) → n ≤ i → times i (those_to counts m n) ≡ 0
  unfolding those_to
  those_later m zero i h = refl
  those_later m (suc n) i h =
      let rest = those_later m n i (omega (arith, h)) in
      let here = only_other (count n == m) n i (λ e. absurd (omega (arith, h, e))) in
      let both = times-append i (those_to counts m n) (only_if (count n == m) n) in
      omega (arith, rest, here, both)

  those_times : (m n i : ℕ) → i < n → times i (those_to counts m n) ≡ unit (count i == m)
  unfolding those_to
  those_times m zero i low = absurd (omega (arith, low))
  those_times m (suc n) i low =
      let both = times-append i (those_to counts m n) (only_if (count n == m) n) in
      elim (last_or_below i n low) [
        | inl e ↦
            let rest = those_later m n i (omega (arith, e)) in
            let here = only_same (count n == m) n i (sym e) in
            let same : unit (count n == m) ≡ unit (count i == m) =
            ap (λ k. unit (count k == m)) (sym e) in
            omega (arith, rest, here, both, same)
        | inr l ↦
            let rest = those_times m n i l in
            let here = only_other (count n == m) n i (λ e. absurd (omega (arith, l, e))) in
            omega (arith, rest, here, both)
      ]

  ordered_later : (m i : ℕ) → i < length counts → m ≤ count i → times i (ordered_to counts m) ≡ 0
  unfolding ordered_to
  ordered_later zero i low h = refl
  ordered_later (suc m) i low h =
      let rest = ordered_later m i low (omega (arith, h)) in
      let here = those_times m (length counts) i low in
      let none : unit (count i == m) ≡ 0 =
      ap unit (other_test (count i) m (λ e. absurd (omega (arith, h, e)))) in
      let both = times-append i (ordered_to counts m) (those_to counts m (length counts)) in
      omega (arith, rest, here, none, both)

  ordered_once : (m i : ℕ) → i < length counts → count i < m → times i (ordered_to counts m) ≡ 1
  unfolding ordered_to
  ordered_once zero i low h = absurd (omega (arith, h))
  ordered_once (suc m) i low h =
      let here = those_times m (length counts) i low in
      let both = times-append i (ordered_to counts m) (those_to counts m (length counts)) in
      elim (last_or_below (count i) m h) [
        | inl e ↦
            let rest = ordered_later m i low (omega (arith, e)) in
            let one : unit (count i == m) ≡ 1 = ap unit (same_test (count i) m e) in
            omega (arith, rest, here, one, both)
        | inr l ↦
            let rest = ordered_once m i low l in
            let none : unit (count i == m) ≡ 0 =
            ap unit (other_test (count i) m (λ e. absurd (omega (arith, l, e)))) in
            omega (arith, rest, here, none, both)
      ]

-- ---- what is so of each member

module _ (P : ℕ → Type 0) where
  all_append : (xs ys : List ℕ) → AllByRecursion P xs → AllByRecursion P ys
      → AllByRecursion P (xs ++ ys)
  all_append [] ys h k = k
  all_append (x ∷ xs) ys h k = (h.0, all_append xs ys h.1 k)

  all_at : (xs : List ℕ) (k : ℕ) → AllByRecursion P xs → k < length xs → P (get_or xs k 0)
  all_at [] k h low = absurd (omega (arith, low))
  all_at (x ∷ xs) zero h low = h.0
  all_at (x ∷ xs) (suc k) h low = all_at xs k h.1 (omega (arith, low))

  all_from : (Q : ℕ → Type 0) → ((x : ℕ) → Q x → P x) → (xs : List ℕ) → AllByRecursion Q xs
      → AllByRecursion P xs
  all_from Q f [] h = tt
  all_from Q f (x ∷ xs) h = (f x h.0, all_from Q f xs h.1)

-- ---- ascending

module _ (c : ℕ → ℕ) where
  abbrev Ascends : List ℕ → Type 0
  Ascends [] = Unit {0}
  Ascends (x ∷ xs) = AllByRecursion (λ y. c x ≤ c y) xs × Ascends xs

  ascends-same : (m : ℕ) (xs : List ℕ) → AllByRecursion (λ y. c y ≡ m) xs → Ascends xs
  ascends-same m [] h = tt
  ascends-same m (x ∷ xs) h =
      let here : c x ≡ m = h.0 in (
        all_from (λ y. c x ≤ c y) (λ y. c y ≡ m) (λ y e. omega (arith, here, e)) xs h.1,
        ascends-same m xs h.1,
      )

  ascends-append : (m : ℕ) (xs ys : List ℕ) → Ascends xs → Ascends ys
      → AllByRecursion (λ y. c y < m) xs → AllByRecursion (λ y. c y ≡ m) ys → Ascends (xs ++ ys)
  ascends-append m [] ys h k low same = k
  ascends-append m (x ∷ xs) ys h k low same =
      let here : c x < m = low.0 in (
        all_append (λ y. c x ≤ c y) xs ys h.0
            (all_from (λ y. c x ≤ c y) (λ y. c y ≡ m) (λ y e. omega (arith, here, e)) ys same),
        ascends-append m xs ys h.1 k low.1 same,
      )

  ascends-at : (xs : List ℕ) (k l : ℕ) → Ascends xs → k ≤ l → l < length xs
      → c (get_or xs k 0) ≤ c (get_or xs l 0)
  ascends-at [] k l h le low = absurd (omega (arith, low))
  ascends-at (x ∷ xs) zero zero h le low = omega arith
  ascends-at (x ∷ xs) zero (suc l) h le low =
      all_at (λ y. c x ≤ c y) xs l h.0 (omega (arith, low))
  ascends-at (x ∷ xs) (suc k) zero h le low = absurd (omega (arith, le))
  ascends-at (x ∷ xs) (suc k) (suc l) h le low =
      ascends-at xs k l h.1 (omega (arith, le)) (omega (arith, low))

-- ---- those of the order

module _ (counts : List ℕ) where
  abbrev number : ℕ → ℕ
  number i = get_or counts i 0

  those_equal : (m n : ℕ) → AllByRecursion (λ y. number y ≡ m) (those_to counts m n)
  unfolding those_to
  those_equal m zero = tt
  those_equal m (suc n) =
      all_append (λ y. number y ≡ m) (those_to counts m n) (only_if (number n == m) n)
      (those_equal m n) (here (number n == m) refl)
    where
      here : (b : Bool) → (number n == m) ≡ b → AllByRecursion (λ y. number y ≡ m) (only_if b n)
      here true e = (test_same (number n) m e, tt)
      here false e = tt

  those_low : (m n : ℕ) → n ≤ length counts
      → AllByRecursion (λ y. y < length counts) (those_to counts m n)
  unfolding those_to
  those_low m zero h = tt
  those_low m (suc n) h =
      all_append (λ y. y < length counts) (those_to counts m n) (only_if (number n == m) n)
      (those_low m n (omega (arith, h))) (here (number n == m))
    where
      here : (b : Bool) → AllByRecursion (λ y. y < length counts) (only_if b n)
      here true = (omega (arith, h), tt)
      here false = tt

  ordered_low : (m : ℕ) → AllByRecursion (λ y. y < length counts) (ordered_to counts m)
  unfolding ordered_to
  ordered_low zero = tt
  ordered_low (suc m) =
      all_append (λ y. y < length counts) (ordered_to counts m)
      (those_to counts m (length counts)) (ordered_low m)
      (those_low m (length counts) (omega arith))

  ordered_less : (m : ℕ) → AllByRecursion (λ y. number y < m) (ordered_to counts m)
  unfolding ordered_to
  ordered_less zero = tt
  ordered_less (suc m) =
      all_append (λ y. number y < suc m) (ordered_to counts m) (those_to counts m (length counts))
      (all_from (λ y. number y < suc m) (λ y. number y < m) (λ y h. omega (arith, h))
      (ordered_to counts m) (ordered_less m))
      (all_from (λ y. number y < suc m) (λ y. number y ≡ m) (λ y h. omega (arith, h))
      (those_to counts m (length counts)) (those_equal m (length counts)))

  ordered_ascends : (m : ℕ) → Ascends number (ordered_to counts m)
  unfolding ordered_to
  ordered_ascends zero = tt
  ordered_ascends (suc m) =
      ascends-append number m (ordered_to counts m) (those_to counts m (length counts))
      (ordered_ascends m)
      (ascends-same number m (those_to counts m (length counts)) (those_equal m (length counts)))
      (ordered_less m) (those_equal m (length counts))

-- ---- the numbers are those of the definitions that are reached

same_counts : (p q : ℕ → Bool) (n : ℕ) → ((j : ℕ) → j < n → p j ≡ q j)
    → count_below p n ≡ count_below q n
same_counts p q zero h = refl
same_counts p q (suc n) h =
    let rest = same_counts p q n (λ j l. h j (omega (arith, l))) in
    let here : unit (p n) ≡ unit (q n) = ap unit (h n (omega arith)) in
    omega (arith, rest, here)

module _ (graph : CallGraph) where
  counts_of-at : (i : ℕ) → i < length graph → get_or (counts_of graph) i 0 ≡ reached graph i
  unfolding counts_to
  counts_of-at i low =
      get_or-map-range_with_len (λ from. count_below (has (closure graph) from) (length graph)) 0
      (length graph) i i 0 low (omega arith)
      ∙ same_counts (has (closure graph) i) (reaches graph (length graph) i) (length graph)
      (λ j l. closure-reaches graph i j low l)

  length-counts_of : length (counts_of graph) ≡ length graph
  unfolding counts_to
  length-counts_of =
      length-map-range_with_len (λ from. count_below (has (closure graph) from) (length graph)) 0
      (length graph)

  by_counts : NoneRecursive graph → IsOrder graph
      (ordered_to (counts_of graph) (length (counts_of graph)))
  by_counts none =
      let counts = counts_of graph in
      let ranks = reached_ranks graph none in
      let long : length counts ≡ length graph = length-counts_of in
      record {
        each = λ i low.
            let at = counts_of-at i low in
            let below = ranks.below i low in
            ordered_once counts (length counts) i (omega (arith, low, long))
            (omega (arith, at, below, long));
        only = λ k low.
            let h = all_at (λ y. y < length counts) (ordered_to counts (length counts)) k
            (ordered_low counts (length counts)) low in
            omega (arith, h, long);
        after = λ k l le low. later none k l le low (true_or_false (calls graph
            (get_or (ordered_to counts (length counts)) k 0)
            (get_or (ordered_to counts (length counts)) l 0)));
      }
    where
      later : NoneRecursive graph → (k l : ℕ) → k ≤ l
          → l < length (ordered_to (counts_of graph) (length (counts_of graph)))
          → (calls graph (get_or (ordered_to (counts_of graph) (length (counts_of graph))) k 0)
          (get_or (ordered_to (counts_of graph) (length (counts_of graph))) l 0) ≡ true)
          ⊎ (calls graph (get_or (ordered_to (counts_of graph) (length (counts_of graph))) k 0)
          (get_or (ordered_to (counts_of graph) (length (counts_of graph))) l 0) ≡ false)
          → calls graph (get_or (ordered_to (counts_of graph) (length (counts_of graph))) k 0)
          (get_or (ordered_to (counts_of graph) (length (counts_of graph))) l 0) ≡ false
      later none k l le low (inr so) = so
      later none k l le low (inl so) =
          let order = ordered_to (counts_of graph) (length (counts_of graph)) in
          let i = get_or order k 0 in
          let j = get_or order l 0 in
          let long : length (counts_of graph) ≡ length graph = length-counts_of in
          let below = ordered_low (counts_of graph) (length (counts_of graph)) in
          let a : i < length (counts_of graph) =
          all_at (λ y. y < length (counts_of graph)) order k below (omega (arith, le, low)) in
          let b : j < length (counts_of graph) =
          all_at (λ y. y < length (counts_of graph)) order l below low in
          let up = ascends-at (λ y. get_or (counts_of graph) y 0) order k l
          (ordered_ascends (counts_of graph) (length (counts_of graph))) le low in
          let falls = (reached_ranks graph none).falls i j (omega (arith, b, long)) so in
          let at_i = counts_of-at i (omega (arith, a, long)) in
          let at_j = counts_of-at j (omega (arith, b, long)) in
          absurd (omega (arith, up, falls, at_i, at_j))

pub order_is : (graph : CallGraph) (counts order : List ℕ) → NoneRecursive graph
    → counts ≡ counts_of graph → order ≡ ordered_to counts (length counts) → IsOrder graph order
order_is graph counts order none e h =
    subst (IsOrder graph) (sym (h ∙ ap (λ c. ordered_to c (length c)) e)) (by_counts graph none)
