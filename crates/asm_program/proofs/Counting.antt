-- Ascending lists of numbers: with the same members they are one, and numbers below the length fill
-- it.
use Rattle.std.proofs.Common.{◌≡◌, ℕ, zero, suc, ◌+◌, ◌<◌, ◌≤◌, ◌⊎◌, inl, inr, List, [], ◌∷◌}
use Rattle.std.proofs.Common.{length, refl, sym, ap, subst, ◌∙◌, arith}
use Rattle.std.proofs.lemmas.Bool.Decides.{nat_tests}
use Rattle.std.proofs.lemmas.List.FromFn.{length-range_with_len}
use Rattle.std.specs.List.{AllByRecursion, range_with_len}
use Rattle.std.specs.List.Sorted.{IsStrictlySortedBy}
use Rattle.std.specs.declared.cmp.Ordering.TheVariants.{Less}
use Rattle.std.specs.Ordering.{nat_cmp}
use Rattle.asm_value.specs.Ranges.{Mem}

abbrev Ascends : List ℕ → Type 0
Ascends = IsStrictlySortedBy nat_cmp

less_is : (x y : ℕ) → nat_cmp x y ≡ Less → x < y
less_is x y h = grind (arith, nat_tests, h)

is_less : (x y : ℕ) → x < y → nat_cmp x y ≡ Less
is_less x y h = grind (arith, nat_tests, h)

above : (x : ℕ) (xs : List ℕ) → AllByRecursion (λ y. nat_cmp x y ≡ Less) xs → (i : ℕ) → Mem i xs
    → x < i
above x [] h i m = absurd m
above x (y ∷ xs) h i m = elim m [
  | inl e ↦ subst (λ z. x < z) (sym e) (less_is x y h.0)
  | inr k ↦ above x xs h.1 i k
]

tail_ascends : (x : ℕ) (xs : List ℕ) → Ascends (x ∷ xs) → Ascends xs
unfolding IsStrictlySortedBy
tail_ascends x xs h = h.1

head_below : (x : ℕ) (xs : List ℕ) → Ascends (x ∷ xs) → (i : ℕ) → Mem i xs → x < i
unfolding IsStrictlySortedBy
head_below x xs h = above x xs h.0

-- ---- the numbers from one on

range_above : (x a n : ℕ) → x < a → AllByRecursion (λ y. nat_cmp x y ≡ Less) (range_with_len a n)
range_above x a zero h = tt
range_above x a (suc n) h = (is_less x a h, range_above x (a + 1) n (omega (arith, h)))

pub range_ascends : (a n : ℕ) → Ascends (range_with_len a n)
unfolding IsStrictlySortedBy
range_ascends a zero = tt
range_ascends a (suc n) = (range_above a (a + 1) n (omega arith), range_ascends (a + 1) n)

pub range_bounds : (a n i : ℕ) → Mem i (range_with_len a n) → (a ≤ i) × (i < a + n)
range_bounds a zero i m = absurd m
range_bounds a (suc n) i m = elim m [
  | inl e ↦ (omega (arith, e), omega (arith, e))
  | inr k ↦ let later =
      range_bounds (a + 1) n i k in (omega (arith, later.0), omega (arith, later.1))
]

-- it is the first, or later
first_or_later : (a i : ℕ) → a ≤ i → (i ≡ a) ⊎ (a + 1 ≤ i)
first_or_later a i h = grind (arith, h)

pub range_has : (a n i : ℕ) → a ≤ i → i < a + n → Mem i (range_with_len a n)
range_has a zero i low high = absurd (omega (arith, low, high))
range_has a (suc n) i low high = elim (first_or_later a i low) [
  | inl e ↦ inl e
  | inr later ↦ inr (range_has (a + 1) n i later (omega (arith, high)))
]

-- ---- lists with the same members

drop_first : (x : ℕ) (xs ys : List ℕ) → Ascends (x ∷ xs) → Ascends (x ∷ ys)
    → ((i : ℕ) → Mem i (x ∷ xs) → Mem i (x ∷ ys)) → (i : ℕ) → Mem i xs → Mem i ys
drop_first x xs ys a b h i m =
    let later = head_below x xs a i m in
    elim (h i (inr m)) [
      | inl e ↦ absurd (omega (arith, later, e))
      | inr k ↦ k
    ]

same_first : (x y : ℕ) (xs ys : List ℕ) → Ascends (x ∷ xs) → Ascends (y ∷ ys)
    → Mem x (y ∷ ys) → Mem y (x ∷ xs) → x ≡ y
same_first x y xs ys a b m k = elim m [
  | inl e ↦ e
  | inr in_ys ↦ elim k [
    | inl e ↦ sym e
    | inr in_xs ↦ absurd (omega (arith, head_below y ys b x in_ys, head_below x xs a y in_xs))
  ]
]

pub same_ascending : (xs ys : List ℕ) → Ascends xs → Ascends ys → ((i : ℕ) → Mem i xs → Mem i ys)
    → ((i : ℕ) → Mem i ys → Mem i xs) → xs ≡ ys
same_ascending [] [] a b h k = refl
same_ascending [] (y ∷ ys) a b h k = absurd (k y (inl refl))
same_ascending (x ∷ xs) [] a b h k = absurd (h x (inl refl))
same_ascending (x ∷ xs) (y ∷ ys) a b h k =
    let first = same_first x y xs ys a b (h x (inl refl)) (k y (inl refl)) in
    let b' = subst (λ z. Ascends (z ∷ ys)) (sym first) b in
    let rest = same_ascending xs ys (tail_ascends x xs a) (tail_ascends y ys b)
    (drop_first x xs ys a b' (λ i m. subst (λ z. Mem i (z ∷ ys)) (sym first) (h i m)))
    (drop_first x ys xs b' a (λ i m. k i (subst (λ z. Mem i (z ∷ ys)) first m))) in
    λ i. first i ∷ rest i

-- a list of exactly the numbers below n has n of them
pub count_is : (xs : List ℕ) (n : ℕ) → Ascends xs → ((i : ℕ) → Mem i xs → i < n)
    → ((i : ℕ) → i < n → Mem i xs) → length xs ≡ n
count_is xs n a below all =
    ap length (same_ascending xs (range_with_len 0 n) a (range_ascends 0 n)
    (λ i m. range_has 0 n i (omega arith) (omega (arith, below i m)))
    (λ i m. all i (omega (arith, (range_bounds 0 n i m).1)))) ∙ length-range_with_len 0 n

-- ---- lists within their length

window : (xs : List ℕ) (a : ℕ) → Ascends xs → ((i : ℕ) → Mem i xs → a ≤ i)
    → ((i : ℕ) → Mem i xs → i < a + length xs)
    → xs ≡ range_with_len a (length xs)
window [] a asc low high = refl
window (x ∷ xs) a asc low high =
    let rest = window xs (a + 1) (tail_ascends x xs asc)
    (λ i m. omega (arith, head_below x xs asc i m, low x (inl refl)))
    (λ i m. omega (arith, high i (inr m))) in
    let first = first_is xs rest in
    λ k. first k ∷ rest k
  where
    first_is : (ys : List ℕ) → xs ≡ range_with_len (a + 1) (length xs) → x ≡ a
    first_is ys e = by_length (length xs) refl
      where
        by_length : (n : ℕ) → length xs ≡ n → x ≡ a
        by_length zero none = omega (arith, low x (inl refl), high x (inl refl), none)
        by_length (suc n) some =
            let m : Mem (a + 1) xs = subst (Mem (a + 1))
            (sym (e ∙ ap (range_with_len (a + 1)) some)) (inl refl) in
            omega (arith, low x (inl refl), head_below x xs asc (a + 1) m)

-- a list of numbers below its length has all of these
pub fills : (xs : List ℕ) → Ascends xs → ((i : ℕ) → Mem i xs → i < length xs) → (i : ℕ)
    → i < length xs → Mem i xs
fills xs asc high i h =
    subst (Mem i) (sym (window xs 0 asc (λ j m. omega arith) (λ j m. omega (arith, high j m))))
    (range_has 0 (length xs) i (omega arith) (omega (arith, h)))
