-- Lists of exactly what passes a test: of numbers, of tuples over such lists and of sets over one.
use Rattle.std.proofs.Common.{◌≡◌, ◌⊎◌, inl, inr, ℕ, zero, suc, ◌+◌, ◌<◌, ◌≤◌, Bool, true, false}
use Rattle.std.proofs.Common.{◌&&◌, ◌||◌, List, [], ◌∷◌, map, refl, sym, subst, arith}
use Rattle.std.proofs.Math.Nat.{eq-or-lt_of_le}
use Rattle.std.specs.List.{AllByRecursion, list_any, range_with_len}
use Rattle.std.specs.List.Sorted.{IsStrictlySortedBy}
use Rattle.std.specs.Bool.{Decides}
use Rattle.std.specs.Ordering.{nat_cmp}
use Rattle.std.specs.Cmp.{nat_cmp_is}
use Rattle.std.specs.declared.cmp.Ordering.{Ordering}
use Rattle.std.specs.declared.cmp.Ordering.TheVariants.{Less}
use Rattle.asm_value.specs.Ranges.{Mem, put_first, each_first, some_of, sets_of}
use Rattle.asm_value.proofs.RangeLaws.{all_append, all_weaker, mem_left, mem_right, all_map}
use Rattle.asm_value.proofs.RangeLaws.{mem_map}

pub first_true : (a b : Bool) → (a && b) ≡ true → a ≡ true
first_true true b e = refl
first_true false b e = absurd (cc)

pub second_true : (a b : Bool) → (a && b) ≡ true → b ≡ true
second_true true b e = e
second_true false b e = absurd (cc)

pub both_true : (a b : Bool) → a ≡ true → b ≡ true → (a && b) ≡ true
both_true a b e f = cc

either_true : (a b : Bool) → (a || b) ≡ true → (a ≡ true) ⊎ (b ≡ true)
either_true true b e = inl refl
either_true false b e = inr e

left_true : (a b : Bool) → a ≡ true → (a || b) ≡ true
left_true a b e = cc

right_true : (a b : Bool) → b ≡ true → (a || b) ≡ true
right_true true b e = refl
right_true false b e = e

module _ {X : Type 0} where
  -- what holds of each member of a list
  pub all_of : (P : X → Type 0) (xs : List X) → ((x : X) → Mem x xs → P x) → AllByRecursion P xs
  all_of P [] f = tt
  all_of P (x ∷ xs) f = (f x (inl refl), all_of P xs (λ y m. f y (inr m)))

  -- a search finds exactly the members
  module _ (eq : X → X → Bool) (d : (x y : X) → Decides (eq x y) (x ≡ y)) where
    pub mem-found : (x : X) (xs : List X) → list_any (λ y. eq y x) xs ≡ true → Mem x xs
    mem-found x [] e = absurd (cc)
    mem-found x (y ∷ xs) e = elim (either_true (eq y x) (list_any (λ z. eq z x) xs) e) [
      | inl f ↦ inl (sym ((d y x).0 f))
      | inr f ↦ inr (mem-found x xs f)
    ]

    pub found-mem : (x : X) (xs : List X) → Mem x xs → list_any (λ y. eq y x) xs ≡ true
    found-mem x [] m = absurd m
    found-mem x (y ∷ xs) m = elim m [
      | inl e ↦ left_true (eq y x) _ ((d y x).1 (sym e))
      | inr k ↦ right_true (eq y x) _ (found-mem x xs k)
    ]

  module _ {Y : Type 0} (R : X → X → Ordering) (S : Y → Y → Ordering) (f : X → Y)
      (keeps : (x y : X) → R x y ≡ Less → S (f x) (f y) ≡ Less) where
    pub sorted_map : (xs : List X) → IsStrictlySortedBy R xs → IsStrictlySortedBy S (map f xs)
    unfolding IsStrictlySortedBy
    sorted_map [] h = tt
    sorted_map (x ∷ xs) h = (
      all_map f (λ y. S (f x) y ≡ Less) xs
          (all_weaker (λ y. R x y ≡ Less) (λ y. S (f x) (f y) ≡ Less) (keeps x) xs h.0),
      sorted_map xs h.1,
    )

-- ---- the numbers from a on

above : (b a n : ℕ) → b < a → AllByRecursion (λ y. nat_cmp b y ≡ Less) (range_with_len a n)
above b a zero h = tt
above b a (suc n) h = (sym (nat_cmp_is b a Less h), above b (a + 1) n (omega (arith, h)))

pub sorted_numbers : (a n : ℕ) → IsStrictlySortedBy nat_cmp (range_with_len a n)
unfolding IsStrictlySortedBy
sorted_numbers a zero = tt
sorted_numbers a (suc n) = (above a (a + 1) n (omega arith), sorted_numbers (a + 1) n)

pub mem_number : (i a n : ℕ) → a ≤ i → i < a + n → Mem i (range_with_len a n)
mem_number i a zero h k = absurd (omega (arith, h, k))
mem_number i a (suc n) h k = elim (eq-or-lt_of_le h) [
  | inl e ↦ inl (sym e)
  | inr l ↦ inr (mem_number i (a + 1) n (omega (arith, l)) (omega (arith, k)))
]

pub numbers_below : (a n : ℕ) → AllByRecursion (λ i. i < a + n) (range_with_len a n)
numbers_below a zero = tt
numbers_below a (suc n) = (
  omega arith,
  all_weaker (λ i. i < (a + 1) + n) (λ i. i < a + suc n) (λ i h. omega (arith, h)) _
      (numbers_below (a + 1) n),
)

module _ {K : Type 0} where
  -- ---- tuples

  pub mem_each_first : (x : K) (zs : List K) (r : List K) (zss : List (List K)) → Mem x r
      → Mem zs zss → Mem (x ∷ zs) (each_first r zss)
  mem_each_first x zs [] zss m k = absurd m
  mem_each_first x zs (y ∷ r) zss m k = elim m [
    | inl e ↦ mem_left (x ∷ zs) (put_first y zss) (each_first r zss)
        (subst (λ w. Mem (x ∷ zs) (put_first w zss)) e (mem_map (λ ys. x ∷ ys) zs zss k))
    | inr l ↦ mem_right (x ∷ zs) (put_first y zss) (each_first r zss)
        (mem_each_first x zs r zss l k)
  ]

  pub all_each_first : (Q : K → Type 0) (S P : List K → Type 0)
      → ((x : K) (zs : List K) → Q x → S zs → P (x ∷ zs))
      → (r : List K) (zss : List (List K)) → AllByRecursion Q r → AllByRecursion S zss
      → AllByRecursion P (each_first r zss)
  all_each_first Q S P f [] zss h k = tt
  all_each_first Q S P f (x ∷ r) zss h k =
      all_append P (put_first x zss) (each_first r zss)
      (all_map (λ zs. x ∷ zs) P zss (all_weaker S (λ zs. P (x ∷ zs)) (λ zs s. f x zs h.0 s) zss k))
      (all_each_first Q S P f r zss h.1 k)

  -- ---- sets

  all_some : (G : K → Type 0) (xs : List K) → AllByRecursion G xs
      → AllByRecursion (λ zs. AllByRecursion G zs) (some_of xs)
  all_some G [] h = tt
  all_some G (x ∷ xs) h =
      all_append (λ zs. AllByRecursion G zs) (put_first x (sets_of xs)) (some_of xs)
      (all_map (λ zs. x ∷ zs) (λ zs. AllByRecursion G zs) (sets_of xs)
      (all_weaker (λ zs. AllByRecursion G zs) (λ zs. AllByRecursion G (x ∷ zs))
      (λ zs k. (h.0, k)) (sets_of xs) (tt, all_some G xs h.1)))
      (all_some G xs h.1)

  -- what holds of each item holds of each item of each set
  pub all_sets : (G : K → Type 0) (xs : List K) → AllByRecursion G xs
      → AllByRecursion (λ zs. AllByRecursion G zs) (sets_of xs)
  all_sets G xs h = (tt, all_some G xs h)

  pub all_both : (P Q V : List K → Type 0) → ((zs : List K) → P zs → Q zs → V zs)
      → (zss : List (List K)) → AllByRecursion P zss → AllByRecursion Q zss → AllByRecursion V zss
  all_both P Q V f [] h k = tt
  all_both P Q V f (zs ∷ zss) h k = (f zs h.0 k.0, all_both P Q V f zss h.1 k.1)

  some_ascend : (R : K → K → Ordering) (xs : List K) → IsStrictlySortedBy R xs
      → AllByRecursion (IsStrictlySortedBy R) (some_of xs)
  unfolding IsStrictlySortedBy
  some_ascend R [] h = tt
  some_ascend R (x ∷ xs) h =
      all_append (IsStrictlySortedBy R) (put_first x (sets_of xs)) (some_of xs)
      (all_map (λ zs. x ∷ zs) (IsStrictlySortedBy R) (sets_of xs)
      (all_both (λ zs. AllByRecursion (λ z. R x z ≡ Less) zs) (IsStrictlySortedBy R)
      (λ zs. IsStrictlySortedBy R (x ∷ zs)) (λ zs h' k. (h', k)) (sets_of xs)
      (all_sets (λ z. R x z ≡ Less) xs h.0) (tt, some_ascend R xs h.1)))
      (some_ascend R xs h.1)

  pub sets_ascend : (R : K → K → Ordering) (xs : List K) → IsStrictlySortedBy R xs
      → AllByRecursion (IsStrictlySortedBy R) (sets_of xs)
  unfolding IsStrictlySortedBy
  sets_ascend R xs h = (tt, some_ascend R xs h)
