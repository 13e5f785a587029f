-- How many numbers below a bound pass a test.
use Rattle.std.proofs.Common.{◌≡◌, ℕ, zero, suc, ◌<◌, ◌≤◌, Bool, true, false, ◌⊎◌, inl, inr}
use Rattle.std.proofs.Common.{refl, sym, ap, ◌∙◌, arith}
use Rattle.asm_calls.specs.Orders.{unit, count_below}

-- what passes the one test passes the other
abbrev pub Within : (ℕ → Bool) → (ℕ → Bool) → ℕ → Type 0
Within p q n = (i : ℕ) → i < n → p i ≡ true → q i ≡ true

pub true_or_false : (b : Bool) → (b ≡ true) ⊎ (b ≡ false)
true_or_false true = inl refl
true_or_false false = inr refl

unit_less : (a b : Bool) → (a ≡ true → b ≡ true) → unit a ≤ unit b
unit_less false b h = omega arith
unit_less true true h = omega arith
unit_less true false h = let e = h refl in absurd (cc)

unit_most : (a : Bool) → unit a ≤ 1
unit_most true = omega arith
unit_most false = omega arith

last_or_below : (i n : ℕ) → i < suc n → (i ≡ n) ⊎ (i < n)
last_or_below i n h = grind (arith, h)

pub count_most : (p : ℕ → Bool) (n : ℕ) → count_below p n ≤ n
count_most p zero = omega arith
count_most p (suc n) =
    let rest = count_most p n in let here = unit_most (p n) in omega (arith, rest, here)

pub count_less : (p q : ℕ → Bool) (n : ℕ) → Within p q n → count_below p n ≤ count_below q n
count_less p q zero h = omega arith
count_less p q (suc n) h =
    let rest = count_less p q n (λ i low t. h i (omega (arith, low)) t) in
    let here = unit_less (p n) (q n) (h n (omega arith)) in
    omega (arith, rest, here)

-- fewer pass the one test where one number passes the other alone
pub count_fewer : (p q : ℕ → Bool) (n : ℕ) → Within p q n → (i : ℕ) → i < n → p i ≡ false
    → q i ≡ true → count_below p n < count_below q n
count_fewer p q zero h i low fails passes = absurd (omega (arith, low))
count_fewer p q (suc n) h i low fails passes = elim (last_or_below i n low) [
  | inl e ↦
      let rest = count_less p q n (λ k l t. h k (omega (arith, l)) t) in
      let a : unit (p n) ≡ 0 = ap (λ k. unit (p k)) (sym e) ∙ ap unit fails in
      let b : unit (q n) ≡ 1 = ap (λ k. unit (q k)) (sym e) ∙ ap unit passes in
      omega (arith, rest, a, b)
  | inr l ↦
      let rest = count_fewer p q n (λ k m t. h k (omega (arith, m)) t) i l fails passes in
      let here = unit_less (p n) (q n) (h n (omega arith)) in
      omega (arith, rest, here)
]

-- where no more pass the wider test, the tests are one
pub count_same : (p q : ℕ → Bool) (n : ℕ) → Within p q n → count_below q n ≤ count_below p n
    → (i : ℕ) → i < n → q i ≡ true → p i ≡ true
count_same p q n h few i low passes = elim (true_or_false (p i)) [
  | inl t ↦ t
  | inr fails ↦
      let fewer = count_fewer p q n h i low fails passes in absurd (omega (arith, few, fewer))
]

-- where as many pass as there are numbers, each passes
pub count_full : (q : ℕ → Bool) (n : ℕ) → n ≤ count_below q n → (i : ℕ) → i < n → q i ≡ true
count_full q n full i low = elim (true_or_false (q i)) [
  | inl t ↦ t
  | inr fails ↦
      let fewer = count_fewer q (λ k. true) n (λ k l t. refl) i low fails refl in
      let most = count_most (λ k. true) n in
      absurd (omega (arith, full, fewer, most))
]

-- where one doesn't pass, fewer pass than there are numbers
pub count_not_full : (p : ℕ → Bool) (n i : ℕ) → i < n → p i ≡ false → count_below p n < n
count_not_full p n i low fails =
    let fewer = count_fewer p (λ k. true) n (λ k l t. refl) i low fails refl in
    let most = count_most (λ k. true) n in
    omega (arith, fewer, most)
