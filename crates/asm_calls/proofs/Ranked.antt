-- What is said of each of some bodies, where calls are followed so deep: where a number falls along
-- each call, it is the same one call further on.
use Rattle.std.proofs.Common.{◌≡◌, ℕ, zero, suc, ◌+◌, ◌<◌, ◌==◌, Bool, true, false}
use Rattle.std.proofs.Common.{nat_lt, Option, Some, None, List, refl, sym, ap}
use Rattle.std.proofs.Common.{◌∙◌, arith}
use Rattle.std.specs.Option.{option_map_or}
use Rattle.std.specs.List.{list_all, range_with_len}
use Rattle.std.proofs.lemmas.Bool.{and_from}
use Rattle.std.proofs.lemmas.Bool.Decides.{nat_tests}
use Rattle.asm_calls.specs.Orders.{count_below}
use Rattle.asm_calls.specs.Nested.{has_number}
use Rattle.asm_calls.proofs.Counted.{count_fewer, count_not_full}

below_test : (a b : ℕ) → a < b → nat_lt a b ≡ true
below_test a b h = grind (arith, nat_tests, h)

test_below : (a b : ℕ) → nat_lt a b ≡ true → a < b
test_below a b h = grind (arith, nat_tests, h)

not_below : (a : ℕ) → nat_lt a a ≡ false
not_below a = grind (arith, nat_tests)

same_test : (a b : ℕ) → a ≡ b → (a == b) ≡ true
same_test a b e = grind (arith, nat_tests, e)

pub all_in_range : (q : ℕ → Bool) (a n : ℕ) → ((m : ℕ) → m < a + n → q m ≡ true)
    → list_all q (range_with_len a n) ≡ true
all_in_range q a zero h = refl
all_in_range q a (suc n) h =
    and_from (q a) (list_all q (range_with_len (a + 1) n)) (h a (omega arith))
    (all_in_range q (a + 1) n (λ m l. h m (omega (arith, l))))

module _ {B : Type 0} (count : ℕ) (body : ℕ → Option B)
    (within : (f : ℕ) (b : B) → body f ≡ Some b → f < count)
    (said : (ℕ → ℕ) → B → ℕ) (called : B → List ℕ)
    (same : (these those : ℕ → ℕ) (b : B)
    → ((g : ℕ) → has_number (called b) g ≡ true → these g ≡ those g)
    → said these b ≡ said those b)
    (deep : ℕ → ℕ → ℕ) (none : (f : ℕ) → deep zero f ≡ 0)
    (more : (n f : ℕ) → deep (suc n) f ≡ option_map_or (said (deep n)) (body f) 0)
    (rank : ℕ → ℕ)
    (falls : (f g : ℕ) (b other : B) → body f ≡ Some b → body g ≡ Some other
    → has_number (called b) g ≡ true → rank g < rank f) where
  -- how many have a lesser rank
  place : ℕ → ℕ
  place f = count_below (λ h. nat_lt (rank h) (rank f)) count

  place_low : (f : ℕ) → f < count → place f < count
  unfolding place
  place_low f low =
      count_not_full (λ h. nat_lt (rank h) (rank f)) count f low (not_below (rank f))

  place_falls : (f g : ℕ) → g < count → rank g < rank f → place g < place f
  unfolding place
  place_falls f g low h =
      count_fewer (λ k. nat_lt (rank k) (rank g)) (λ k. nat_lt (rank k) (rank f)) count
      (λ k l t. below_test (rank k) (rank f) (lesser (rank k) (rank g) (rank f)
      (test_below (rank k) (rank g) t) h)) g low (not_below (rank g))
      (below_test (rank g) (rank f) h)
    where
      lesser : (a b c : ℕ) → a < b → b < c → a < c
      lesser a b c l m = omega (arith, l, m)

  without : (n f : ℕ) → body f ≡ None → deep n f ≡ 0
  without zero f e = none f
  without (suc n) f e = more n f ∙ ap (λ o. option_map_or (said (deep n)) o 0) e

  settled : (n f : ℕ) (o : Option B) → body f ≡ o → place f < n → deep n f ≡ deep (suc n) f
  settled zero f o e low = absurd (omega (arith, low))
  settled (suc n) f None e low = without (suc n) f e ∙ sym (without (suc (suc n)) f e)
  settled (suc n) f (Some b) e low =
      more n f ∙ ap (λ o. option_map_or (said (deep n)) o 0) e
      ∙ same (deep n) (deep (suc n)) b (λ g t. by_body g t (body g) refl
      (λ other d l. settled n g (Some other) d l))
      ∙ sym (more (suc n) f ∙ ap (λ o. option_map_or (said (deep (suc n))) o 0) e)
    where
      by_body : (g : ℕ) → has_number (called b) g ≡ true → (o : Option B) → body g ≡ o
          → ((other : B) → body g ≡ Some other → place g < n → deep n g ≡ deep (suc n) g)
          → deep n g ≡ deep (suc n) g
      by_body g t None d before = without n g d ∙ sym (without (suc n) g d)
      by_body g t (Some other) d before =
          let lesser = place_falls f g (within g other d) (falls f g b other e d t) in
          before other d (omega (arith, lesser, low))

  pub all_settled : list_all (λ f. deep count f == deep (suc count) f) (range_with_len 0 count)
      ≡ true
  all_settled =
      all_in_range (λ f. deep count f == deep (suc count) f) 0 count (λ f l.
      let low : f < count = omega (arith, l) in
      same_test (deep count f) (deep (suc count) f)
      (settled count f (body f) refl (place_low f low)))
