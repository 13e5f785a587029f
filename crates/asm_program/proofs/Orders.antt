-- Lists in another order, by exchanges of neighbours.
use Rattle.std.proofs.Common.{ℕ, zero, suc, ◌<◌, inl, inr, List, [], ◌∷◌, ◌++◌, length, get_or, set}
use Rattle.std.proofs.Common.{arith}
use Rattle.std.specs.List.{AllByRecursion, swap}
use Rattle.std.specs.List.Sorted.{IsPermutation}
use Rattle.std.proofs.lemmas.List.Sorted.{IsPermutation-refl, IsPermutation-cons}
use Rattle.std.proofs.lemmas.List.Sorted.{IsPermutation-middle, IsPermutation-trans}
use Rattle.std.proofs.lemmas.List.Sorted.{IsPermutation-keeps}
use Rattle.asm_value.specs.Ranges.{Mem}

pub data Reordered {X : Type 0} : List X → List X → Type 0 where
  ends : Reordered [] []
  keeps : {x : X} {xs ys : List X} → Reordered xs ys → Reordered (x ∷ xs) (x ∷ ys)
  exchanges : {x y : X} {xs : List X} → Reordered (x ∷ y ∷ xs) (y ∷ x ∷ xs)
  follows : {xs zs : List X} (ys : List X) → Reordered xs ys → Reordered ys zs → Reordered xs zs

module _ {X : Type 0} where
  pub same_order : (xs : List X) → Reordered xs xs
  same_order [] = ends
  same_order (x ∷ xs) = keeps (same_order xs)

  -- the first in the place of a later one
  to_front : (x : X) (ys : List X) (j : ℕ) (d : X) → j < length ys
      → Reordered (x ∷ ys) (get_or ys j d ∷ set ys j x)
  to_front x [] j d h = absurd (omega (arith, h))
  to_front x (y ∷ ys) zero d h = exchanges
  to_front x (y ∷ ys) (suc j) d h =
      follows (y ∷ x ∷ ys) exchanges
      (follows (y ∷ get_or ys j d ∷ set ys j x) (keeps (to_front x ys j d (omega (arith, h))))
      exchanges)

  swapped : (xs : List X) (i j : ℕ) (d : X) → i < length xs → j < length xs
      → Reordered xs (set (set xs i (get_or xs j d)) j (get_or xs i d))
  swapped [] i j d h k = absurd (omega (arith, h))
  swapped (x ∷ xs) zero zero d h k = same_order (x ∷ xs)
  swapped (x ∷ xs) zero (suc j) d h k = to_front x xs j d (omega (arith, k))
  swapped (x ∷ xs) (suc i) zero d h k = to_front x xs i d (omega (arith, h))
  swapped (x ∷ xs) (suc i) (suc j) d h k =
      keeps (swapped xs i j d (omega (arith, h)) (omega (arith, k)))

  swap_reorders : (xs : List X) (i j : ℕ) → i < length xs → j < length xs
      → Reordered xs (swap xs i j)
  swap_reorders [] i j h k = ends
  swap_reorders (x ∷ xs) i j h k = swapped (x ∷ xs) i j x h k

  pub from_permutation : (xs ys : List X) → IsPermutation xs ys → Reordered xs ys
  from_permutation xs ys same =
      IsPermutation-keeps xs (Reordered xs) (same_order xs)
      (λ l i j h k r. follows l r (swap_reorders l i j h k)) ys same

  pub to_permutation : {xs ys : List X} → Reordered xs ys → IsPermutation xs ys
  to_permutation ends = IsPermutation-refl []
  to_permutation (keeps {x = x} {xs = xs} {ys = ys} r) =
      IsPermutation-cons x xs ys (to_permutation r)
  to_permutation (exchanges {x = x} {y = y} {xs = xs}) = IsPermutation-middle (x ∷ []) y xs
  to_permutation (follows {xs = xs} {zs = zs} ys r s) =
      IsPermutation-trans xs ys zs (to_permutation r) (to_permutation s)

  pub mem_reordered : {xs ys : List X} (x : X) → Reordered xs ys → Mem x ys → Mem x xs
  mem_reordered x ends m = m
  mem_reordered x (keeps r) m = elim m [ inl e ↦ inl e | inr k ↦ inr (mem_reordered x r k) ]
  mem_reordered x exchanges m = elim m [
    | inl e ↦ inr (inl e)
    | inr k ↦ elim k [ inl e ↦ inl e | inr l ↦ inr (inr l) ]
  ]
  mem_reordered x (follows ys r s) m = mem_reordered x r (mem_reordered x s m)

  pub all_reordered : {xs ys : List X} (P : X → Type 0) → Reordered xs ys → AllByRecursion P xs
      → AllByRecursion P ys
  all_reordered P ends h = h
  all_reordered P (keeps r) h = (h.0, all_reordered P r h.1)
  all_reordered P exchanges h = (h.1.0, (h.0, h.1.1))
  all_reordered P (follows ys r s) h = all_reordered P s (all_reordered P r h)

  pub after_same : (zs : List X) {xs ys : List X} → Reordered xs ys
      → Reordered (zs ++ xs) (zs ++ ys)
  after_same [] r = r
  after_same (z ∷ zs) r = keeps (after_same zs r)

  -- x behind a list
  behind : (x : X) (xs ys : List X) → Reordered (x ∷ (xs ++ ys)) (xs ++ x ∷ ys)
  behind x [] ys = same_order (x ∷ ys)
  behind x (z ∷ xs) ys = follows (z ∷ x ∷ (xs ++ ys)) exchanges (keeps (behind x xs ys))

  -- two lists in each other's place
  pub lists_exchange : (xs ys zs : List X) → Reordered (xs ++ (ys ++ zs)) (ys ++ (xs ++ zs))
  lists_exchange [] ys zs = same_order (ys ++ zs)
  lists_exchange (x ∷ xs) ys zs =
      follows (x ∷ (ys ++ (xs ++ zs))) (keeps (lists_exchange xs ys zs)) (behind x ys (xs ++ zs))
