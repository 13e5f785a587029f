-- Rounding down: what is left by a positive divisor, and by a negative one.
use Rattle.std.proofs.Common.{◌≡◌, ◌≢◌, ℕ, zero, suc, ◌%◌, ◌<◌, ℤ, pos, negsuc}
use Rattle.std.proofs.Common.{◌+ℤ◌, ◌*ℤ◌, neg_ℤ, ◌<ℤ◌, ◌≤ℤ◌, refl, arith, mod-lt}
use Rattle.std.proofs.Common.{div-add-mod'}
use Rattle.std.proofs.lemmas.Int.{ints}
use Rattle.std.specs.Int.{int_div_euclid, int_rem_euclid}
use Rattle.asm_operations.specs.Laws.{IsDivided, IsRest}

pub euclid_whole : (x : ℤ) (n : ℕ)
    → x ≡ int_div_euclid x (pos (suc n)) *ℤ pos (suc n) +ℤ int_rem_euclid x (pos (suc n))
euclid_whole (pos a) n =
    let e = div-add-mod' a (suc n) in
    omega (arith, ints, e)
euclid_whole (negsuc a) n =
    let e = div-add-mod' a (suc n) in
    let l : a % suc n < suc n = mod-lt a (omega arith) in
    omega (arith, ints, e, l)

turned : (x e r : ℤ) (n : ℕ) → neg_ℤ x ≡ e *ℤ pos (suc n) +ℤ r → x ≡ e *ℤ negsuc n +ℤ neg_ℤ r
turned x e r n h = omega (arith, ints, h)

pub whole : (x d : ℤ) → d ≢ pos 0 → IsDivided x d
whole x (pos zero) h = absurd (h refl)
whole x (pos (suc n)) h = euclid_whole x n
whole x (negsuc n) h =
    turned x (int_div_euclid (neg_ℤ x) (pos (suc n))) (int_rem_euclid (neg_ℤ x) (pos (suc n))) n
    (euclid_whole (neg_ℤ x) n)

euclid_rest : (x : ℤ) (n : ℕ) → (pos 0 ≤ℤ int_rem_euclid x (pos (suc n)))
    × (int_rem_euclid x (pos (suc n)) <ℤ pos (suc n))
euclid_rest (pos a) n =
    let l : a % suc n < suc n = mod-lt a (omega arith) in
    (omega (arith, ints), omega (arith, ints, l))
euclid_rest (negsuc a) n =
    let l : a % suc n < suc n = mod-lt a (omega arith) in
    (omega (arith, ints), omega (arith, ints, l))

turned_above : (r : ℤ) (n : ℕ) → r <ℤ pos (suc n) → negsuc n <ℤ neg_ℤ r
turned_above r n h = omega (arith, ints, h)

turned_below : (r : ℤ) → pos 0 ≤ℤ r → neg_ℤ r ≤ℤ pos 0
turned_below r h = omega (arith, ints, h)

pub left : (x d : ℤ) → IsRest x d
left x (pos zero) = (λ h. absurd (omega (arith, ints, h)), λ h. absurd (omega (arith, ints, h)))
left x (pos (suc n)) = (λ h. euclid_rest x n, λ h. absurd (omega (arith, ints, h)))
left x (negsuc n) =
    let r = int_rem_euclid (neg_ℤ x) (pos (suc n)) in
    let e = euclid_rest (neg_ℤ x) n in (
      λ h. absurd (omega (arith, ints, h)),
      λ h. (turned_above r n e.1, turned_below r e.0),
    )
