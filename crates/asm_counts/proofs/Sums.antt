-- Sums and products that are told up to a most, and the counts of parts one after the other.
use Rattle.std.proofs.Common.{◌≡◌, ℕ, zero, suc, ◌+◌, ◌*◌, ◌^◌, ◌<◌, ◌≤◌, min, max, Bool, true}
use Rattle.std.proofs.Common.{false, nat_lt, List, [], ◌∷◌, ◌++◌, length, get_or, take, map, refl}
use Rattle.std.proofs.Common.{sym, ap, ◌∙◌, arith}
use Rattle.std.proofs.Math.Nat.{mul-le-mul_left, mul-le-mul_right, mul_comm, mul_assoc}
use Rattle.std.proofs.lemmas.List.{map-append, take_more}
use borrow.Author.Tests.{ltb-true, ltb-false}
use Rattle.asm_value.specs.declared.domain.Domain.{Domain}
use Rattle.asm_value.specs.declared.domain.DomainInfo.{DomainInfo}
use Rattle.asm_program.specs.Counts.{sizes}
use Rattle.asm_counts.specs.declared.counts.Counts.{Counts}
use Rattle.asm_counts.specs.CountLevels.{nothing, both, together, members, combinations}

-- ---- numbers

by_room : (m n k : ℕ) (b : Bool) → nat_lt n k ≡ b → min (m * min n k) k ≡ min (m * n) k
by_room m n k true h =
    let small : n < k = ltb-true n k h in
    let e : min n k ≡ n = omega arith in
    ap (λ x. min (m * x) k) e
by_room zero n k false h = omega arith
by_room (suc m) n k false h =
    let big : k ≤ n = ltb-false n k h in
    let e : min n k ≡ k = omega arith in
    let first : 1 ≤ suc m = omega arith in
    let one : 1 * k ≤ suc m * k = mul-le-mul_right k first in
    let more : suc m * k ≤ suc m * n = mul-le-mul_left (suc m) big in
    let same : min (suc m * k) k ≡ min (suc m * n) k = omega arith in
    ap (λ x. min (suc m * x) k) e ∙ same

pub min-times : (m n k : ℕ) → min (m * min n k) k ≡ min (m * n) k
min-times m n k = by_room m n k (nat_lt n k) refl

pub min-plus : (m n k : ℕ) → min (m + min n k) k ≡ min (m + n) k
min-plus m n k = omega arith

pub min-one : (m n k : ℕ) → min (min m k + n) k ≡ min (m + n) k
min-one m n k = omega arith

pub max-assoc : (a b c : ℕ) → max a (max b c) ≡ max (max a b) c
max-assoc a b c = omega arith

pub max-swap : (a b : ℕ) → max a b ≡ max b a
max-swap a b = omega arith

pub plus-assoc : (a b c k : ℕ) → min (a + min (b + c) k) k ≡ min (min (a + b) k + c) k
plus-assoc a b c k = omega arith

pub plus-swap : (a b : ℕ) → a + b ≡ b + a
plus-swap a b = omega arith

-- ---- both

counts_of : ℕ → ℕ → Counts
counts_of d w = record { depth = d; work = w }

both-swap : (a b : Counts) → both a b ≡ both b a
unfolding both
both-swap a b =
    λ i. record {
      depth =
          max-swap a.depth b.depth i;
      work = min (plus-swap a.work b.work i) (2 ^ 32);
    }

both-assoc : (a b c : Counts) → both a (both b c) ≡ both (both a b) c
unfolding both
both-assoc a b c =
    λ i. record {
      depth =
          max-assoc a.depth b.depth c.depth i;
      work = plus-assoc a.work b.work c.work (2 ^ 32) i;
    }

together-last : (cs : List Counts) (c : Counts) → together (cs ++ c ∷ []) ≡ both (together cs) c
together-last [] c = both-swap c nothing
together-last (d ∷ cs) c = ap (both d) (together-last cs c) ∙ both-assoc d (together cs) c

-- one more of the parts that were passed
module _ {A : Type 0} (f : A → Counts) (xs : List A) where
  pub together-more : (i : ℕ) (d : A) → i < length xs
      → both (together (map f (take i xs))) (f (get_or xs i d)) ≡ together (map f (take (i + 1) xs))
  together-more i d h =
      sym (together-last (map f (take i xs)) (f (get_or xs i d)))
      ∙ ap together (sym (map-append f (take i xs) (get_or xs i d ∷ [])))
      ∙ ap (λ ys. together (map f ys)) (sym (take_more xs i d h))

-- ---- combinations

module _ (domains : List DomainInfo) where
  sizes-last : (ds : List Domain) (d : Domain) → sizes domains (ds ++ d ∷ []) ≡ members domains d *
      sizes domains ds
  sizes-last [] d = refl
  sizes-last (e ∷ ds) d =
      ap (λ n. members domains e * n) (sizes-last ds d)
      ∙ sym (mul_assoc (members domains e) (members domains d) (sizes domains ds))
      ∙ ap (λ n. n * sizes domains ds) (mul_comm (members domains e) (members domains d))
      ∙ mul_assoc (members domains d) (members domains e) (sizes domains ds)

  pub combinations-more : (ds : List Domain) (i : ℕ) (d : Domain) → i < length ds
      → min (members domains (get_or ds i d) * combinations domains (take i ds)) (2 ^ 32)
      ≡ combinations domains (take (i + 1) ds)
  unfolding combinations
  combinations-more ds i d h =
      min-times (members domains (get_or ds i d)) (sizes domains (take i ds)) (2 ^ 32)
      ∙ ap (λ n. min n (2 ^ 32)) (sym (sizes-last (take i ds) (get_or ds i d)))
      ∙ ap (λ xs. min (sizes domains xs) (2 ^ 32)) (sym (take_more ds i d h))

  pub combinations-none : combinations domains [] ≡ 1
  unfolding combinations
  combinations-none = refl

pub ruleset combination_steps = (combinations-more, combinations-none)
