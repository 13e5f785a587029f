-- Sizes of domains, level by level, and as refusals tell them.
use Rattle.std.proofs.Common.{◌≡◌, ℕ, ◌+◌, ◌*◌, ◌^◌, ◌<◌, ◌≤◌, min, cond, Option, Some, None, List, [], ◌∷◌, ◌++◌, length, get_or, take, map, refl, sym, ap, ◌∙◌, arith}
use Rattle.std.proofs.Common.{Bool, true, false, nat_lt, zero, suc}
use Rattle.std.proofs.Math.Nat.{mul-le-mul_left, mul-le-mul_right, mul_comm, mul_assoc}
use Rattle.std.proofs.lemmas.List.{map-append, take_more}
use Rattle.std.proofs.lemmas.Bool.Decides.{nat_tests}
use borrow.Author.Tests.{ltb-true, ltb-false}
use native.Mathlib.Numerals.{unary_clauses}
use Rattle.asm_value.specs.declared.domain.Domain.{Domain}
use Rattle.asm_value.specs.declared.domain.Domain.TheFolds.{fold_out-Domain, map-Domain}
use Rattle.asm_value.specs.declared.domain.Domain.TheViews.{out-Domain, the_lemmas}
use Rattle.asm_value.specs.declared.domain.DomainInfo.{DomainInfo}
use Rattle.asm_value.specs.Enumerable.{size, size_level, times, product, at_most}
use Rattle.asm_syntax.specs.declared.token.Span.{Span}
use Rattle.asm_program.specs.declared.type_refusal.Limited.{Limited}
use Rattle.asm_program.specs.declared.type_refusal.TypeRefusal.TheVariants.{Limit}
use Rattle.asm_program.specs.TypedTerms.{all_sizes, or_not_enumerable}
use Rattle.asm_typed.specs.Sizes.{told, limited}

pub size-out : (domains : List DomainInfo) (d : Domain)
    → size domains d ≡ size_level domains (map-Domain Domain (Option ℕ) (size domains) (out-Domain d))
unfolding size
size-out domains d = fold_out-Domain (Option ℕ) (size_level domains) d

pub all_sizes-product : (ss : List (Option ℕ)) → all_sizes ss ≡ product ss
all_sizes-product [] = refl
all_sizes-product (s ∷ ss) = ap (times s) (all_sizes-product ss)

by_room : (m n k : ℕ) (b : Bool) → nat_lt n k ≡ b → min (m * min n k) k ≡ min (m * n) k
by_room m n k true h =
    let small : n < k = ltb-true n k h in
    let e : min n k ≡ n = omega arith in
    ap (λ x. min (m * x) k) e
by_room zero n k false h = omega arith
by_room (suc m) n k false h =
    let big : k ≤ n = ltb-false n k h in
    let e : min n k ≡ k = omega arith in
    let first : 1 ≤ suc m = omega arith in
    let one : 1 * k ≤ suc m * k = mul-le-mul_right k first in
    let more : suc m * k ≤ suc m * n = mul-le-mul_left (suc m) big in
    let same : min (suc m * k) k ≡ min (suc m * n) k = omega arith in
    ap (λ x. min (suc m * x) k) e ∙ same

-- a product that is told is that of what is told
min-times : (m n : ℕ) → min (m * min n (2 ^ 64)) (2 ^ 64) ≡ min (m * n) (2 ^ 64)
min-times m n = by_room m n (2 ^ 64) (nat_lt n (2 ^ 64)) refl

pub told-times : (s n : Option ℕ) → told (times s (told n)) ≡ told (times s n)
unfolding told
told-times None None = refl
told-times None (Some n) = refl
told-times (Some m) None = refl
told-times (Some m) (Some n) = ap (λ k. Some k) (min-times m n)

pub times-told : (m n : ℕ) → told (times (Some m) (Some n)) ≡ Some (min (m * min n (2 ^ 64)) (2 ^ 64))
unfolding told
times-told m n = ap (λ k. Some k) (sym (min-times m n))

pub told-none : told None ≡ None
unfolding told
told-none = refl

-- ---- products, one part after the other

times-swap : (s n : Option ℕ) → times s n ≡ times n s
times-swap None None = refl
times-swap None (Some n) = refl
times-swap (Some m) None = refl
times-swap (Some m) (Some n) = ap (λ k. Some k) (mul_comm m n)

times-assoc : (a b c : Option ℕ) → times a (times b c) ≡ times (times a b) c
times-assoc None None c = refl
times-assoc None (Some b) None = refl
times-assoc None (Some b) (Some c) = refl
times-assoc (Some a) None c = refl
times-assoc (Some a) (Some b) None = refl
times-assoc (Some a) (Some b) (Some c) = ap (λ k. Some k) (sym (mul_assoc a b c))

product-last : (xs : List (Option ℕ)) (s : Option ℕ) → product (xs ++ s ∷ []) ≡ times s (product xs)
product-last [] s = refl
product-last (x ∷ xs) s =
    ap (times x) (product-last xs s ∙ times-swap s (product xs))
    ∙ times-assoc x (product xs) s
    ∙ times-swap (times x (product xs)) s

module _ (domains : List DomainInfo) (ds : List Domain) where
  pub product-more : (i : ℕ) (d : Domain) → i < length ds
      → told (times (size domains (get_or ds i d)) (told (product (map (size domains) (take i ds)))))
      ≡ told (product (map (size domains) (take (i + 1) ds)))
  product-more i d h =
      let s = size domains (get_or ds i d) in
      let before = map (size domains) (take i ds) in
      told-times s (product before)
      ∙ ap told (sym (product-last before s))
      ∙ ap (λ xs. told (product xs)) (sym (map-append (size domains) (take i ds) (get_or ds i d ∷ [])))
      ∙ ap (λ xs. told (product (map (size domains) xs))) (sym (take_more ds i d h))

pub told-one : told (Some 1) ≡ Some 1
unfolding told
told-one = refl

pub at_most-told : (n : Option ℕ) → at_most 65536 (told n) ≡ at_most 65536 n
unfolding told
at_most-told None = refl
at_most-told (Some n) = grind (arith, nat_tests)

pub limited-told : (kind : Limited) (span : Span) (n : Option ℕ)
    → limited kind span (told n) ≡ or_not_enumerable (λ m. Limit kind m span) span n
unfolding told limited
limited-told kind span None = refl
limited-told kind span (Some n) = refl

pub ruleset times_steps = (times-told, told-none)

pub ruleset product_steps = (product-more, told-one)

pub ruleset size_steps = (size-out, at_most-told, the_lemmas)
