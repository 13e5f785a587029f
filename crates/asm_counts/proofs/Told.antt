-- What counts tell of a node, of two parts, and of a part that is looked at many times.
use Rattle.std.proofs.Common.{◌≡◌, ℕ, ◌+◌, ◌*◌, ◌^◌, min, max, List, [], ◌∷◌, ◌++◌, sum, refl, sym}
use Rattle.std.proofs.Common.{ap, ◌∙◌, arith}
use Rattle.std.specs.List.{fold}
use Rattle.std.proofs.Math.Nat.{mul_comm}
use Rattle.asm_value.specs.declared.domain.Domain.{Domain}
use Rattle.asm_value.specs.declared.domain.DomainInfo.{DomainInfo}
use Rattle.asm_program.specs.Counts.{sizes}
use Rattle.asm_program.specs.Nesting.{greatest}
use Rattle.asm_counts.specs.declared.counts.Counts.{Counts}
use Rattle.asm_counts.specs.CountLevels.{nothing, node, both, times, combinations}
use Rattle.asm_counts.specs.CountLaws.{Tells}
use Rattle.asm_counts.proofs.Sums.{min-times}

one_more : (m n k : ℕ) → m ≡ min n k → min (1 + m) k ≡ min (1 + n) k
one_more m n k h = omega (arith, h)

deeper : (a b m n k : ℕ) → a ≡ min m k → b ≡ min n k → max a b ≡ min (max m n) k
deeper a b m n k h i = omega (arith, h, i)

more : (a b m n k : ℕ) → a ≡ min m k → b ≡ min n k → min (a + b) k ≡ min (m + n) k
more a b m n k h i = omega (arith, h, i)

many : (a m s k : ℕ) → a ≡ min m k → min (min s k * a) k ≡ min (s * m) k
many a m s k h =
    ap (λ x. min (min s k * x) k) h
    ∙ min-times (min s k) m k
    ∙ ap (λ x. min x k) (mul_comm (min s k) m)
    ∙ min-times m s k
    ∙ ap (λ x. min x k) (mul_comm m s)

pub nothing-tells : Tells nothing 0 0
unfolding nothing
nothing-tells = (refl, refl)

pub node-tells : (c : Counts) (d w : ℕ) → Tells c d w → Tells (node c) (1 + d) (1 + w)
unfolding node
node-tells c d w h =
    (one_more c.depth d (2 ^ 32) h.0, one_more c.work w (2 ^ 32) h.1)

pub both-tells : (a b : Counts) (d w e v : ℕ) → Tells a d w → Tells b e v
    → Tells (both a b) (max d e) (w + v)
unfolding both
both-tells a b d w e v h i =
    (deeper a.depth b.depth d e (2 ^ 32) h.0 i.0, more a.work b.work w v (2 ^ 32) h.1 i.1)

pub times-tells : (domains : List DomainInfo) (ranges : List Domain) (c : Counts) (d w : ℕ)
    → Tells c d w → Tells (times (combinations domains ranges) c) d (sizes domains ranges * w)
unfolding times combinations
times-tells domains ranges c d w h =
    (h.0, many c.work w (sizes domains ranges) (2 ^ 32) h.1)

-- the same in other words
pub tells-as : (c : Counts) (d e w v : ℕ) → Tells c d w → d ≡ e → w ≡ v → Tells c e v
tells-as c d e w v h i j =
    (h.0 ∙ ap (λ n. min n (2 ^ 32)) i, h.1 ∙ ap (λ n. min n (2 ^ 32)) j)

pub tells-of : (b c : Counts) (d e w v : ℕ) → b ≡ c → d ≡ e → w ≡ v → Tells b d w → Tells c e v
tells-of b c d e w v k i j h =
    tells-as c d e w v (ap (λ x. x.depth) (sym k) ∙ h.0, ap (λ x. x.work) (sym k) ∙ h.1) i j

-- ---- lists

max_assoc : (a b c : ℕ) → max a (max b c) ≡ max (max a b) c
max_assoc a b c = omega arith

max_zero : (a : ℕ) → a ≡ max 0 a
max_zero a = omega arith

plus_assoc : (a b c : ℕ) → a + (b + c) ≡ (a + b) + c
plus_assoc a b c = omega arith

pub greatest-append : (xs ys : List ℕ) → greatest (xs ++ ys) ≡ max (greatest xs) (greatest ys)
greatest-append [] ys = max_zero (greatest ys)
greatest-append (x ∷ xs) ys =
    ap (max x) (greatest-append xs ys) ∙ max_assoc x (greatest xs) (greatest ys)

zero_plus : (a b : ℕ) → 0 + a + b ≡ a + b
zero_plus a b = omega arith

plus_zero : (a : ℕ) → a ≡ a + 0
plus_zero a = omega arith

zero_more : (a : ℕ) → a ≡ 0 + a
zero_more a = omega arith

plus_many : (a b c : ℕ) → a + b + c ≡ a + (0 + b + c)
plus_many a b c = omega arith

fold-plus : (a : ℕ) (xs : List ℕ) → fold ◌+◌ a xs ≡ a + sum xs
fold-plus a [] = plus_zero a
fold-plus a (x ∷ xs) =
    fold-plus (a + x) xs ∙ plus_many a x (sum xs) ∙ ap (λ n. a + n) (sym (fold-plus (0 + x) xs))

pub sum-cons : (x : ℕ) (xs : List ℕ) → sum (x ∷ xs) ≡ x + sum xs
sum-cons x xs = fold-plus (0 + x) xs ∙ zero_plus x (sum xs)

pub sum-append : (xs ys : List ℕ) → sum (xs ++ ys) ≡ sum xs + sum ys
sum-append [] ys = zero_more (sum ys)
sum-append (x ∷ xs) ys =
    sum-cons x (xs ++ ys)
    ∙ ap (λ n. x + n) (sum-append xs ys)
    ∙ plus_assoc x (sum xs) (sum ys)
    ∙ ap (λ n. n + sum ys) (sym (sum-cons x xs))

-- ---- sums of few

pub two-deep : (a b : ℕ) → 1 + max a b ≡ 1 + max a (max b 0)
two-deep a b = omega arith

pub two-work : (a b : ℕ) → 1 + (a + b) ≡ 1 + (0 + a + b)
two-work a b = omega arith

pub one-deep : (a : ℕ) → 1 + a ≡ 1 + max a 0
one-deep a = omega arith

pub three-deep : (a b c : ℕ) → 1 + max (max a b) c ≡ 1 + max a (max b (max c 0))
three-deep a b c = omega arith

pub three-work : (a b c : ℕ) → 1 + (a + b + c) ≡ 1 + (0 + a + b + c)
three-work a b c = omega arith

pub none-deep : (a b : ℕ) → 1 + max (max a b) 0 ≡ 1 + max a (max b 0)
none-deep a b = omega arith

pub none-work : (a b : ℕ) → 1 + (a + b + 0) ≡ 1 + (0 + a + b)
none-work a b = omega arith

pub case-deep : (a b c : ℕ) → max (max a b) c ≡ max a (max b c)
case-deep a b c = omega arith

pub case-work : (a b c m n : ℕ) → m ≡ b + c → n ≡ a + m → a + b + c ≡ n
case-work a b c m n h i = omega (arith, h, i)

pub last-deep : (a b m : ℕ) → m ≡ max a (max b 0) → 1 + max a b ≡ 1 + m
last-deep a b m h = omega (arith, h)

pub last-work : (a b m : ℕ) → m ≡ a + (0 + b) → 1 + (a + b) ≡ 1 + m
last-work a b m h = omega (arith, h)

pub switch-deep : (v a b m : ℕ) → m ≡ max a (max b 0) → 1 + max (max v a) b ≡ 1 + max v m
switch-deep v a b m h = omega (arith, h)

pub switch-work : (v a b m n : ℕ) → m ≡ a + (0 + b) → n ≡ v + m → 1 + (v + a + b) ≡ 1 + n
switch-work v a b m n h i = omega (arith, h, i)

pub bare-deep : (v a m : ℕ) → m ≡ max a 0 → 1 + max (max v a) 0 ≡ 1 + max v m
bare-deep v a m h = omega (arith, h)

pub bare-work : (v a m n : ℕ) → m ≡ a + 0 → n ≡ v + m → 1 + (v + a + 0) ≡ 1 + n
bare-work v a m n h i = omega (arith, h, i)
