-- The integers from one on: one more, and when they are too many for a set.
use Rattle.std.proofs.Common.{◌≡◌, ℕ, ◌+◌, ◌<◌, ◌≤◌, ℤ, pos, ◌+ℤ◌, ◌-ℤ◌, ◌≤ℤ◌, unsigned_abs, int_lt}
use Rattle.std.proofs.Common.{false, cond, ◌&&◌, nat_le, List, [], ◌∷◌, ◌++◌, length, ap, ◌∙◌}
use Rattle.std.proofs.Common.{arith, rules}
use Rattle.std.proofs.lemmas.Int.{ints}
use Rattle.std.proofs.lemmas.List.FromFn.{map-range_with_len_more, length-map-range_with_len}
use Rattle.asm_value.specs.declared.value.Value.{Value}
use Rattle.asm_value.specs.declared.value.Value.TheVariants.{Int, Set}
use Rattle.asm_value.specs.declared.value.Value.TheOpen.{Value-F}
use Rattle.asm_value.specs.declared.value.Value.TheViews.{out-Value, the_lemmas}
use Rattle.asm_value.specs.Value.{whole_weight}
use Rattle.asm_operations.specs.declared.applied.Applied.TheVariants as applied
use Rattle.asm_operations.specs.Limits.{is_short_level, is_short, limited}
use Rattle.asm_operations.specs.Terms.{ints_from, interval, limited_interval}

pub ints_from-more : (first : ℤ) (n : ℕ)
    → ints_from first (n + 1) ≡ ints_from first n ++ Int (first +ℤ pos n) ∷ []
ints_from-more first n = map-range_with_len_more (λ k. Int (first +ℤ pos k)) 0 n n (omega arith)

not_under : (a b : ℤ) → a ≤ℤ b → int_lt b a ≡ false
not_under a b h = grind (arith, ints)

pub too_many : (xs : List Value) → 256 < length xs → limited (Set xs) ≡ applied.TooLarge
too_many xs h =
    let short : nat_le (length xs) 256 ≡ false = grind arith in
    let level : out-Value (Set xs) ≡ Value-F.Set xs = search (rules, the_lemmas) in
    let is : is_short (Set xs) ≡ false = ap (λ a. is_short_level a) level ∙ short in
    ap (λ b. cond (b && nat_le (whole_weight (Set xs)) 4096) (applied.Value (Set xs))
    applied.TooLarge) is

pub interval-long : (first last : ℤ) → first ≤ℤ last → 256 ≤ unsigned_abs (last -ℤ first)
    → limited_interval first last ≡ applied.TooLarge
interval-long first last h long =
    let n = unsigned_abs (last -ℤ first) + 1 in
    let some : interval first last ≡ ints_from first n =
    ap (λ b. cond b [] (ints_from first n)) (not_under first last h) in
    let many : length (interval first last) ≡ n =
    ap length some ∙ length-map-range_with_len (λ k. Int (first +ℤ pos k)) 0 n in
    too_many (interval first last) (omega (arith, many))
