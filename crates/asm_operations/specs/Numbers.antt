-- Operations on integers and truth values.
use Rattle.std.specs.Prelude.{zero, suc, ℤ, pos, negsuc, ◌+ℤ◌, ◌-ℤ◌, ◌*ℤ◌, neg_ℤ, unsigned_abs}
use Rattle.std.specs.Prelude.{int_lt, Bool, true, false, not, if◌then◌else◌}
use Rattle.std.specs.Int.{int_min, int_max, int_div_euclid, int_rem_euclid}
use Rattle.asm_value.specs.declared.value.Value.{Value}
use Rattle.asm_operations.specs.declared.applied.Applied.{Applied}
use Rattle.asm_operations.specs.Results.{undefined, truth, int, bounded}
use Rattle.asm_operations.specs.Readers.{of_int, of_ints, of_truth, of_truths}

-- The quotient rounded down: by a positive divisor Euclid's, by a negative one that of both numbers
-- with the other sign.
abbrev pub floored : ℤ → ℤ → ℤ
floored x (pos d) = int_div_euclid x (pos d)
floored x (negsuc d) = int_div_euclid (neg_ℤ x) (pos (suc d))

-- what it leaves: 0, or with the divisor's sign
abbrev pub rest : ℤ → ℤ → ℤ
rest x (pos d) = int_rem_euclid x (pos d)
rest x (negsuc d) = neg_ℤ (int_rem_euclid (neg_ℤ x) (pos (suc d)))

abbrev pub is_zero : ℤ → Bool
is_zero (pos zero) = true
is_zero (pos (suc n)) = false
is_zero (negsuc n) = false

abbrev pub add : Value → Value → Applied
add = of_ints (λ x y. bounded (x +ℤ y))

abbrev pub subtract : Value → Value → Applied
subtract = of_ints (λ x y. bounded (x -ℤ y))

abbrev pub multiply : Value → Value → Applied
multiply = of_ints (λ x y. bounded (x *ℤ y))

-- undef where the divisor is 0
abbrev pub divide : Value → Value → Applied
divide = of_ints (λ x y. if is_zero y then undefined else bounded (floored x y))

abbrev pub remainder : Value → Value → Applied
remainder = of_ints (λ x y. if is_zero y then undefined else int (rest x y))

abbrev pub negate : Value → Applied
negate = of_int (λ x. bounded (neg_ℤ x))

abbrev pub absolute : Value → Applied
absolute = of_int (λ x. bounded (pos (unsigned_abs x)))

abbrev pub least : Value → Value → Applied
least = of_ints (λ x y. int (int_min x y))

abbrev pub greatest : Value → Value → Applied
greatest = of_ints (λ x y. int (int_max x y))

abbrev pub is_less : Value → Value → Applied
is_less = of_ints (λ x y. truth (int_lt x y))

abbrev pub is_at_most : Value → Value → Applied
is_at_most = of_ints (λ x y. truth (not (int_lt y x)))

abbrev pub is_greater : Value → Value → Applied
is_greater = of_ints (λ x y. truth (int_lt y x))

abbrev pub is_at_least : Value → Value → Applied
is_at_least = of_ints (λ x y. truth (not (int_lt x y)))

-- whether the two are the same
abbrev pub are_same : Bool → Bool → Bool
are_same true b = b
are_same false b = not b

abbrev pub negation : Value → Applied
negation = of_truth (λ b. truth (not b))

abbrev pub differ : Value → Value → Applied
differ = of_truths (λ a b. truth (not (are_same a b)))

abbrev pub agree : Value → Value → Applied
agree = of_truths (λ a b. truth (are_same a b))
