-- Integers that are read back from their trees.
use Rattle.std.proofs.Common.{◌≡◌, ℕ, suc, ◌^◌, ◌<◌, ◌==◌, ℤ, pos, negsuc, neg_ℤ, Bool, true, false, cond, ◌&&◌, Option, Some, None, Ok, List, [], ◌∷◌, length, drop, inl, inr, refl, sym, ap, ◌∙◌, arith, ◌⊎◌}
use Rattle.std.specs.Str.{bytes_eq}
use Rattle.std.specs.Str.Parse.{AllDigits, digits_value, signed_digits_value}
use Rattle.std.specs.Fmt.{decimal, signed_decimal}
use Rattle.std.proofs.lemmas.Bool.{ltb-true, ne_eqb}
use Rattle.std.proofs.lemmas.Fmt.{decimal_is_IsNumeral_wide}
use Rattle.std.proofs.lemmas.Str.Parse.{digit_from_value}
use Rattle.std.proofs.lemmas.Slice.Eq.{bytes_eq-Decides}
use Rattle.asm_value.specs.declared.value.Value.TheVariants.{Int}
use Rattle.asm_value.proofs.Listing.{first_true, second_true}
use Rattle.asm_portable.specs.declared.port.Port.{Port}
use Rattle.asm_portable.specs.declared.port.Port.TheOpen.{Port-F}
use Rattle.asm_portable.specs.declared.port.Port.TheVariants as ports
use Rattle.asm_portable.specs.declared.port.Port.TheViews.{out-Port}
use Rattle.asm_portable.specs.declared.port.Field.{Field}
use Rattle.asm_portable.specs.Values.{is_short, integer_port}
use Rattle.asm_portable.specs.Reading.{misfit, is_integer, integer_written, integer_level, integer_of, integer_if, integer_read}
use Rattle.asm_portable.proofs.Levels.{out_port_int, out_port_text, same_port}

-- digits alone are of no negative integer
unsigned_digits : (ds : List ℕ) → 0 < length ds → AllDigits 10 ds
    → signed_digits_value 10 ds ≡ pos (digits_value 10 ds)
unsigned_digits [] some digits = absurd (omega (arith, some))
unsigned_digits (c ∷ cs) some digits =
    let here = digit_from_value c digits.0 in
    let no_minus : (c == 45) ≡ false = ne_eqb c 45 (λ e. omega (arith, e, here)) in
    let no_plus : (c == 43) ≡ false = ne_eqb c 43 (λ e. omega (arith, e, here)) in
    λ i. cond (no_minus i)
    (neg_ℤ (pos (digits_value 10 (cond (no_minus i) (drop 1 (c ∷ cs)) (drop (cond (no_plus i) 1 0) (c ∷ cs))))))
    (pos (digits_value 10 (cond (no_minus i) (drop 1 (c ∷ cs)) (drop (cond (no_plus i) 1 0) (c ∷ cs)))))

-- the digits of an integer write it
pub digits_write : (z : ℤ) → is_integer z ≡ true → signed_digits_value 10 (signed_decimal z) ≡ z
digits_write (pos n) fits =
    let small : n < 2 ^ 127 = ltb-true n (2 ^ 127) fits in
    let written = decimal_is_IsNumeral_wide n (omega (arith, small)) in
    unsigned_digits (decimal n) written.0.0 written.0.1 ∙ ap pos written.1
digits_write (negsuc n) fits =
    let small : n < 2 ^ 127 = ltb-true n (2 ^ 127) fits in
    let written = decimal_is_IsNumeral_wide (suc n) (omega (arith, small)) in
    ap (λ m. neg_ℤ (pos m)) written.1

abbrev written_if : List ℕ → ℤ → Option ℤ
written_if digits m = cond (bytes_eq (signed_decimal m) digits && is_integer m) (Some m) None

pub written_back : (z : ℤ) → is_integer z ≡ true → integer_written (signed_decimal z) ≡ Some z
written_back z fits =
    let same = (bytes_eq-Decides (signed_decimal z) (signed_decimal z)).1 refl in
    ap (written_if (signed_decimal z)) (digits_write z fits)
    ∙ (λ i. cond (same i && fits i) (Some z) None)

written_cond : (b : Bool) (m z : ℤ) → cond b (Some m) None ≡ Some z → (b ≡ true) × (m ≡ z)
written_cond true m z e = (refl, let some : Some m ≡ Some z = e in cc)
written_cond false m z e = absurd (let some : None ≡ Some z = e in cc)

-- only the digits of an integer of 128 bits write it
pub written_by : (digits : List ℕ) (z : ℤ) → integer_written digits ≡ Some z
    → (digits ≡ signed_decimal z) × (is_integer z ≡ true)
written_by digits z e =
    let m = signed_digits_value 10 digits in
    let both = written_cond (bytes_eq (signed_decimal m) digits && is_integer m) m z e in
    let same = (bytes_eq-Decides (signed_decimal m) digits).0
    (first_true (bytes_eq (signed_decimal m) digits) (is_integer m) both.0) in (
      sym same ∙ ap signed_decimal both.1,
      ap is_integer (sym both.1) ∙ second_true (bytes_eq (signed_decimal m) digits) (is_integer m) both.0,
    )

-- ---- trees

of_short : (b : Bool) (n : ℤ) → is_integer n ≡ true
    → integer_of (cond b (ports.Int n) (ports.Text (signed_decimal n))) ≡ Some n
of_short true n fits = ap (λ a. integer_level a) (out_port_int n)
of_short false n fits = ap (λ a. integer_level a) (out_port_text (signed_decimal n)) ∙ written_back n fits

pub integer_back : (test : ℤ → Bool) (n : ℤ) → is_integer n ≡ true → test n ≡ true
    → integer_read test (integer_port n) ≡ Ok (Int n)
integer_back test n fits passes =
    ap (integer_if test) (of_short (is_short n) n fits)
    ∙ ap (λ b. cond b (Ok (Int n)) misfit) passes

-- the integer of a tree, by its level
level_is : (t : Port) (a : Port-F Port Field) (n : ℤ) → out-Port t ≡ a → integer_level a ≡ Some n
    → (t ≡ ports.Int n) ⊎ ((t ≡ ports.Text (signed_decimal n)) × (is_integer n ≡ true))
level_is t (Port-F.Int m) n o e =
    let same : m ≡ n = (let some : Some m ≡ Some n = e in cc) in
    inl (same_port t (ports.Int n) (o ∙ ap (λ k. Port-F.Int k) same ∙ sym (out_port_int n)))
level_is t (Port-F.Text digits) n o e =
    let by = written_by digits n e in
    inr (
      same_port t (ports.Text (signed_decimal n))
          (o ∙ ap (λ k. Port-F.Text k) by.0 ∙ sym (out_port_text (signed_decimal n))),
      by.1,
    )
level_is t a n o e = absurd (let none : None ≡ Some n = e in cc)

pub integer_from : (t : Port) (n : ℤ) → integer_of t ≡ Some n
    → (t ≡ ports.Int n) ⊎ ((t ≡ ports.Text (signed_decimal n)) × (is_integer n ≡ true))
integer_from t n e = level_is t (out-Port t) n refl e

pub integer_stands : (t : Port) (n : ℤ)
    → (t ≡ ports.Int n) ⊎ ((t ≡ ports.Text (signed_decimal n)) × (is_integer n ≡ true))
    → integer_of t ≡ Some n
integer_stands t n (inl e) = ap integer_of e ∙ ap (λ a. integer_level a) (out_port_int n)
integer_stands t n (inr h) =
    ap integer_of h.0 ∙ ap (λ a. integer_level a) (out_port_text (signed_decimal n)) ∙ written_back n h.1
