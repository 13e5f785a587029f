-- Integers and the digits that write them.
use Rattle.std.proofs.Common.{◌≡◌, ℕ, suc, ◌^◌, ◌<◌, ℤ, pos, negsuc, neg_ℤ, Bool, true, false, cond, ◌&&◌, Some, None, Result, Ok, Err, List, ◌∷◌, refl, sym, ap, subst, ◌∙◌, arith}
use Rattle.std.specs.Int.{w128}
use Rattle.std.specs.Str.{bytes_eq}
use Rattle.std.specs.Str.Parse.{ParsesSigned, signed_digits_value}
use Rattle.std.specs.Fmt.{decimal, signed_decimal}
use Rattle.std.proofs.lemmas.Bool.{ltb-true}
use Rattle.std.proofs.lemmas.Fmt.{decimal_is_IsNumeral_wide}
use Rattle.std.proofs.lemmas.Result.{Ok-from_Ok_iff}
use Rattle.std.proofs.lemmas.Slice.Eq.{bytes_eq-Decides}
use Rattle.std.proofs.lemmas.Str.Parse.{IsNumeralModel, numerals_by_value, tells_digits, parse_signed_digits, parse_signed_minus}
use Rattle.std.specs.Str.Parse.{AllDigits, digits_value}
use Rattle.asm_portable.specs.Reading.{is_integer, integer_written}

own : IsNumeralModel (AllDigits 10) (digits_value 10)
own = numerals_by_value (AllDigits 10) tells_digits

module _ {E : Type 0} (r : Result ℤ E) where
  -- the digits of an integer of 128 bits are parsed to it
  pub parsed : (z : ℤ) (bs : List ℕ) → is_integer z ≡ true → bs ≡ signed_decimal z
      → ParsesSigned w128 10 bs r → r ≡ Ok z
  parsed (pos n) bs fits is h =
      let small : n < 2 ^ 127 = ltb-true n (2 ^ 127) fits in
      let written = decimal_is_IsNumeral_wide n (omega (arith, small)) in
      let read =
      parse_signed_digits own w128 (decimal n) r
      (subst (λ l. ParsesSigned w128 10 l r) is h) written.0.1 in
      Ok-from_Ok_iff r _ _ read (written.0.0, omega (arith, written.1, small))
      ∙ ap (λ m. Ok (pos m)) written.1
  parsed (negsuc n) bs fits is h =
      let small : n < 2 ^ 127 = ltb-true n (2 ^ 127) fits in
      let written = decimal_is_IsNumeral_wide (suc n) (omega (arith, small)) in
      let read =
      parse_signed_minus own w128 (45 ∷ decimal (suc n)) r
      (subst (λ l. ParsesSigned w128 10 l r) is h) refl in
      Ok-from_Ok_iff r _ _ read (written.0.1, written.0.0, omega (arith, written.1, small))
      ∙ ap (λ m. Ok (neg_ℤ (pos m))) written.1

left : (a b : Bool) → (a && b) ≡ true → a ≡ true
left true b e = refl
left false b e = e

right : (a b : Bool) → (a && b) ≡ true → b ≡ true
right true b e = e
right false b e = absurd (cc)

none_of : {A : Type 0} (b : Bool) (x : A) → (b ≡ true → ⊥) → None ≡ cond b (Some x) None
none_of true x refused = absurd (refused refl)
none_of false x refused = refl

-- digits that aren't parsed write no integer
pub unparsed : {E : Type 0} (bs : List ℕ) (r : Result ℤ E) (e : E) → r ≡ Err e
    → ParsesSigned w128 10 bs r → None ≡ integer_written bs
unparsed bs r e is h =
    let z = signed_digits_value 10 bs in
    let same = bytes_eq (signed_decimal z) bs in
    none_of (same && is_integer z) z (λ both.
    let digits = (bytes_eq-Decides (signed_decimal z) bs).0 (left same (is_integer z) both) in
    let read = parsed r z bs (right same (is_integer z) both) (sym digits) h in
    let apart : Err e ≡ Ok z = sym is ∙ read in
    absurd (cc))
