-- A number's decimal digits are digits of which it is the value.
use Rattle.std.proofs.Common.{◌≡◌, ℕ, zero, suc, ◌+◌, ◌-◌, ◌*◌, ◌/◌, ◌%◌, ◌^◌, ◌<◌, ◌≤◌, Bool, true, false, List, [], ◌∷◌, ◌++◌, sym, refl, ap, ◌∙◌, subst, arith}
use Rattle.std.specs.Prelude.{nat_lt}
use Rattle.std.specs.Fmt.{decimal}
use Rattle.std.proofs.lemmas.Bool.Decides.{nat_tests}
use Rattle.std.proofs.lemmas.Fmt.{decimal_digit, decimal_step_wide}
use Rattle.std.proofs.lemmas.List.Sums.{fold-append}
use Rattle.asm_syntax.specs.Bytes.{is_digit, Every, value_of}
use Rattle.asm_syntax.specs.Lexes.{IsDigits}

-- digits of which this is the value
abbrev pub Digits : List ℕ → ℕ → Type 0
Digits ds n = IsDigits ds × (value_of ds ≡ n)

digit_is : (d : ℕ) → d < 10 → is_digit (48 + d) ≡ true
digit_is d h = grind (arith, nat_tests)

every_more : (ds : List ℕ) (d : ℕ) → Every is_digit ds → is_digit d ≡ true → Every is_digit (ds ++ d ∷ [])
every_more [] d h e = (e, tt)
every_more (x ∷ ds) d h e = (h.0, every_more ds d h.1 e)

digits_more : (ds : List ℕ) (d : ℕ) → IsDigits ds → is_digit d ≡ true → IsDigits (ds ++ d ∷ [])
digits_more [] d h e = absurd h
digits_more (x ∷ ds) d h e = (h.0, every_more ds d h.1 e)

one_digit : (n : ℕ) → n < 10 → Digits (decimal n) n
one_digit n h =
    let value : 10 * 0 + ((48 + n) - 48) ≡ n = omega arith in
    subst (λ (ds : List ℕ). Digits ds n) (sym (decimal_digit n h)) ((digit_is n h, tt), value)

more_digits : (n : ℕ) → 10 ≤ n → n < 10 ^ 64 → Digits (decimal (n / 10)) (n / 10) → Digits (decimal n) n
more_digits n h w d =
    let last : n % 10 < 10 = omega arith in
    let sum : 10 * (n / 10) + ((48 + n % 10) - 48) ≡ n = omega arith in
    subst (λ (ds : List ℕ). Digits ds n) (sym (decimal_step_wide n h w)) (
      digits_more (decimal (n / 10)) (48 + n % 10) d.0 (digit_is (n % 10) last),
      fold-append (λ n b. 10 * n + (b - 48)) 0 (decimal (n / 10)) ((48 + n % 10) ∷ [])
          ∙ ap (λ v. 10 * v + ((48 + n % 10) - 48)) d.1 ∙ sum,
    )

digits_within : (k n : ℕ) → n ≤ k → n < 10 ^ 64 → Digits (decimal n) n
digits_within zero n h w = one_digit n (omega arith)
digits_within (suc k) n h w = go (nat_lt n 10) refl (digits_within k (n / 10))
  where
    small : nat_lt n 10 ≡ true → n < 10
    small e = grind (arith, nat_tests)

    large : nat_lt n 10 ≡ false → 10 ≤ n
    large e = grind (arith, nat_tests)

    go : (x : Bool) → nat_lt n 10 ≡ x → (n / 10 ≤ k → n / 10 < 10 ^ 64 → Digits (decimal (n / 10)) (n / 10)) → Digits (decimal n) n
    go true e ih = one_digit n (small e)
    go false e ih =
        let l = large e in
        let less : n / 10 ≤ k = omega arith in
        let below : n / 10 < 10 ^ 64 = omega arith in more_digits n l w (ih less below)

pub decimal_digits : (n : ℕ) → n < 2 ^ 127 → Digits (decimal n) n
decimal_digits n h = digits_within n n (omega arith) (omega arith)
