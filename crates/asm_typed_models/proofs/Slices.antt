-- Parts of a text that cut no character.
use Rattle.std.proofs.Common.{◌≡◌, ℕ, ◌-◌, ◌<◌, ◌≤◌, Bool, true, false, not, ◌&&◌, ◌↔◌, if◌then◌else◌, List, [], length, get_or, take, drop, refl, sym, ap, ◌∙◌, arith, IsTrue, IsCharBoundary, slice_range, nat_le, nat_lt}
use Rattle.std.proofs.lemmas.Bool.{leb-true, leb-false, ltb-true, ltb-false, le-leb}
use Rattle.std.proofs.lemmas.List.{get_or_past}
use Rattle.asm_syntax.specs.declared.token.Span.{Span}
use Rattle.asm_program.specs.Typed.{is_boundary, slice_of}

module _ (text : List ℕ) (at : ℕ) where
  abbrev byte : ℕ
  byte = get_or text at 0

  abbrev long : ℕ
  long = length text

  pub boundary-from : is_boundary text at ≡ true → IsCharBoundary text at
  boundary-from h = tests (nat_le at long) (nat_le 128 byte) (nat_lt byte 192) refl refl refl h
    where
      tests : (l a b : Bool) → nat_le at long ≡ l → nat_le 128 byte ≡ a → nat_lt byte 192 ≡ b → (l && not (a && b)) ≡ true → IsCharBoundary text at
      tests false a b p q r e = absurd (cc e)
      tests true false b p q r e =
          (leb-true at long p, λ less more. absurd (omega (arith, more, leb-false 128 byte q)))
      tests true true false p q r e = (leb-true at long p, λ less more. ltb-false byte 192 r)
      tests true true true p q r e = absurd (cc e)

  pub boundary-to : IsCharBoundary text at → is_boundary text at ≡ true
  boundary-to h = tests (nat_le at long) (nat_le 128 byte) (nat_lt byte 192) refl refl refl
    where
      inside : (b : Bool) → nat_lt at long ≡ b → 128 ≤ byte → 192 ≤ byte
      inside true e more = h.1 (ltb-true at long e) more
      inside false e more =
          let none : byte ≡ 0 = get_or_past text at 0 (ltb-false at long e) in
          absurd (omega (arith, more, none))

      tests : (l a b : Bool) → nat_le at long ≡ l → nat_le 128 byte ≡ a → nat_lt byte 192 ≡ b → (l && not (a && b)) ≡ true
      tests false a b p q r = absurd (omega (arith, h.0, leb-false at long p))
      tests true false b p q r = refl
      tests true true false p q r = refl
      tests true true true p q r =
          absurd (omega (arith, ltb-true byte 192 r, inside (nat_lt at long) refl (leb-true 128 byte q)))

  pub boundary-decides : (b : Bool) → (IsTrue b ↔ IsCharBoundary text at) → b ≡ is_boundary text at
  boundary-decides true h = sym (boundary-to (h.0 refl))
  boundary-decides false h = by (is_boundary text at) refl
    where
      by : (b : Bool) → is_boundary text at ≡ b → false ≡ b
      by true e = absurd (cc (h.1 (boundary-from e)))
      by false e = refl

module _ (text : List ℕ) (span : Span) where
  abbrev part : Bool → Bool → Bool → List ℕ
  part a b c = if a && b && c then take (span.end - span.start) (drop span.start text) else []

  pub slice-inside : span.start ≤ span.end → is_boundary text span.start ≡ true → is_boundary text span.end ≡ true
      → slice_range text span.start span.end ≡ slice_of text span
  slice-inside l a b =
      ap (λ c. part c true true) (sym (le-leb span.start span.end l))
      ∙ ap (λ c. part (nat_le span.start span.end) c true) (sym a)
      ∙ ap (λ c. part (nat_le span.start span.end) (is_boundary text span.start) c) (sym b)

  pub slice-backwards : span.end < span.start → slice_of text span ≡ []
  slice-backwards l = by (nat_le span.start span.end) refl
    where
      by : (c : Bool) → nat_le span.start span.end ≡ c → part c (is_boundary text span.start) (is_boundary text span.end) ≡ []
      by true e = absurd (omega (arith, l, leb-true span.start span.end e))
      by false e = refl

  pub slice-start : is_boundary text span.start ≡ false → slice_of text span ≡ []
  slice-start e =
      ap (λ c. part (nat_le span.start span.end) c (is_boundary text span.end)) e
      ∙ by (nat_le span.start span.end)
    where
      by : (c : Bool) → part c false (is_boundary text span.end) ≡ []
      by true = refl
      by false = refl

  pub slice-end : is_boundary text span.end ≡ false → slice_of text span ≡ []
  slice-end e =
      ap (λ c. part (nat_le span.start span.end) (is_boundary text span.start) c) e
      ∙ by (nat_le span.start span.end) (is_boundary text span.start)
    where
      by : (b c : Bool) → part b c false ≡ []
      by true true = refl
      by true false = refl
      by false c = refl

pub ruleset boundary_steps = (boundary-decides)

pub ruleset slice_steps = (boundary-from, slice-inside, slice-backwards, slice-start, slice-end)
