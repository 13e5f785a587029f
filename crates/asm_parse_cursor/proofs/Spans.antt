-- Tokens that have one of several marks, and the span of a list.
use Rattle.std.proofs.Common.{◌≡◌, ◌∙◌, ◌-◌, ◌||◌, true, false, List, [], ◌∷◌, ◌++◌, length, Some, Bool, ap, refl, slice_get, arith}
use Rattle.asm_syntax.specs.declared.token.Token.{Token}
use Rattle.asm_syntax.specs.Marks.{Mark, is, is_one_of, last_of, span_of}

or_both : (a b c : Bool) → a || (b || c) ≡ (a || b) || c
or_both true b c = refl
or_both false b c = refl

pub one_of_both : (marks others : List Mark) (t : Token) → is_one_of (marks ++ others) t ≡ is_one_of marks t || is_one_of others t
one_of_both [] others t = refl
one_of_both (m ∷ marks) others t =
    ap (λ b. is m t || b) (one_of_both marks others t) ∙ or_both (is m t) (is_one_of marks t) (is_one_of others t)

-- ---- spans

last_is : (t : Token) (ts : List Token) → slice_get (t ∷ ts) (length ts) ≡ Some (last_of t ts)
last_is t [] = refl
last_is t (u ∷ us) = last_is u us

pub span_is : (ts : List Token) (a b : Token) → Some a ≡ slice_get ts 0 → Some b ≡ slice_get ts (length ts - 1)
    → record { start = a.span.start; end = b.span.end } ≡ span_of ts
span_is [] a b first last = absurd (cc first)
span_is (t ∷ ts) a b first last =
    let at : length (t ∷ ts) - 1 ≡ length ts = omega arith in
    let same_last : Some b ≡ Some (last_of t ts) = last ∙ ap (λ n. slice_get (t ∷ ts) n) at ∙ last_is t ts in
    let e : a ≡ t = cc first in
    let f : b ≡ last_of t ts = cc same_last in
    rw e (rw f refl)
