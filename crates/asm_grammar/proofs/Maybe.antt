-- The parser of an optional form is exact.
use Rattle.std.proofs.Common.{◌≡◌, Bool, true, false, refl}
use Rattle.std.specs.Prelude.{◌||◌, Option, Some, None}
use Rattle.asm_grammar.specs.Language.{Language, maybe}
use Rattle.asm_grammar.specs.Parser.{Parser, optional}
use Rattle.asm_grammar.proofs.Exact.{Sound, Complete, Apart, weaken}
use Rattle.asm_grammar.proofs.Basic.{sound-made, complete-made, sound-nothing, complete-nothing}
use Rattle.asm_grammar.proofs.Choices.{sound-either, complete-either}

pub sound-maybe : {T V : Type 0} {p : Parser T V} {L M : Language T V} (F : T → Bool)
    → Sound p L M → Sound (optional F p) (maybe L) (maybe M)
sound-maybe F s = sound-either F (sound-made Some s) (sound-nothing None)

-- what may go on after an optional form: what begins it, and what goes on with its value
abbrev pub maybe_on : {T V : Type 0} → (T → Bool) → (V → T → Bool) → Option V → T → Bool
maybe_on F C None t = F t
maybe_on F C (Some v) t = F t || C v t

-- what goes on with the value that is there
abbrev of_some : {T V : Type 0} → (V → T → Bool) → Option V → T → Bool
of_some C None t = false
of_some C (Some v) t = C v t

pub both_false : (x y : Bool) → x ≡ false → y ≡ false → (x || y) ≡ false
both_false true y a b = a
both_false false y a b = b

off_or : (x y : Bool) → (x || y) ≡ false → (x || (y || false)) ≡ false
off_or true y e = e
off_or false true e = e
off_or false false e = e

or_off : (x : Bool) → (x || false) ≡ true → x ≡ true
or_off true e = refl
or_off false e = absurd (cc e)

maybe_off : {T V : Type 0} (F : T → Bool) (C : V → T → Bool) (o : Option V) (t : T)
    → maybe_on F C o t ≡ false → (F t || (of_some C o t || false)) ≡ false
maybe_off F C None t h = both_false (F t) false h refl
maybe_off F C (Some v) t h = off_or (F t) (C v t) h

pub complete-maybe : {T V : Type 0} (X : Bool) {p : Parser T V} {L : Language T V} {F : T → Bool} {C : V → T → Bool}
    → Complete X p L F C false → Complete X (optional F p) (maybe L) F (maybe_on F C) true
complete-maybe {T} {V} X {p} {L} {F} {C} c =
    weaken F (maybe_on F C) (λ t e. or_off (F t) e) (λ o t e. maybe_off F C o t e)
    (complete-either X (complete-made Some (of_some C) (λ v t e. e) c) (complete-nothing {T = T} None X) (λ t e. absurd (cc e)))

-- what goes on after an optional form is in D
pub maybe_under : {T V : Type 0} (F : T → Bool) (C : V → T → Bool) (D : T → Bool) → ((t : T) → D t ≡ false → F t ≡ false)
    → ((v : V) (t : T) → D t ≡ false → C v t ≡ false) → (o : Option V) (t : T) → D t ≡ false → maybe_on F C o t ≡ false
maybe_under F C D f c None t h = f t h
maybe_under F C D f c (Some v) t h = both_false (F t) (C v t) (f t h) (c v t h)

-- no token of G goes on after an optional form
pub maybe_apart : {T V : Type 0} (F : T → Bool) (C : V → T → Bool) (G : T → Bool)
    → Apart F G → ((v : V) → Apart (C v) G) → (o : Option V) → Apart (maybe_on F C o) G
maybe_apart F C G f c None t h = f t h
maybe_apart F C G f c (Some v) t h = both_false (F t) (C v t) (f t h) (c v t h)
