-- The parser of each form that many lines have is exact for the form, where the parsers of its parts are.
use Rattle.std.proofs.Common.{◌≡◌, ℕ, List, [], ◌∷◌, Bool, true, false, inl, inr, refl, subst, codes}
use Rattle.std.specs.Prelude.{◌||◌, ◌&&◌, Option}
use Rattle.asm_grammar.specs.Language.{Language, word, ◌then◌, opens, ◌either◌, made}
use Rattle.asm_grammar.specs.Parser as p
use Rattle.asm_grammar.specs.Parser.{Parser, expect, mapped, both, optional, choose}
use Rattle.asm_grammar.proofs.Exact.{Sound, Complete, Apart, weaken, any_sound}
use Rattle.asm_grammar.proofs.Basic.{sound-word, complete-word, sound-made, complete-made, nowhere, never}
use Rattle.asm_grammar.proofs.Pairs.{sound-then, complete-then, or_false, with_far}
use Rattle.asm_grammar.proofs.Choices.{sound-either, complete-either, sound-opens, complete-opens}
use Rattle.asm_grammar.proofs.SoundChains.{sound-chain}
use Rattle.asm_grammar.proofs.CompleteChains.{complete-chain}
use Rattle.asm_grammar.proofs.Maybe.{sound-maybe, complete-maybe, maybe_on, maybe_under, both_false}
use Rattle.asm_grammar.proofs.Spans.{sound-spanned, complete-spanned}
use Rattle.asm_grammar.proofs.Fronts.{Fronts, fronts-word, fronts-then, fronts-opens, fronts-either, fronts-made, fronts-maybe, fronts-spanned, fronts-chain}
use Rattle.asm_grammar.proofs.Wider.{Wider, wider-same, wider-then, wider-opens, wider-either, wider-made, wider-maybe, wider-spanned, wider-chain}
use Rattle.asm_syntax.specs.declared.token.Span.{Span}
use Rattle.asm_syntax.specs.declared.token.Token.{Token}
use Rattle.asm_syntax.specs.Marks.{is, keyword, symbol, span_of}
use Rattle.asm_syntax.specs.Forms as g
use Rattle.asm_syntax.specs.Forms.{second, between, one, one_more, any, or_none, Rest, To, And, is_range_sign}
use Rattle.asm_parse_theory.specs.Forms as r
use Rattle.asm_parse_theory.specs.Forms.{goes_on}
use Rattle.asm_parse_theory.proofs.Sets.{apart}

-- ---- how a form is begun

-- each token that passes the test begins it
abbrev pub Starts : {V : Type 0} → (Token → Bool) → Language Token V → Type 0
Starts F L = (t : Token) → F t ≡ true → L.Begins (t ∷ [])

pub starts_word : (test : Token → Bool) → Starts test (word test)
starts_word test t h = inr (t, h, refl)

pub starts_after_word : {V : Type 0} (w : List ℕ) (L : Language Token V) → Starts (is (keyword w)) (g.after_word w L)
starts_after_word w L t h = inl (inr (t, h, refl))

pub starts_after_sign : {V : Type 0} (s : List ℕ) (L : Language Token V) → Starts (is (symbol s)) (g.after_sign s L)
starts_after_sign s L t h = inl (inr (t, h, refl))

pub starts_opened : {V : Type 0} (w : List ℕ) (L : Language Token V) → L.Begins [] → Starts (is (keyword w)) (g.opened true w L)
starts_opened w L empty t h = inr (t, [], refl, h, refl, empty)

pub starts_enclosed : {V : Type 0} (w : List ℕ) (L : Language Token V) (end : List ℕ) → L.Begins [] → Starts (is (keyword w)) (g.enclosed true w L end)
starts_enclosed w L end empty t h = inr (t, [], refl, h, refl, inl empty)

pub starts_bracketed : {V : Type 0} (s : List ℕ) (L : Language Token V) (end : List ℕ) → L.Begins [] → Starts (is (symbol s)) (g.bracketed true s L end)
starts_bracketed s L end empty t h = inr (t, [], refl, h, refl, inl empty)

pub starts_in_parentheses : {V : Type 0} (L : Language Token V) → L.Begins [] → Starts (is (symbol (codes "("))) (g.in_parentheses true L)
starts_in_parentheses L = starts_bracketed (codes "(") L (codes ")")

-- what either test gives
pub by_either : {P : Type 0} (x y : Bool) → (x ≡ true → P) → (y ≡ true → P) → (x || y) ≡ true → P
by_either true y f g e = f refl
by_either false y f g e = g e

-- one or the other, by what begins it
pub starts_either : {V : Type 0} (F G : Token → Bool) (L M : Language Token V) → Starts F L → Starts G M → Starts (λ t. F t || G t) (L either M)
starts_either F G L M f h t = by_either (F t) (G t) (λ e. inl (f t e)) (λ e. inr (h t e))

-- ---- sound

pub sound_quoted : (w : List ℕ) → Sound (r.quoted w) (g.quoted w) (g.quoted w)
sound_quoted w = sound-word (is (keyword w))

pub sound_sign : (s : List ℕ) → Sound (r.sign s) (g.sign s) (g.sign s)
sound_sign s = sound-word (is (symbol s))

-- s is of a parser q, with M wider than L
module _ {V : Type 0} {q : Parser Token V} {L M : Language Token V} (s : Sound q L M) where
  pub sound_after_word : (w : List ℕ) → Sound (r.after_word w q) (g.after_word w L) (g.after_word w M)
  sound_after_word w = sound-made second (sound-then (sound_quoted w) s)

  pub sound_after_sign : (sgn : List ℕ) → Sound (r.after_sign sgn q) (g.after_sign sgn L) (g.after_sign sgn M)
  sound_after_sign sgn = sound-made second (sound-then (sound_sign sgn) s)

  pub sound_several : (F : Token → Bool) → Starts F M → Sound (r.several F q) (g.several L) (g.several M)
  sound_several F starts = sound-chain any one_more F (sound-made one s) s starts

  pub sound_many : (F : Token → Bool) → Starts F M → Sound (r.many F q) (g.many L) (g.many M)
  sound_many F starts = sound-made or_none (sound-maybe F (sound_several F starts))

  pub sound_formed : {W : Type 0} (f : Span → V → W) → Sound (r.formed f q) (g.formed f L) (g.formed f M)
  sound_formed f = sound-spanned span_of f s

module _ {V : Type 0} {q : Parser Token V} {L M : Language Token V} (s : Sound q L M) where
  pub sound_listed : Sound (r.listed q) (g.listed L) (g.listed M)
  sound_listed =
      sound-then s (sound_many (sound_after_sign s (codes ",")) (is (symbol (codes ","))) (starts_after_sign (codes ",") M))

  pub sound_members : Sound (r.members q) (g.members L) (g.members M)
  sound_members =
      sound-then s (sound-maybe goes_on (sound-either is_range_sign
      (sound-made To (sound-made second (sound-then (sound-word is_range_sign) s)))
      (sound-made And (sound_several (sound_after_sign s (codes ",")) (is (symbol (codes ","))) (starts_after_sign (codes ",") M)))))

-- constructs: `room` says whether one more may be open; in M one more may
module _ {V : Type 0} (room : Bool) {q : Parser Token V} {L M : Language Token V} (s : room ≡ true → Sound q L M) (empty : M.Begins []) where
  pub sound_opened : (w : List ℕ) → Sound (r.opened room w q) (g.opened room w L) (g.opened true w M)
  sound_opened w = sound-made second (sound-opens room (is (keyword w)) s empty)

  pub sound_enclosed : (w end : List ℕ) → Sound (r.enclosed room w q end) (g.enclosed room w L end) (g.enclosed true w M end)
  sound_enclosed w end =
      sound-made between (sound-opens room (is (keyword w)) (λ o. sound-then (s o) (sound_quoted end)) (inl empty))

  pub sound_bracketed : (sgn end : List ℕ) → Sound (r.bracketed room sgn q end) (g.bracketed room sgn L end) (g.bracketed true sgn M end)
  sound_bracketed sgn end =
      sound-made between (sound-opens room (is (symbol sgn)) (λ o. sound-then (s o) (sound_sign end)) (inl empty))

  pub sound_in_parentheses : Sound (r.in_parentheses room q) (g.in_parentheses room L) (g.in_parentheses true M)
  sound_in_parentheses = sound_bracketed (codes "(") (codes ")")

-- ---- complete

pub complete_quoted : (X : Bool) (w : List ℕ) → Complete X (r.quoted w) (g.quoted w) (is (keyword w)) nowhere false
complete_quoted X w = complete-word (is (keyword w)) X

pub complete_sign : (X : Bool) (s : List ℕ) → Complete X (r.sign s) (g.sign s) (is (symbol s)) nowhere false
complete_sign X s = complete-word (is (symbol s)) X

-- what is made of a form, where what goes on is the same after each value
pub complete_mapped : {V W : Type 0} {X : Bool} {q : Parser Token V} {L : Language Token V} {F C : Token → Bool} {e : Bool} (f : V → W)
    → Complete X q L F (λ v. C) e → Complete X (mapped f q) (made f L) F (λ w. C) e
complete_mapped {C = C} f c = complete-made f (λ w. C) (λ v t h. h) c

pub complete_formed : {V W : Type 0} {X : Bool} {q : Parser Token V} {L : Language Token V} {F C : Token → Bool} {e : Bool} (f : Span → V → W)
    → Complete X q L F (λ v. C) e → Complete X (r.formed f q) (g.formed f L) F (λ w. C) e
complete_formed {C = C} f c = complete-spanned span_of f (λ w. C) (λ s v t h. h) c

-- a token after which none goes on adds none
none_far : (x y : Bool) → y ≡ false → ((x && false) || y) ≡ false
none_far true y h = h
none_far false y h = h

-- a token of which nothing is left, and then a form; what goes on may depend on the value
module _ {V : Type 0} (X : Bool) {q : Parser Token V} {L : Language Token V} {F : Token → Bool} {C : V → Token → Bool} {e : Bool}
    (c : Complete X q L F C e) where
  pub complete_after : (test : Token → Bool)
      → Complete X (mapped second (both (expect test) q)) (made second (word test then L)) test C false
  complete_after test = complete-made second C (λ v t h. none_far e (C v.1 t) h) (complete-then X (complete-word test X) c (λ v t h. refl))

  pub complete_after_word : (w : List ℕ) → Complete X (r.after_word w q) (g.after_word w L) (is (keyword w)) C false
  complete_after_word w = complete_after (is (keyword w))

  pub complete_after_sign : (sgn : List ℕ) → Complete X (r.after_sign sgn q) (g.after_sign sgn L) (is (symbol sgn)) C false
  complete_after_sign sgn = complete_after (is (symbol sgn))

-- One or more, where what begins one more doesn't go on after one.
module _ {V : Type 0} (X : Bool) {q : Parser Token V} {L : Language Token V} {F C : Token → Bool} (c : Complete X q L F (λ v. C) false)
    (ends : Apart C F) where
  chain_off : (t : Token) → (F t || C t) ≡ false → (C t || (F t || C t)) ≡ false
  chain_off t h = both_false (C t) (F t || C t) (or_false (F t) (C t) h).1 h

  pub complete_several : Complete X (r.several F q) (g.several L) F (λ v t. F t || C t) false
  complete_several =
      weaken F (λ v t. F t || C t) (λ t h. h) (λ v t h. chain_off t h)
      (complete-chain X any any one_more F c ends (λ left t f. absurd (cc f)) (complete_mapped one c) ends)

  pub complete_many : Complete X (r.many F q) (g.many L) F (λ v t. F t || C t) true
  complete_many =
      complete-made or_none (λ v t. F t || C t)
      (maybe_under F (λ v t. F t || C t) (λ t. F t || C t) (λ t h. (or_false (F t) (C t) h).0) (λ v t h. h))
      (complete-maybe X complete_several)

module _ {V : Type 0} (X : Bool) {q : Parser Token V} {L : Language Token V} {F C : Token → Bool} (c : Complete X q L F (λ v. C) false) where
  abbrev comma : Token → Bool
  comma = is (symbol (codes ","))

  pub complete_listed : Apart C (is (symbol (codes ",")))
      → Complete X (r.listed q) (g.listed L) F (λ v t. is (symbol (codes ",")) t || C t) false
  complete_listed ends =
      weaken F (λ v t. comma t || C t) (λ t h. h) (λ v t h. both_false (C t) (comma t || C t) (or_false (comma t) (C t) h).1 h)
      (complete-then X c (complete_many X (complete_after_sign X c (codes ",")) ends) (λ v. ends))

  -- the first of a set ends where the rest of it begins
  module _ (ends : Apart C goes_on) where
    ends_at_comma : Apart C comma
    ends_at_comma t h = ends t (or_comma (is_range_sign t) (comma t) h)
      where
        or_comma : (x y : Bool) → y ≡ true → (x || y) ≡ true
        or_comma true y e = refl
        or_comma false y e = e

    complete_rest : Complete X (choose is_range_sign (mapped To (mapped second (both (expect is_range_sign) q)))
        (mapped And (r.several comma (r.after_sign (codes ",") q))))
        (made To (made second (word is_range_sign then L)) either made And (g.several (g.after_sign (codes ",") L)))
        goes_on (λ v t. C t || (comma t || C t)) false
    complete_rest =
        complete-either X (complete_mapped To (complete_after X c is_range_sign))
        (complete_mapped And (complete_several X (complete_after_sign X c (codes ",")) ends_at_comma))
        (apart (symbol (codes ",") ∷ []) (symbol (codes "..") ∷ symbol (codes ":") ∷ []) refl)

    comma_off : (t : Token) → (goes_on t || C t) ≡ false → comma t ≡ false
    comma_off t h = (or_false (is_range_sign t) (comma t) (or_false (goes_on t) (C t) h).0).1

    rest_off : (t : Token) → (goes_on t || C t) ≡ false → (C t || (comma t || C t)) ≡ false
    rest_off t h =
        let off : C t ≡ false = (or_false (goes_on t) (C t) h).1 in
        both_false (C t) (comma t || C t) off (both_false (comma t) (C t) (comma_off t h) off)

    on_members : (o : Option (Rest V)) (t : Token) → (goes_on t || C t) ≡ false
        → (C t || maybe_on goes_on (λ v t. C t || (comma t || C t)) o t) ≡ false
    on_members o t h =
        both_false (C t) (maybe_on goes_on (λ v t. C t || (comma t || C t)) o t) (or_false (goes_on t) (C t) h).1
        (maybe_under goes_on (λ v t. C t || (comma t || C t)) (λ t. goes_on t || C t) (λ t h. (or_false (goes_on t) (C t) h).0) (λ v t h. rest_off t h) o t h)

    pub complete_members : Complete X (r.members q) (g.members L) F (λ v t. goes_on t || C t) false
    complete_members =
        weaken F (λ v t. goes_on t || C t) (λ t h. h) (λ v t h. on_members v.1 t h)
        (complete-then X c (complete-maybe X complete_rest) (λ v. ends))

-- Constructs: `room` says whether the parser lets one more be open, and `may` whether the language does. Where the language does
-- and the parser doesn't, X has to be true. How L is begun is shown by a parser q' that has room.
module _ {V : Type 0} (X : Bool) {room may : Bool} (loose : may ≡ true → room ≡ false → X ≡ true) {q q' : Parser Token V}
    {L N M : Language Token V} {F : Token → Bool} {C : V → Token → Bool} (s : room ≡ true → Sound q N M)
    (c : room ≡ true → may ≡ true → Complete X q L F C false) (d : may ≡ true → Complete true q' L F C false) where
  pub complete_opened : (w : List ℕ) → Complete X (r.opened room w q) (g.opened may w L) (is (keyword w)) C false
  complete_opened w =
      complete-made second C (λ v t h. h) (complete-opens room (is (keyword w)) X may c d loose (λ o. any_sound (s o)))

and_false : (x : Bool) → (x && false) ≡ false
and_false true = refl
and_false false = refl

-- The same with an end. What ends it doesn't go on after what it holds, which may be nothing.
module _ {V : Type 0} (X : Bool) {room may : Bool} (loose : may ≡ true → room ≡ false → X ≡ true) {q q' : Parser Token V}
    {L N M : Language Token V} {F : Token → Bool} {C : V → Token → Bool} {e : Bool} (s : room ≡ true → Sound q N M)
    (c : room ≡ true → may ≡ true → Complete X q L F C e) (d : may ≡ true → Complete true q' L F C e) where
  pub complete_closed : (test end : Token → Bool) → ((v : V) → Apart (C v) end)
      → Complete X (mapped between (p.opened room test (both q (expect end)))) (made between (opens may test (L then word end))) test nowhere false
  complete_closed test end ends =
      complete-made between (λ w. never) (λ v t h. refl) (complete-opens room test X may
      (λ o o'. full X (complete-then X (c o o') (complete-word end X) ends))
      (λ o'. full true (complete-then true (d o') (complete-word end true) ends)) loose
      (λ o. any_sound (sound-then (s o) (sound-word end))))
    where
      full : (Y : Bool) {p : Parser Token (V × Token)} {G : Token → Bool}
          → Complete Y p (L then word end) G (λ v. with_far false (C v.0) never) (e && false)
          → Complete Y p (L then word end) G (λ v. never) false
      full Y {p} {G} h = subst (λ x. Complete Y p (L then word end) G (λ v. never) x) (and_false e) h

  pub complete_enclosed : (w end : List ℕ) → ((v : V) → Apart (C v) (is (keyword end)))
      → Complete X (r.enclosed room w q end) (g.enclosed may w L end) (is (keyword w)) nowhere false
  complete_enclosed w end = complete_closed (is (keyword w)) (is (keyword end))

  pub complete_bracketed : (sgn end : List ℕ) → ((v : V) → Apart (C v) (is (symbol end)))
      → Complete X (r.bracketed room sgn q end) (g.bracketed may sgn L end) (is (symbol sgn)) nowhere false
  complete_bracketed sgn end = complete_closed (is (symbol sgn)) (is (symbol end))

  pub complete_in_parentheses : ((v : V) → Apart (C v) (is (symbol (codes ")"))))
      → Complete X (r.in_parentheses room q) (g.in_parentheses may L) (is (symbol (codes "("))) nowhere false
  complete_in_parentheses = complete_bracketed (codes "(") (codes ")")

-- ---- fronts

pub fronts_quoted : (w : List ℕ) → Fronts (g.quoted w)
fronts_quoted w = fronts-word (is (keyword w))

pub fronts_sign : (s : List ℕ) → Fronts (g.sign s)
fronts_sign s = fronts-word (is (symbol s))

module _ {V : Type 0} {L : Language Token V} (f : Fronts L) where
  pub fronts_after_word : (w : List ℕ) → Fronts (g.after_word w L)
  fronts_after_word w = fronts-made second (fronts-then (fronts_quoted w) f)

  pub fronts_after_sign : (s : List ℕ) → Fronts (g.after_sign s L)
  fronts_after_sign s = fronts-made second (fronts-then (fronts_sign s) f)

  pub fronts_several : Fronts (g.several L)
  fronts_several = fronts-chain any one_more f (fronts-made one f)

  pub fronts_many : Fronts (g.many L)
  fronts_many = fronts-made or_none (fronts-maybe fronts_several)

  pub fronts_formed : {W : Type 0} (h : Span → V → W) → Fronts (g.formed h L)
  fronts_formed h = fronts-spanned span_of h f

module _ {V : Type 0} {L : Language Token V} (f : Fronts L) where
  pub fronts_listed : Fronts (g.listed L)
  fronts_listed = fronts-then f (fronts_many (fronts_after_sign f (codes ",")))

  pub fronts_members : Fronts (g.members L)
  fronts_members =
      fronts-then f (fronts-maybe (fronts-either (fronts-made To (fronts-made second (fronts-then (fronts-word is_range_sign) f)))
      (fronts-made And (fronts_several (fronts_after_sign f (codes ","))))))

module _ {V : Type 0} (room : Bool) {L : Language Token V} (f : room ≡ true → Fronts L) where
  pub fronts_opened : (w : List ℕ) → Fronts (g.opened room w L)
  fronts_opened w = fronts-made second (fronts-opens room (is (keyword w)) f)

  pub fronts_enclosed : (w end : List ℕ) → Fronts (g.enclosed room w L end)
  fronts_enclosed w end = fronts-made between (fronts-opens room (is (keyword w)) (λ o. fronts-then (f o) (fronts_quoted end)))

  pub fronts_bracketed : (s end : List ℕ) → Fronts (g.bracketed room s L end)
  fronts_bracketed s end = fronts-made between (fronts-opens room (is (symbol s)) (λ o. fronts-then (f o) (fronts_sign end)))

  pub fronts_in_parentheses : Fronts (g.in_parentheses room L)
  fronts_in_parentheses = fronts_bracketed (codes "(") (codes ")")

-- ---- wider

pub wider_quoted : (w : List ℕ) → Wider (g.quoted w) (g.quoted w)
wider_quoted w = wider-same (g.quoted w)

pub wider_sign : (s : List ℕ) → Wider (g.sign s) (g.sign s)
wider_sign s = wider-same (g.sign s)

module _ {V : Type 0} {L M : Language Token V} (f : Wider L M) where
  pub wider_after_word : (w : List ℕ) → Wider (g.after_word w L) (g.after_word w M)
  wider_after_word w = wider-made second (wider-then (wider_quoted w) f)

  pub wider_after_sign : (s : List ℕ) → Wider (g.after_sign s L) (g.after_sign s M)
  wider_after_sign s = wider-made second (wider-then (wider_sign s) f)

  pub wider_several : Wider (g.several L) (g.several M)
  wider_several = wider-chain any any one_more (λ v h. h) f (wider-made one f)

  pub wider_many : Wider (g.many L) (g.many M)
  wider_many = wider-made or_none (wider-maybe wider_several)

  pub wider_formed : {W : Type 0} (h : Span → V → W) → Wider (g.formed h L) (g.formed h M)
  wider_formed h = wider-spanned span_of h f

module _ {V : Type 0} {L M : Language Token V} (f : Wider L M) where
  pub wider_listed : Wider (g.listed L) (g.listed M)
  wider_listed = wider-then f (wider_many (wider_after_sign f (codes ",")))

  pub wider_members : Wider (g.members L) (g.members M)
  wider_members =
      wider-then f (wider-maybe (wider-either (wider-made To (wider-made second (wider-then (wider-same (word is_range_sign)) f)))
      (wider-made And (wider_several (wider_after_sign f (codes ","))))))

-- where one more may be open, it may be open in the wider form too
module _ {V : Type 0} (room room' : Bool) (o' : room ≡ true → room' ≡ true) {L M : Language Token V} (f : room ≡ true → Wider L M) where
  pub wider_opened : (w : List ℕ) → Wider (g.opened room w L) (g.opened room' w M)
  wider_opened w = wider-made second (wider-opens room room' (is (keyword w)) o' f)

  pub wider_enclosed : (w end : List ℕ) → Wider (g.enclosed room w L end) (g.enclosed room' w M end)
  wider_enclosed w end =
      wider-made between (wider-opens room room' (is (keyword w)) o' (λ o. wider-then (f o) (wider_quoted end)))

  pub wider_bracketed : (s end : List ℕ) → Wider (g.bracketed room s L end) (g.bracketed room' s M end)
  wider_bracketed s end =
      wider-made between (wider-opens room room' (is (symbol s)) o' (λ o. wider-then (f o) (wider_sign end)))

  pub wider_in_parentheses : Wider (g.in_parentheses room L) (g.in_parentheses room' M)
  wider_in_parentheses = wider_bracketed (codes "(") (codes ")")
