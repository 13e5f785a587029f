-- What is made of a value and of the span that it was read from.
use Rattle.std.proofs.Common.{◌≡◌, ◌-◌, ◌+◌, List, [], ◌∷◌, ◌++◌, length, take, Bool, true, false, sym, refl, ap, ◌∙◌, subst, length-append, arith}
use Rattle.asm_grammar.specs.Language.{Language, spanned}
use Rattle.asm_grammar.specs.Parser.{Reply, Took, Refused, Parser, and_then, taken, measured}
use Rattle.asm_grammar.proofs.Exact.{SoundAt, Sound, Ends, Gives, Reaches, Complete}

take_front : {T : Type 0} (a b : List T) → take (length a) (a ++ b) ≡ a
take_front [] b = refl
take_front (x ∷ a) b = ap (λ z. x ∷ z) (take_front a b)

taken_front : {T : Type 0} (a b : List T) → taken (a ++ b) b ≡ a
taken_front {T} a b =
    let sum : length (a ++ b) ≡ length a + length b = length-append a b in
    let front : length (a ++ b) - length b ≡ length a = omega arith in
    ap (λ n. take n (a ++ b)) front ∙ take_front a b

module _ {T V W S : Type 0} (span : List T → S) (f : S → V → W) where
  -- a reply at ts, with what f makes of its value and of the span of what was taken
  abbrev pub with_span : List T → Reply T V → Reply T W
  with_span ts r = and_then r (λ v rest. Took (f (span (taken ts rest)) v) rest)

  measured_at : (L M : Language T V) (ts : List T) (r : Reply T V) → SoundAt L M ts r
      → SoundAt (spanned span f L) (spanned span f M) ts (with_span ts r)
  measured_at L M ts (Took v rest) s =
      (s.0, s.1, (v, ap (λ x. f (span x) v) (ap (λ x. taken x rest) s.1 ∙ taken_front s.0 rest), s.2))
  measured_at L M ts (Refused false rest) s = s
  measured_at L M ts (Refused true rest) s = s

  pub sound-spanned : {p : Parser T V} {L M : Language T V} → Sound p L M
      → Sound (measured span f p) (spanned span f L) (spanned span f M)
  sound-spanned {p} {L} {M} s = record {
    at = λ ts. measured_at L M ts (p ts) (s.at ts);
    wider = λ w a h. (h.0, h.1, s.wider h.0 a h.2);
  }

  measured_gives : (X : Bool) (v : V) (w : W) (a b : List T) (r : Reply T V) → w ≡ f (span a) v → Gives X v b r
      → Gives X w b (with_span (a ++ b) r)
  measured_gives X v w a b (Took u rest) e g =
      ((λ i. f (span (taken (a ++ b) (g.1 i))) (g.0 i)) ∙ ap (λ x. f (span x) v) (taken_front a b) ∙ sym e, g.1)
  measured_gives X v w a b (Refused false rest) e g = g
  measured_gives X v w a b (Refused true rest) e g = g

  measured_reaches : (X : Bool) (ts b : List T) (r : Reply T V) → Reaches X b r → Reaches X b (with_span ts r)
  measured_reaches X ts b (Took u rest) g = g
  measured_reaches X ts b (Refused false rest) g = g
  measured_reaches X ts b (Refused true rest) g = g

  -- C' has what goes on with the values that f makes
  pub complete-spanned : {X : Bool} {p : Parser T V} {L : Language T V} {F : T → Bool} {C : V → T → Bool} {e : Bool}
      → (C' : W → T → Bool) → ((s : S) (v : V) (t : T) → C' (f s v) t ≡ false → C v t ≡ false)
      → Complete X p L F C e → Complete X (measured span f p) (spanned span f L) F C' e
  complete-spanned {X} {p} {L} {F} {C} {e} C' on c = record {
    whole = λ w a b s h.
        measured_gives X s.0 w a b (p (a ++ b)) s.1
        (c.whole s.0 a b s.2 (ends (span a) s.0 b (subst (λ x. Ends (C' x) b) s.1 h)));
    partly = λ a b s. measured_reaches X (a ++ b) b (p (a ++ b)) (c.partly a b s);
    any = λ b. measured_reaches false b b (p b) (c.any b);
    first = c.first;
    nonempty = λ e w s. c.nonempty e s.0 s.2;
    begins = λ w a s. c.begins s.0 a s.2;
  }
    where
      ends : (s : S) (v : V) (b : List T) → Ends (C' (f s v)) b → Ends (C v) b
      ends s v [] h = tt
      ends s v (t ∷ b) h = on s v t h
