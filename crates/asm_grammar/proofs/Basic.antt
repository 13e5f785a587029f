-- The parsers of a word, of nothing, and of what is made of a form are exact.
use Rattle.std.proofs.Common.{◌≡◌, List, [], ◌∷◌, ◌++◌, Bool, true, false, inl, inr, sym, refl, ap, ◌∙◌, subst, append_assoc}
use Rattle.std.specs.Prelude.{cond}
use Rattle.asm_grammar.specs.Language.{Language, word, nothing, made}
use Rattle.asm_grammar.specs.Parser.{Reply, Took, Refused, Parser, and_then, pure, expect, mapped}
use Rattle.asm_grammar.proofs.Exact.{SoundAt, Sound, Ends, Gives, IsRestOf, Reaches, Complete}

-- no token
abbrev pub never : {T : Type 0} → T → Bool
never t = false

-- after no value any token
abbrev pub nowhere : {T V : Type 0} → V → T → Bool
nowhere v t = false

-- a rest of a rest
pub rest_of_rest : {T : Type 0} (b c d : List T) → IsRestOf b c → IsRestOf c d → IsRestOf b d
rest_of_rest b c d r s = (r.0 ++ s.0, r.1 ∙ ap (λ x. r.0 ++ x) s.1 ∙ sym (append_assoc r.0 s.0 d))

pub whole_rest : {T : Type 0} (b : List T) → IsRestOf b b
whole_rest b = ([], refl)

-- two tests of one token
pub true_is_false : (b : Bool) → b ≡ true → b ≡ false → ⊥
true_is_false b t f = absurd (cc)

-- what reaches b whatever X is
pub reaches_any : {T V : Type 0} (X : Bool) (b : List T) (r : Reply T V) → Reaches false b r → Reaches X b r
reaches_any X b (Took v rest) h = h
reaches_any X b (Refused false rest) h = h
reaches_any X b (Refused true rest) (inl e) = absurd (cc e)
reaches_any X b (Refused true rest) (inr h) = inr h

-- ---- a word

module _ {T : Type 0} (test : T → Bool) where
  -- the answer at a token, by whether it passes
  abbrev at_token : Bool → T → List T → Reply T T
  at_token x t ts = cond x (Took t ts) (Refused false (t ∷ ts))

  word_at : (t : T) (ts : List T) (x : Bool) → test t ≡ x → SoundAt (word test) (word test) (t ∷ ts) (at_token x t ts)
  word_at t ts true e = (t ∷ [], refl, (e, refl))
  word_at t ts false e = ([], refl, inl refl)

  word_sound_at : (ts : List T) → SoundAt (word test) (word test) ts (expect test ts)
  word_sound_at [] = ([], refl, inl refl)
  word_sound_at (t ∷ ts) = word_at t ts (test t) refl

  pub sound-word : Sound (expect test) (word test) (word test)
  sound-word = record { at = word_sound_at; wider = λ v a s. s }

  word_gives : (X : Bool) (v : T) (a b : List T) → test v ≡ true → a ≡ v ∷ [] → Gives X v b (expect test (a ++ b))
  word_gives X v a b is e =
      subst (λ (x : List T). Gives X v b (expect test (x ++ b))) (sym e)
      (subst (λ (x : Bool). Gives X v b (at_token x v b)) (sym is) (refl, refl))

  word_any : (t : T) (b : List T) (x : Bool) → Reaches false (t ∷ b) (at_token x t b)
  word_any t b true = (t ∷ [], refl)
  word_any t b false = ([], refl)

  word_any_at : (b : List T) → Reaches false b (expect test b)
  word_any_at [] = ([], refl)
  word_any_at (t ∷ b) = word_any t b (test t)

  word_partly : (X : Bool) (t : T) (a b : List T) → test t ≡ true → a ≡ t ∷ [] → Reaches X b (expect test (a ++ b))
  word_partly X t a b is e =
      subst (λ (x : List T). Reaches X b (expect test (x ++ b))) (sym e)
      (subst (λ (x : Bool). Reaches X b (at_token x t b)) (sym is) ([], refl))

  word_partly_at : (X : Bool) (a b : List T) → (word test).Begins a → Reaches X b (expect test (a ++ b))
  word_partly_at X a b (inl e) =
      subst (λ (x : List T). Reaches X b (expect test (x ++ b))) (sym e) (reaches_any X b (expect test b) (word_any_at b))
  word_partly_at X a b (inr w) = word_partly X w.0 a b w.1 w.2

  word_first : (t : T) (a : List T) → (word test).Begins (t ∷ a) → test t ≡ true
  word_first t a (inl e) = absurd (cc e)
  word_first t a (inr w) = let same : t ≡ w.0 = cc w.2 in subst (λ x. test x ≡ true) (sym same) w.1

  pub complete-word : (X : Bool) → Complete X (expect test) (word test) test nowhere false
  complete-word X = record {
    whole = λ v a b s h. word_gives X v a b s.0 s.1;
    partly = word_partly_at X;
    any = word_any_at;
    first = word_first;
    nonempty = λ e v s. absurd (cc s.1);
    begins = λ v a s. inr (v, s.0, s.1);
  }

-- ---- nothing

module _ {T V : Type 0} (x : V) where
  pub sound-nothing : Sound {T = T} {V = V} (pure x) (nothing x) (nothing x)
  sound-nothing = record { at = λ ts. ([], refl, (refl, refl)); wider = λ v a s. s }

  nothing_gives : (X : Bool) (v : V) (a b : List T) → v ≡ x → a ≡ [] → Gives X v b (pure x (a ++ b))
  nothing_gives X v a b e f = (sym e, ap (λ y. y ++ b) f)

  nothing_reaches : (X : Bool) (a b : List T) → a ≡ [] → IsRestOf b (a ++ b)
  nothing_reaches X a b f = ([], ap (λ y. y ++ b) (sym f))

  pub complete-nothing : (X : Bool) → Complete {T = T} {V = V} X (pure x) (nothing x) never nowhere true
  complete-nothing X = record {
    whole = λ v a b s h. nothing_gives X v a b s.0 s.1;
    partly = λ a b s. nothing_reaches X a b s;
    any = λ b. ([], refl);
    first = λ t a s. absurd (cc s);
    nonempty = λ e v s. cc e;
    begins = λ v a s. s.1;
  }

-- ---- what is made of it

-- a reply with the value that f makes of its value
abbrev pub remade : {T V W : Type 0} → (V → W) → Reply T V → Reply T W
remade f r = and_then r (λ v. pure (f v))

module _ {T V W : Type 0} (f : V → W) where
  made_at : (L M : Language T V) (ts : List T) (r : Reply T V) → SoundAt L M ts r → SoundAt (made f L) (made f M) ts (remade f r)
  made_at L M ts (Took v rest) s = (s.0, s.1, (v, refl, s.2))
  made_at L M ts (Refused false rest) s = s
  made_at L M ts (Refused true rest) s = s

  pub sound-made : {p : Parser T V} {L M : Language T V} → Sound p L M → Sound (mapped f p) (made f L) (made f M)
  sound-made {p} {L} {M} s = record { at = λ ts. made_at L M ts (p ts) (s.at ts); wider = λ w a h. (h.0, h.1, s.wider h.0 a h.2) }

  pub made_gives : (X : Bool) (v : V) (w : W) (b : List T) (r : Reply T V) → w ≡ f v → Gives X v b r → Gives X w b (remade f r)
  made_gives X v w b (Took u rest) e g = (ap f g.0 ∙ sym e, g.1)
  made_gives X v w b (Refused false rest) e g = g
  made_gives X v w b (Refused true rest) e g = g

  pub made_reaches : (X : Bool) (b : List T) (r : Reply T V) → Reaches X b r → Reaches X b (remade f r)
  made_reaches X b (Took u rest) g = g
  made_reaches X b (Refused false rest) g = g
  made_reaches X b (Refused true rest) g = g

  -- C' has what goes on with the values that f makes
  pub complete-made : {X : Bool} {p : Parser T V} {L : Language T V} {F : T → Bool} {C : V → T → Bool} {e : Bool}
      → (C' : W → T → Bool) → ((v : V) (t : T) → C' (f v) t ≡ false → C v t ≡ false)
      → Complete X p L F C e → Complete X (mapped f p) (made f L) F C' e
  complete-made {X} {p} {L} {F} {C} {e} C' on c = record {
    whole = λ w a b s h.
        made_gives X s.0 w b (p (a ++ b)) s.1 (c.whole s.0 a b s.2 (ends s.0 b (subst (λ x. Ends (C' x) b) s.1 h)));
    partly = λ a b s. made_reaches X b (p (a ++ b)) (c.partly a b s);
    any = λ b. made_reaches false b (p b) (c.any b);
    first = c.first;
    nonempty = λ e w s. c.nonempty e s.0 s.2;
    begins = λ w a s. c.begins s.0 a s.2;
  }
    where
      ends : (v : V) (b : List T) → Ends (C' (f v)) b → Ends (C v) b
      ends v [] h = tt
      ends v (t ∷ b) h = on v t h
