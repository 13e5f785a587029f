-- What is spelled is spelled again by its words, form by form.
use Rattle.std.proofs.Common.{◌≡◌, Bool, true, List, [], ◌∷◌, ◌++◌, ◌⊎◌, inl, inr, sym, refl, ap, ◌∙◌, subst}
use Rattle.std.specs.Prelude.{Option, Some, None}
use Rattle.asm_grammar.specs.Language.{Language, word, nothing, ◌then◌, opens, ◌either◌, made, maybe}
use Rattle.asm_syntax.specs.declared.token.Span.{Span}
use Rattle.asm_syntax.specs.declared.token.Token.{Token}
use Rattle.asm_syntax.specs.declared.token.TokenKind.{TokenKind}
use Rattle.asm_syntax.specs.Marks.{span_of}
use Rattle.asm_syntax.specs.Forms.{formed}
use Rattle.asm_syntax.specs.Written.{Words, kind_word, word_of, if_there}
use Rattle.asm_print_theory.proofs.Propers.{Proper, Kinds, kinds_of, words_of, Propers, Lexed, propers_both, words_both, lexed_parts, cut_at, step_off, none_left}

-- proper kinds of these words, and tokens of these kinds spell in M what is the same as v
pub record Back {V : Type 0} (same : V → V → Type 0) (words : Words) (M : Language Token V) (v : V) : Type 0 where
  pub kinds : Kinds
  pub proper : Propers kinds
  pub written : words_of kinds ≡ words
  pub reads : (us : List Token) → kinds_of us ≡ kinds → (u : V) × same u v × M.Spells u us

-- what L spells by tokens of a text is spelled again in M
pub record Backs {V : Type 0} (L M : Language Token V) (same : V → V → Type 0) (words : V → Words) : Type 0 where
  pub at : (v : V) (ts : List Token) → L.Spells v ts → Lexed ts → Back same (words v) M v

-- ---- when two values are the same

abbrev pub alike : Token → Token → Type 0
alike t u = t.kind ≡ u.kind

-- where the value doesn't matter
abbrev pub whatever : {V : Type 0} → V → V → Type 0
whatever u v = Unit {0}

abbrev pub both : {V W : Type 0} → (V → V → Type 0) → (W → W → Type 0) → V × W → V × W → Type 0
both f g u v = f u.0 v.0 × g u.1 v.1

abbrev pub in_option : {V : Type 0} → (V → V → Type 0) → Option V → Option V → Type 0
in_option f None None = Unit {0}
in_option f None (Some v) = ⊥
in_option f (Some u) None = ⊥
in_option f (Some u) (Some v) = f u v

abbrev pub in_list : {V : Type 0} → (V → V → Type 0) → List V → List V → Type 0
in_list f [] [] = Unit {0}
in_list f [] (v ∷ vs) = ⊥
in_list f (u ∷ us) [] = ⊥
in_list f (u ∷ us) (v ∷ vs) = f u v × in_list f us vs

-- ---- words

-- a token with its own word
pub back-word : (p : TokenKind → Bool) → Backs (word (λ (t : Token). p t.kind)) (word (λ (t : Token). p t.kind)) alike (λ t. word_of t ∷ [])
back-word p = record {
  at = λ v ts s l. record {
    kinds = v.kind ∷ [];
    proper = ((subst (λ (x : List Token). Lexed x) s.1 l).0, tt);
    written = refl;
    reads = λ us e.
        let c = step_off us v.kind [] e in (
          c.first,
          c.kind,
          (ap p c.kind ∙ s.0, c.parts ∙ ap (λ x. c.first ∷ x) (none_left c.others c.rest)),
        );
  };
}

-- a token of which the word is always this
pub back_fixed_at : (test : Token → Bool) (k : TokenKind) (v : Token) → Proper k → ((u : Token) → u.kind ≡ k → test u ≡ true)
    → Back whatever (kind_word k ∷ []) (word test) v
back_fixed_at test k v proper is = record {
  kinds = k ∷ [];
  proper = (proper, tt);
  written = refl;
  reads = λ us e.
      let c = step_off us k [] e in (
        c.first,
        tt,
        (is c.first c.kind, c.parts ∙ ap (λ x. c.first ∷ x) (none_left c.others c.rest)),
      );
}

pub back-fixed : (test test' : Token → Bool) (k : TokenKind) → Proper k → ((u : Token) → u.kind ≡ k → test' u ≡ true)
    → Backs (word test) (word test') whatever (λ t. kind_word k ∷ [])
back-fixed test test' k proper is = record { at = λ v ts s l. back_fixed_at test' k v proper is }

pub back-nothing : {V : Type 0} (x : V) (same : V → V → Type 0) → same x x → Backs (nothing x) (nothing x) same (λ v. [])
back-nothing x same r = record {
  at = λ v ts s l. record {
    kinds = [];
    proper = tt;
    written = refl;
    reads = λ us e. (x, subst (λ y. same x y) (sym s.0) r, (refl, none_left us e));
  };
}

-- ---- two in a row

pub back_then_at : {V W : Type 0} {M : Language Token V} {M' : Language Token W} {same : V → V → Type 0} {same' : W → W → Type 0} {words words' : Words}
    (v : V) (w : W) → Back same words M v → Back same' words' M' w → Back (both same same') (words ++ words') (M then M') (v, w)
back_then_at v w f g = record {
  kinds = f.kinds ++ g.kinds;
  proper = propers_both f.kinds g.kinds f.proper g.proper;
  written = words_both f.kinds g.kinds ∙ (λ i. f.written i ++ g.written i);
  reads = λ us e.
      let c = cut_at us f.kinds g.kinds e in
      let x = f.reads c.front c.fronts in
      let y = g.reads c.back c.backs in ((x.0, y.0), (x.1, y.1), (c.front, c.back, c.parts, x.2, y.2));
}

pub back-then : {V W : Type 0} {L M : Language Token V} {L' M' : Language Token W} {same : V → V → Type 0} {same' : W → W → Type 0}
    {words : V → Words} {words' : W → Words} → Backs L M same words → Backs L' M' same' words'
    → Backs (L then L') (M then M') (both same same') (λ v. words v.0 ++ words' v.1)
back-then f g = record {
  at = λ v ts s l.
      let ls = lexed_parts s.0 s.1 (subst (λ (x : List Token). Lexed x) s.2 l) in
      back_then_at v.0 v.1 (f.at v.0 s.0 s.3 ls.0) (g.at v.1 s.1 s.4 ls.1);
}

-- ---- a token that opens

-- with its own word, before tokens with these words
pub back_step_own : {W : Type 0} {M : Language Token W} {same : W → W → Type 0} {words : Words} (is_open : Bool) (p : TokenKind → Bool) (t : Token) (w : W)
    → is_open ≡ true → p t.kind ≡ true → Proper t.kind → Back same words M w
    → Back (both alike same) (word_of t ∷ words) (opens is_open (λ (u : Token). p u.kind) M) (t, w)
back_step_own is_open p t w o is proper b = record {
  kinds = t.kind ∷ b.kinds;
  proper = (proper, b.proper);
  written = ap (λ ws. word_of t ∷ ws) b.written;
  reads = λ us e.
      let c = step_off us t.kind b.kinds e in
      let x = b.reads c.others c.rest in ((c.first, x.0), (c.kind, x.1), (c.others, c.parts, ap p c.kind ∙ is, o, x.2));
}

-- of which the word is always this
pub back_step_fixed : {W : Type 0} {M : Language Token W} {same : W → W → Type 0} {words : Words} (is_open : Bool) (test : Token → Bool) (k : TokenKind) (t : Token) (w : W)
    → is_open ≡ true → Proper k → ((u : Token) → u.kind ≡ k → test u ≡ true) → Back same words M w
    → Back (both whatever same) (kind_word k ∷ words) (opens is_open test M) (t, w)
back_step_fixed is_open test k t w o proper is b = record {
  kinds = k ∷ b.kinds;
  proper = (proper, b.proper);
  written = ap (λ ws. kind_word k ∷ ws) b.written;
  reads = λ us e.
      let c = step_off us k b.kinds e in
      let x = b.reads c.others c.rest in ((c.first, x.0), (tt, x.1), (c.others, c.parts, is c.first c.kind, o, x.2));
}

pub back-opens : {W : Type 0} (is_open is_open' : Bool) (p : TokenKind → Bool) {L M : Language Token W} {same : W → W → Type 0} {words : W → Words}
    → (is_open ≡ true → is_open' ≡ true) → (is_open ≡ true → Backs L M same words)
    → Backs (opens is_open (λ (t : Token). p t.kind) L) (opens is_open' (λ (t : Token). p t.kind) M) (both alike same) (λ v. word_of v.0 ∷ words v.1)
back-opens is_open is_open' p more f = record {
  at = λ v ts s l.
      let ls = subst (λ (x : List Token). Lexed x) s.1 l in
      back_step_own is_open' p v.0 v.1 (more s.3) s.2 ls.0 ((f s.3).at v.1 s.0 s.4 ls.1);
}

pub back-opens-fixed : {W : Type 0} (is_open is_open' : Bool) (test : Token → Bool) (k : TokenKind) {L M : Language Token W} {same : W → W → Type 0} {words : W → Words}
    → (is_open ≡ true → is_open' ≡ true) → Proper k → ((u : Token) → u.kind ≡ k → test u ≡ true) → (is_open ≡ true → Backs L M same words)
    → Backs (opens is_open test L) (opens is_open' test M) (both whatever same) (λ v. kind_word k ∷ words v.1)
back-opens-fixed is_open is_open' test k more proper is f = record {
  at = λ v ts s l.
      let ls = subst (λ (x : List Token). Lexed x) s.1 l in
      back_step_fixed is_open' test k v.0 v.1 (more s.3) proper is ((f s.3).at v.1 s.0 s.4 ls.1);
}

-- ---- choices, and what is made of a form

-- what M spells as v, M' spells as w
pub back_on : {V W : Type 0} {M : Language Token V} {M' : Language Token W} {same : V → V → Type 0} {same' : W → W → Type 0} {words : Words} (v : V) (w : W)
    → ((u : V) (us : List Token) → same u v → M.Spells u us → (x : W) × same' x w × M'.Spells x us) → Back same words M v → Back same' words M' w
back_on v w f b = record {
  kinds = b.kinds;
  proper = b.proper;
  written = b.written;
  reads = λ us e. let x = b.reads us e in f x.0 us x.1 x.2;
}

-- by other words that are the same
pub back_as : {V : Type 0} {M : Language Token V} {same : V → V → Type 0} {words words' : Words} {v : V} → words' ≡ words → Back same words M v → Back same words' M v
back_as e b = record { kinds = b.kinds; proper = b.proper; written = b.written ∙ sym e; reads = b.reads }

pub back_left : {V : Type 0} {M M' : Language Token V} {same : V → V → Type 0} {words : Words} (v : V) → Back same words M v → Back same words (M either M') v
back_left v b = back_on v v (λ u us h s. (u, h, inl s)) b

pub back_right : {V : Type 0} {M M' : Language Token V} {same : V → V → Type 0} {words : Words} (v : V) → Back same words M' v → Back same words (M either M') v
back_right v b = back_on v v (λ u us h s. (u, h, inr s)) b

pub back-either : {V : Type 0} {L M L' M' : Language Token V} {same : V → V → Type 0} {words : V → Words}
    → Backs L M same words → Backs L' M' same words → Backs (L either L') (M either M') same words
back-either {V} {L} {M} {L'} {M'} {same} {words} f g = record { at = go }
  where
    go : (v : V) (ts : List Token) → L.Spells v ts ⊎ L'.Spells v ts → Lexed ts → Back same (words v) (M either M') v
    go v ts (inl h) l = back_left v (f.at v ts h l)
    go v ts (inr h) l = back_right v (g.at v ts h l)

pub back_made_to : {V W : Type 0} (f : V → W) {M : Language Token V} {same : V → V → Type 0} {same' : W → W → Type 0} {words : Words} (v : V) (w : W)
    → ((u : V) → same u v → same' (f u) w) → Back same words M v → Back same' words (made f M) w
back_made_to f v w on b = back_on v w (λ u us h s. (f u, on u h, (u, refl, s))) b

pub back_formed_to : {V W : Type 0} (f : Span → V → W) {M : Language Token V} {same : V → V → Type 0} {same' : W → W → Type 0} {words : Words} (v : V) (w : W)
    → ((s : Span) (u : V) → same u v → same' (f s u) w) → Back same words M v → Back same' words (formed f M) w
back_formed_to f v w on b = back_on v w (λ u us h s. (f (span_of us) u, on (span_of us) u h, (u, refl, s))) b

pub back-made : {V W : Type 0} (f : V → W) {L M : Language Token V} {same : V → V → Type 0} {same' : W → W → Type 0} {words : V → Words} {words' : W → Words}
    → ((u v : V) → same u v → same' (f u) (f v)) → ((v : V) (ts : List Token) → L.Spells v ts → words' (f v) ≡ words v)
    → Backs L M same words → Backs (made f L) (made f M) same' words'
back-made f {same' = same'} {words' = words'} on wr b = record {
  at = λ w ts s l.
      back_as (ap words' s.1 ∙ wr s.0 ts s.2)
      (back_made_to f s.0 w (λ u h. subst (λ y. same' (f u) y) (sym s.1) (on u s.0 h)) (b.at s.0 ts s.2 l));
}

pub back-formed : {V W : Type 0} (f : Span → V → W) {L M : Language Token V} {same : V → V → Type 0} {same' : W → W → Type 0} {words : V → Words} {words' : W → Words}
    → ((s s' : Span) (u v : V) → same u v → same' (f s' u) (f s v)) → ((s : Span) (v : V) (ts : List Token) → L.Spells v ts → words' (f s v) ≡ words v)
    → Backs L M same words → Backs (formed f L) (formed f M) same' words'
back-formed f {same' = same'} {words' = words'} on wr b = record {
  at = λ w ts s l.
      back_as (ap words' s.1 ∙ wr (span_of ts) s.0 ts s.2)
      (back_formed_to f s.0 w (λ s' u h. subst (λ y. same' (f s' u) y) (sym s.1) (on (span_of ts) s' u s.0 h)) (b.at s.0 ts s.2 l));
}

pub back-maybe : {V : Type 0} {L M : Language Token V} {same : V → V → Type 0} {words : V → Words} → Backs L M same words
    → Backs (maybe L) (maybe M) (in_option same) (if_there [] words)
back-maybe {V} {L} {M} {same} {words} f = record { at = go }
  where
    go : (v : Option V) (ts : List Token) → (maybe L).Spells v ts → Lexed ts → Back (in_option same) (if_there [] words v) (maybe M) v
    go v ts (inl s) l = back_left v
        (back_as (ap (if_there [] words) s.1)
        (back_made_to Some s.0 v (λ u h. subst (λ o. in_option same (Some u) o) (sym s.1) h) (f.at s.0 ts s.2 l)))
    go v ts (inr s) l = subst (λ o. Back (in_option same) (if_there [] words o) (maybe M) o) (sym s.0) (record {
      kinds = [];
      proper = tt;
      written = refl;
      reads = λ us e. (None, tt, inr (refl, none_left us e));
    })
