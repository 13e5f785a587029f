-- Forms in which no token passes a test.
use Rattle.std.proofs.Common.{◌≡◌, ℕ, zero, suc, List, [], ◌∷◌, ◌++◌, Bool, true, false, inl, inr, sym, refl, ap, ◌∙◌, subst}
use Rattle.std.specs.Prelude.{Option, Some, None}
use Rattle.asm_grammar.specs.Language.{Language, word, nothing, ◌then◌, opens, ◌either◌, made, maybe, Follows, FollowsPartly, chain, Dangles, dangling, spanned}

-- no token of the list passes
abbrev pub Clear : {T : Type 0} → (T → Bool) → List T → Type 0
Clear test [] = Unit {0}
Clear test (t ∷ ts) = (test t ≡ false) × Clear test ts

-- no token of what L spells or begins passes
pub record Without {T V : Type 0} (test : T → Bool) (L : Language T V) : Type 0 where
  pub spells : (v : V) (a : List T) → L.Spells v a → Clear test a
  pub begins : (a : List T) → L.Begins a → Clear test a

-- ---- lists

module _ {T : Type 0} (test : T → Bool) where
  pub clear_append : (a b : List T) → Clear test a → Clear test b → Clear test (a ++ b)
  clear_append [] b c d = d
  clear_append (t ∷ a) b c d = (c.0, clear_append a b c.1 d)

  clear_by : (a b : List T) → a ≡ b → Clear test b → Clear test a
  clear_by a b e c = subst (λ z. Clear test z) (sym e) c

  clear_empty : (a : List T) → a ≡ [] → Clear test a
  clear_empty a e = clear_by a [] e tt

  clear_two : (ts a b : List T) → ts ≡ a ++ b → Clear test a → Clear test b → Clear test ts
  clear_two ts a b e c d = clear_by ts (a ++ b) e (clear_append a b c d)

  clear_more : (ts : List T) (t : T) (a : List T) → ts ≡ t ∷ a → test t ≡ false → Clear test a → Clear test ts
  clear_more ts t a e h c = clear_by ts (t ∷ a) e (h, c)

  -- a token that passes isn't in a clear front
  pub past_clear : (front : List T) (t : T) (list a b : List T) → test t ≡ true → Clear test a → front ++ t ∷ list ≡ a ++ b
      → (c : List T) × (front ≡ a ++ c) × (b ≡ c ++ t ∷ list)
  past_clear front t list [] b is c e = (front, refl, sym e)
  past_clear [] t list (u ∷ a) b is c e =
      let same : t ≡ u = cc e in
      let both : true ≡ false = sym is ∙ ap test same ∙ c.0 in
      absurd (cc both)
  past_clear (s ∷ front) t list (u ∷ a) b is c e =
      let same : s ≡ u = cc e in
      let tail : front ++ t ∷ list ≡ a ++ b = cc e in
      let more = past_clear front t list a b is c.1 tail in
      (more.0, cc (same, more.1), more.2)

  pub not_clear : (front : List T) (t : T) (list : List T) → test t ≡ true → Clear test (front ++ t ∷ list) → ⊥
  not_clear [] t list is c = let both : true ≡ false = sym is ∙ c.0 in absurd (cc both)
  not_clear (s ∷ front) t list is c = not_clear front t list is c.1

-- ---- forms

module _ {T : Type 0} (test : T → Bool) where
  pub without-word : (is : T → Bool) → ((t : T) → is t ≡ true → test t ≡ false) → Without test (word is)
  without-word is off = record { spells = λ v a s. clear_more test a v [] s.1 (off v s.0) tt; begins = go }
    where
      go : (a : List T) → (word is).Begins a → Clear test a
      go a (inl e) = clear_empty test a e
      go a (inr s) = clear_more test a s.0 [] s.2 (off s.0 s.1) tt

  pub without-nothing : {V : Type 0} (x : V) → Without test (nothing x)
  without-nothing x = record { spells = λ v a s. clear_empty test a s.1; begins = λ a e. clear_empty test a e }

  pub without-then : {V W : Type 0} {L : Language T V} {M : Language T W} → Without test L → Without test M → Without test (L then M)
  without-then {V} {W} {L} {M} l m = record {
    spells = λ v a s. clear_two test a s.0 s.1 s.2 (l.spells v.0 s.0 s.3) (m.spells v.1 s.1 s.4);
    begins = go;
  }
    where
      go : (a : List T) → (L then M).Begins a → Clear test a
      go a (inl bg) = l.begins a bg
      go a (inr s) = clear_two test a s.1 s.2 s.3 (l.spells s.0 s.1 s.4) (m.begins s.2 s.5)

  pub without-opens : {W : Type 0} (room : Bool) (is : T → Bool) {M : Language T W} → ((t : T) → is t ≡ true → test t ≡ false)
      → Without test M → Without test (opens room is M)
  without-opens {W} room is {M} off m = record {
    spells = λ v a s. clear_more test a v.0 s.0 s.1 (off v.0 s.2) (m.spells v.1 s.0 s.4);
    begins = go;
  }
    where
      go : (a : List T) → (opens room is M).Begins a → Clear test a
      go a (inl e) = clear_empty test a e
      go a (inr s) = clear_more test a s.0 s.1 s.2 (off s.0 s.3) (m.begins s.1 s.5)

  pub without-either : {V : Type 0} {L M : Language T V} → Without test L → Without test M → Without test (L either M)
  without-either {V} {L} {M} l m = record { spells = spells; begins = begins }
    where
      spells : (v : V) (a : List T) → (L either M).Spells v a → Clear test a
      spells v a (inl s) = l.spells v a s
      spells v a (inr s) = m.spells v a s

      begins : (a : List T) → (L either M).Begins a → Clear test a
      begins a (inl s) = l.begins a s
      begins a (inr s) = m.begins a s

  pub without-made : {V W : Type 0} (f : V → W) {L : Language T V} → Without test L → Without test (made f L)
  without-made f l = record { spells = λ w a s. l.spells s.0 a s.2; begins = l.begins }

  pub without-maybe : {V : Type 0} {L : Language T V} → Without test L → Without test (maybe L)
  without-maybe l = without-either (without-made Some l) (without-nothing None)

  pub without-spanned : {V W S : Type 0} (span : List T → S) (f : S → V → W) {L : Language T V} → Without test L
      → Without test (spanned span f L)
  without-spanned span f l = record { spells = λ w a s. l.spells s.0 a s.2; begins = l.begins }

-- ---- chains

module _ {T V O : Type 0} (test : T → Bool) (fits : V → Bool) (join : V → O → V) {S : Language T O} {L : Language T V}
    (s : Without test S) (l : Without test L) where
  clear_follows : (n : ℕ) (left v : V) (a : List T) → Follows fits join S n left v a → Clear test a
  clear_follows zero left v a h = clear_empty test a h.1
  clear_follows (suc n) left v a h =
      clear_two test a h.1 h.2 h.3 (s.spells h.0 h.1 h.5) (clear_follows n (join left h.0) v h.2 h.6)

  clear_partly : (n : ℕ) (left : V) (a : List T) → FollowsPartly fits join S n left a → Clear test a
  clear_partly zero left a (inl e) = clear_empty test a e
  clear_partly zero left a (inr h) = s.begins a h.1
  clear_partly (suc n) left a h =
      clear_two test a h.1 h.2 h.3 (s.spells h.0 h.1 h.5) (clear_partly n (join left h.0) h.2 h.6)

  clear_chain : (a : List T) → (chain fits join S L).Begins a → Clear test a
  clear_chain a (inl bg) = l.begins a bg
  clear_chain a (inr h) = clear_two test a h.2 h.3 h.4 (l.spells h.0 h.2 h.5) (clear_partly h.1 h.0 h.3 h.6)

  pub without-chain : Without test (chain fits join S L)
  without-chain = record {
    spells = λ v a h. clear_two test a h.2 h.3 h.4 (l.spells h.0 h.2 h.5) (clear_follows h.1 h.0 v h.3 h.6);
    begins = clear_chain;
  }

-- ---- a body, and what may follow it

module _ {T V W : Type 0} (test : T → Bool) (is_closed : V → Bool) {B : Language T V} {M : Language T W}
    (l : Without test B) (m : Without test M) where
  clear_dangles : (v : V) (w : Option W) (a : List T) → Dangles is_closed B M v w a → Clear test a
  clear_dangles v None a h = l.spells v a h
  clear_dangles v (Some w) a h = clear_two test a h.0 h.1 h.2 (l.spells v h.0 h.4) (m.spells w h.1 h.5)

  clear_dangling : (a : List T) → (dangling is_closed B M).Begins a → Clear test a
  clear_dangling a (inl bg) = l.begins a bg
  clear_dangling a (inr h) = clear_two test a h.1 h.2 h.3 (l.spells h.0 h.1 h.5) (m.begins h.2 h.6)

  pub without-dangling : Without test (dangling is_closed B M)
  without-dangling = record { spells = λ v a h. clear_dangles v.0 v.1 a h; begins = clear_dangling }
