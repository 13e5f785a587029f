-- What begins a formula is the front of one.
use Rattle.std.proofs.Common.{◌≡◌, ◌↔◌, ℕ, zero, suc, List, [], ◌∷◌, ◌++◌, Bool, true, inl, inr, sym, refl, ap, ◌∙◌, subst, append_assoc, append-nil}
use Rattle.asm_grammar.specs.Language.{Language, word, ◌then◌, ◌either◌, made, Follows, FollowsPartly, chain}
use Rattle.asm_formula.specs.declared.formula.Operator.{Operator}
use Rattle.asm_formula.specs.declared.formula.Operator.TheVariants.{Pipe, Both, Half, Cross}
use Rattle.asm_formula.specs.declared.formula.Formula.{Formula}
use Rattle.asm_formula.specs.declared.token.TokenKind.TheVariants.{Name, Joins, Opens, Closes}
use Rattle.asm_formula.specs.declared.token.Token.{Token}
use Rattle.asm_formula.specs.Tokens.{is_name, token_at}
use Rattle.asm_formula.specs.Grammar as g
use Rattle.asm_formula.specs.Grammar.{is_open, is_close, is_same, is_operator, named, between, second, join, any, formula, formula_within}
use Rattle.asm_formula.specs.Texts.{IsFrontOfFormula}
use Rattle.asm_formula.proofs.Exactness.{fronts_within}

-- the list goes on to one that spells a value
abbrev GoesOn : {T V : Type 0} → Language T V → List T → Type 0
GoesOn {T} {V} L a = (v : V) × (c : List T) × L.Spells v (a ++ c)

-- what L begins goes on in M, which has all that L spells, and spells something
record Ended {T V : Type 0} (L M : Language T V) : Type 0 where
  ends : (a : List T) → L.Begins a → GoesOn M a
  wider : (v : V) (a : List T) → L.Spells v a → M.Spells v a
  one : GoesOn M []

goes_word : {T : Type 0} (test : T → Bool) (t : T) (a : List T) → test t ≡ true → (word test).Begins a → GoesOn (word test) a
goes_word test t a e (inl f) = (t, t ∷ [], (e, ap (λ z. z ++ t ∷ []) f))
goes_word test t a e (inr s) = (s.0, [], (s.1, append-nil a ∙ s.2))

ended-word : {T : Type 0} (test : T → Bool) (t : T) → test t ≡ true → Ended (word test) (word test)
ended-word test t e = record { ends = λ a bg. goes_word test t a e bg; wider = λ v a s. s; one = (t, t ∷ [], (e, refl)) }

module _ {T V W : Type 0} {L L' : Language T V} {M M' : Language T W} (f : Ended L L') (k : Ended M M') where
  then_ends : (a : List T) → (L then M).Begins a → GoesOn (L' then M') a
  then_ends a (inl bg) =
      let s = f.ends a bg in
      let z = k.one in
      ((s.0, z.0), s.1 ++ z.1, (a ++ s.1, z.1, sym (append_assoc a s.1 z.1), s.2, z.2))
  then_ends a (inr s) =
      let z = k.ends s.2 s.5 in
      ((s.0, z.0), z.1, (s.1, s.2 ++ z.1, ap (λ x. x ++ z.1) s.3 ∙ append_assoc s.1 s.2 z.1, f.wider s.0 s.1 s.4, z.2))

  ended-then : Ended (L then M) (L' then M')
  ended-then = record {
    ends = then_ends;
    wider = λ v a s. (s.0, s.1, s.2, f.wider v.0 s.0 s.3, k.wider v.1 s.1 s.4);
    one = ((f.one.0, k.one.0), f.one.1 ++ k.one.1, (f.one.1, k.one.1, refl, f.one.2, k.one.2));
  }

module _ {T V : Type 0} {L L' M M' : Language T V} (f : Ended L L') (k : Ended M M') where
  either_ends : (a : List T) → (L either M).Begins a → GoesOn (L' either M') a
  either_ends a (inl bg) = let s = f.ends a bg in (s.0, s.1, inl s.2)
  either_ends a (inr bg) = let s = k.ends a bg in (s.0, s.1, inr s.2)

  either_wider : (v : V) (a : List T) → (L either M).Spells v a → (L' either M').Spells v a
  either_wider v a (inl s) = inl (f.wider v a s)
  either_wider v a (inr s) = inr (k.wider v a s)

  ended-either : Ended (L either M) (L' either M')
  ended-either = record { ends = either_ends; wider = either_wider; one = (f.one.0, f.one.1, inl f.one.2) }

ended-made : {T V W : Type 0} (h : V → W) {L M : Language T V} → Ended L M → Ended (made h L) (made h M)
ended-made h f = record {
  ends = λ a bg. let s = f.ends a bg in (h s.0, s.1, (s.0, refl, s.2));
  wider = λ w a s. (s.0, s.1, f.wider s.0 a s.2);
  one = (h f.one.0, f.one.1, (f.one.0, refl, f.one.2));
}

-- each left operand fits
module _ {T V O : Type 0} (fits : V → Bool) (join : V → O → V) {S S' : Language T O} (k : Ended S S') where
  follows_wider : (n : ℕ) (left v : V) (a : List T) → Follows fits join S n left v a → Follows fits join S' n left v a
  follows_wider zero left v a s = s
  follows_wider (suc n) left v a s = (s.0, s.1, s.2, s.3, s.4, k.wider s.0 s.1 s.5, follows_wider n (join left s.0) v s.2 s.6)

  -- steps that go on to whole ones
  abbrev StepsOn : V → List T → Type 0
  StepsOn left a = (v : V) × (m : ℕ) × (c : List T) × Follows fits join S' m left v (a ++ c)

  steps_end : (n : ℕ) (left : V) (a : List T) → FollowsPartly fits join S n left a → StepsOn left a
  steps_end zero left a (inl e) = (left, zero, [], (refl, append-nil a ∙ e))
  steps_end zero left a (inr s) =
      let z = k.ends a s.1 in
      (join left z.0, suc zero, z.1, (z.0, a ++ z.1, [], sym (append-nil (a ++ z.1)), s.0, z.2, (refl, refl)))
  steps_end (suc n) left a s =
      let z = steps_end n (join left s.0) s.2 s.6 in (
        z.0,
        suc z.1,
        z.2,
        (s.0, s.1, s.2 ++ z.2, ap (λ x. x ++ z.2) s.3 ∙ append_assoc s.1 s.2 z.2, s.4, k.wider s.0 s.1 s.5, z.3),
      )

  module _ {L L' : Language T V} (f : Ended L L') where
    chain_ends : (a : List T) → (chain fits join S L).Begins a → GoesOn (chain fits join S' L') a
    chain_ends a (inl bg) =
        let s = f.ends a bg in
        (s.0, s.1, (s.0, zero, a ++ s.1, [], sym (append-nil (a ++ s.1)), s.2, (refl, refl)))
    chain_ends a (inr s) =
        let z = steps_end s.1 s.0 s.3 s.6 in
        (z.0, z.2, (s.0, z.1, s.2, s.3 ++ z.2, ap (λ x. x ++ z.2) s.4 ∙ append_assoc s.2 s.3 z.2, f.wider s.0 s.2 s.5, z.3))

    ended-chain : Ended (chain fits join S L) (chain fits join S' L')
    ended-chain = record {
      ends = chain_ends;
      wider = λ v a s. (s.0, s.1, s.2, s.3, s.4, f.wider s.0 s.2 s.5, follows_wider s.1 s.0 v s.3 s.6);
      one = (f.one.0, f.one.1, (f.one.0, zero, f.one.1, [], sym (append-nil f.one.1), f.one.2, (refl, refl)));
    }

-- ---- formulas

same_operator : (op : Operator) → is_same op op ≡ true
same_operator Pipe = refl
same_operator Both = refl
same_operator Half = refl
same_operator Cross = refl

module _ {L M : Language Token Formula} (f : Ended L M) where
  ended_part : Ended (g.part L) (g.part M)
  ended_part =
      ended-either (ended-made named (ended-word is_name (token_at (Name []) 0) refl))
      (ended-made between (ended-then (ended-word is_open (token_at Opens 0) refl) (ended-then f (ended-word is_close (token_at Closes 0) refl))))

  ended_one : (op : Operator) → Ended (g.parts L op) (g.parts M op)
  ended_one op =
      ended-chain any (join op)
      (ended-made second (ended-then (ended-word (is_operator op) (token_at (Joins op) 0) (same_operator op)) ended_part)) ended_part

  form_ends : (a : List Token) → (g.formula_form L).Begins a → GoesOn (g.formula_form M) a
  form_ends a s = let z = (ended_one s.0).ends a s.1 in (z.0, z.1, (s.0, z.2))

  form_wider : (v : Formula) (a : List Token) → (g.formula_form L).Spells v a → (g.formula_form M).Spells v a
  form_wider v a s = (s.0, (ended_one s.0).wider v a s.1)

-- a name alone is a formula
one_name : (L : Language Token Formula) → GoesOn (g.formula_form L) []
one_name L =
    let t : Token = token_at (Name []) 0 in
    (named t, t ∷ [], (Pipe, (named t, zero, t ∷ [], [], refl, inl (t, refl, (refl, refl)), (refl, refl))))

ended_within : (n : ℕ) → Ended (formula_within n) (formula_within (suc n))
unfolding formula_within
ended_within zero = record {
  ends = λ a e. subst (λ (x : List Token). GoesOn (g.formula_form g.nowhere) x) (sym e) (one_name g.nowhere);
  wider = λ f a s. absurd s;
  one = one_name g.nowhere;
}
ended_within (suc n) = record {
  ends = form_ends (ended_within n);
  wider = form_wider (ended_within n);
  one = one_name (formula_within (suc n));
}

begins_front : (front : List Token) → formula.Begins front → IsFrontOfFormula front
begins_front front s = let z = (ended_within s.0).ends front s.1 in (z.0, z.1, (suc s.0, z.2))

front_begins : (front : List Token) → IsFrontOfFormula front → formula.Begins front
front_begins front s = let f = fronts_within s.2.0 in (s.2.0, f.front front s.1 (f.begins s.0 (front ++ s.1) s.2.1))

pub begins_is_front : (front : List Token) → formula.Begins front ↔ IsFrontOfFormula front
begins_is_front front = (begins_front front, front_begins front)
