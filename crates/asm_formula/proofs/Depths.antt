-- A list of tokens opens no more parentheses than it has tokens.
use Rattle.std.proofs.Common.{◌≡◌, ℕ, zero, suc, ◌+◌, ◌≤◌, List, [], ◌∷◌, ◌++◌, length, Bool, false, inl, inr, sym, refl, ap, ◌∙◌, subst, arith, length-append}
use Rattle.asm_grammar.specs.Language.{Language, word, ◌then◌, ◌either◌, made, Follows, FollowsPartly, chain}
use Rattle.asm_formula.specs.declared.formula.Operator.{Operator}
use Rattle.asm_formula.specs.declared.formula.Operator.TheVariants.{Pipe}
use Rattle.asm_formula.specs.declared.formula.Formula.{Formula}
use Rattle.asm_formula.specs.declared.token.Token.{Token}
use Rattle.asm_formula.specs.Tokens.{is_name}
use Rattle.asm_formula.specs.Grammar as g
use Rattle.asm_formula.specs.Grammar.{is_open, is_close, is_operator, named, between, second, join, any, formula_within}
use Rattle.asm_formula.proofs.Exactness.{complete_within}

-- what L spells and begins by at most n tokens, M does too
pub record Upto {T V : Type 0} (n : ℕ) (L M : Language T V) : Type 0 where
  pub spells : (v : V) (a : List T) → length a ≤ n → L.Spells v a → M.Spells v a
  pub begins : (a : List T) → length a ≤ n → L.Begins a → M.Begins a

upto-same : {T V : Type 0} (n : ℕ) (L : Language T V) → Upto n L L
upto-same n L = record { spells = λ v a h s. s; begins = λ a h s. s }

-- two parts are no longer than the whole
pub sizes : {T : Type 0} (n : ℕ) (a x y : List T) → length a ≤ n → a ≡ x ++ y → (length x ≤ n) × (length y ≤ n)
sizes n a x y h e =
    let sum : length a ≡ length x + length y = ap length e ∙ length-append x y in
    (omega arith, omega arith)

upto-then : {T V W : Type 0} (n : ℕ) {L L' : Language T V} {M M' : Language T W} → Upto n L L' → Upto n M M' → Upto n (L then M) (L' then M')
upto-then {T} {V} {W} n {L} {L'} {M} {M'} f k = record {
  spells = λ v a h s.
      let z = sizes n a s.0 s.1 h s.2 in
      (s.0, s.1, s.2, f.spells v.0 s.0 z.0 s.3, k.spells v.1 s.1 z.1 s.4);
  begins = go;
}
  where
    go : (a : List T) → length a ≤ n → (L then M).Begins a → (L' then M').Begins a
    go a h (inl bg) = inl (f.begins a h bg)
    go a h (inr s) = let z = sizes n a s.1 s.2 h s.3 in inr (s.0, s.1, s.2, s.3, f.spells s.0 s.1 z.0 s.4, k.begins s.2 z.1 s.5)

-- behind one token there is one less
upto-behind : {T W : Type 0} (n : ℕ) (test : T → Bool) {M M' : Language T W} → Upto n M M' → Upto (suc n) (word test then M) (word test then M')
upto-behind {T} {W} n test {M} {M'} k = record {
  spells = λ v a h s. (s.0, s.1, s.2, s.3, k.spells v.1 s.1 (shorter a v.0 s.0 s.1 h s.2 s.3.1) s.4);
  begins = go;
}
  where
    shorter : (a : List T) (t : T) (x y : List T) → length a ≤ suc n → a ≡ x ++ y → x ≡ t ∷ [] → length y ≤ n
    shorter a t x y h e f =
        let sum : length a ≡ length x + length y = ap length e ∙ length-append x y in
        let one : length x ≡ 1 = ap length f in
        omega arith

    go : (a : List T) → length a ≤ suc n → (word test then M).Begins a → (word test then M').Begins a
    go a h (inl bg) = inl bg
    go a h (inr s) = inr (s.0, s.1, s.2, s.3, s.4, k.begins s.2 (shorter a s.0 s.1 s.2 h s.3 s.4.1) s.5)

upto-either : {T V : Type 0} (n : ℕ) {L L' M M' : Language T V} → Upto n L L' → Upto n M M' → Upto n (L either M) (L' either M')
upto-either {T} {V} n {L} {L'} {M} {M'} f k = record { spells = spells; begins = begins }
  where
    spells : (v : V) (a : List T) → length a ≤ n → (L either M).Spells v a → (L' either M').Spells v a
    spells v a h (inl s) = inl (f.spells v a h s)
    spells v a h (inr s) = inr (k.spells v a h s)

    begins : (a : List T) → length a ≤ n → (L either M).Begins a → (L' either M').Begins a
    begins a h (inl s) = inl (f.begins a h s)
    begins a h (inr s) = inr (k.begins a h s)

upto-made : {T V W : Type 0} (n : ℕ) (f : V → W) {L M : Language T V} → Upto n L M → Upto n (made f L) (made f M)
upto-made n f k = record { spells = λ w a h s. (s.0, s.1, k.spells s.0 a h s.2); begins = k.begins }

module _ {T V O : Type 0} (n : ℕ) (fits : V → Bool) (join : V → O → V) {S S' : Language T O} (k : Upto n S S') where
  upto_follows : (m : ℕ) (left v : V) (a : List T) → length a ≤ n → Follows fits join S m left v a → Follows fits join S' m left v a
  upto_follows zero left v a h s = s
  upto_follows (suc m) left v a h s =
      let z = sizes n a s.1 s.2 h s.3 in
      (s.0, s.1, s.2, s.3, s.4, k.spells s.0 s.1 z.0 s.5, upto_follows m (join left s.0) v s.2 z.1 s.6)

  upto_partly : (m : ℕ) (left : V) (a : List T) → length a ≤ n → FollowsPartly fits join S m left a → FollowsPartly fits join S' m left a
  upto_partly zero left a h (inl e) = inl e
  upto_partly zero left a h (inr s) = inr (s.0, k.begins a h s.1)
  upto_partly (suc m) left a h s =
      let z = sizes n a s.1 s.2 h s.3 in
      (s.0, s.1, s.2, s.3, s.4, k.spells s.0 s.1 z.0 s.5, upto_partly m (join left s.0) s.2 z.1 s.6)

  module _ {L L' : Language T V} (f : Upto n L L') where
    chain_begins : (a : List T) → length a ≤ n → (chain fits join S L).Begins a → (chain fits join S' L').Begins a
    chain_begins a h (inl bg) = inl (f.begins a h bg)
    chain_begins a h (inr s) =
        let z = sizes n a s.2 s.3 h s.4 in
        inr (s.0, s.1, s.2, s.3, s.4, f.spells s.0 s.2 z.0 s.5, upto_partly s.1 s.0 s.3 z.1 s.6)

    chain_spells : (v : V) (a : List T) → length a ≤ n → (chain fits join S L).Spells v a → (chain fits join S' L').Spells v a
    chain_spells v a h s =
        let z = sizes n a s.2 s.3 h s.4 in
        (s.0, s.1, s.2, s.3, s.4, f.spells s.0 s.2 z.0 s.5, upto_follows s.1 s.0 v s.3 z.1 s.6)

    upto-chain : Upto n (chain fits join S L) (chain fits join S' L')
    upto-chain = record { spells = chain_spells; begins = chain_begins }

-- ---- formulas

module _ (n : ℕ) {L M : Language Token Formula} (k : Upto n L M) where
  upto_part : Upto (suc n) (g.part L) (g.part M)
  upto_part =
      upto-either (suc n) (upto-same (suc n) (made named (word is_name)))
      (upto-made (suc n) between (upto-behind n is_open (upto-then n k (upto-same n (word is_close)))))

  upto_one : (op : Operator) → Upto (suc n) (g.parts L op) (g.parts M op)
  upto_one op =
      upto-chain (suc n) any (join op)
      (upto-made (suc n) second (upto-then (suc n) (upto-same (suc n) (word (is_operator op))) upto_part)) upto_part

  upto_form : Upto (suc n) (g.formula_form L) (g.formula_form M)
  upto_form = record {
    spells = λ v a h s. (s.0, (upto_one s.0).spells v a h s.1);
    begins = λ a h s. (s.0, (upto_one s.0).begins a h s.1);
  }

pub empty_within : (n : ℕ) → (formula_within n).Begins []
unfolding formula_within
empty_within zero = refl
empty_within (suc n) = (Pipe, inl (inl (inl refl)))

none_spelled : (k : ℕ) (f : Formula) → (formula_within k).Spells f [] → ⊥
none_spelled k f s = (complete_within false k).nonempty refl f s

-- with no token left nothing is opened
upto_none : (k : ℕ) → Upto 0 (formula_within k) (formula_within 0)
upto_none k = record { spells = spells; begins = begins }
  where
    spells : (f : Formula) (a : List Token) → length a ≤ 0 → (formula_within k).Spells f a → (formula_within 0).Spells f a
    spells f [] h s = absurd (none_spelled k f s)
    spells f (t ∷ a) h s = absurd (omega arith)

    begins : (a : List Token) → length a ≤ 0 → (formula_within k).Begins a → (formula_within 0).Begins a
    begins [] h s = empty_within 0
    begins (t ∷ a) h s = absurd (omega arith)

only_empty : (n : ℕ) → Upto n (formula_within 0) (formula_within n)
unfolding formula_within
only_empty n = record {
  spells = λ f a h s. absurd s;
  begins = λ a h s. subst (λ (x : List Token). (formula_within n).Begins x) (sym s) (empty_within n);
}

-- whatever the limit, so many tokens open no more
pub upto_within : (k n : ℕ) → Upto n (formula_within k) (formula_within n)
unfolding formula_within
upto_within zero n = only_empty n
upto_within (suc k) zero = upto_none (suc k)
upto_within (suc k) (suc n) = upto_form n (upto_within k n)
