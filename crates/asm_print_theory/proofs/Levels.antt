-- The lines of terms by their tightness: what is on a tight line is on each looser one.
use Rattle.std.proofs.Common.{◌≡◌, ℕ, zero, suc, ◌+◌, ◌-◌, Bool, true, false, List, [], ◌++◌, inr, sym, refl, ap, ◌∙◌, subst, append_assoc, append-nil, arith}
use Rattle.std.proofs.lemmas.Bool.Decides.{nat_tests}
use Rattle.std.specs.Prelude.{nat_lt, None}
use Rattle.asm_grammar.specs.Language.{Language, Follows, chain}
use Rattle.asm_syntax.specs.declared.token.Token.{Token}
use Rattle.asm_syntax.specs.declared.tree.TermTree.{TermTree}
use Rattle.asm_syntax.specs.Terms.{Line, term, imp, and, neg, sum, prod, sign, quantifier, Forms, prim_form, sign_form, prod_form, sum_form, rel_form, neg_form, and_form, or_form, imp_form, term_form}

-- the tightness of a line
abbrev pub tight : Line → ℕ
tight term = 0
tight imp = 1
tight and = 3
tight neg = 4
tight sum = 6
tight prod = 7
tight sign = 8
tight quantifier = 9

abbrev plus : ℕ → ℕ → ℕ
plus zero n = n
plus (suc k) n = suc (plus k n)

plus_is : (k n : ℕ) → plus k n ≡ k + n
plus_is zero n = omega arith
plus_is (suc k) n = let e : plus k n ≡ k + n = plus_is k n in omega arith

module _ (fits : TermTree → Bool) (is_open : Bool) (inner : Forms) where
  abbrev from_sign : ℕ → Language Token TermTree
  from_sign zero = sign_form fits is_open inner
  from_sign (suc n) = prim_form is_open inner

  abbrev from_sum : ℕ → Language Token TermTree
  from_sum zero = sum_form fits is_open inner
  from_sum (suc zero) = prod_form fits is_open inner
  from_sum (suc (suc n)) = from_sign n

  abbrev from_and : ℕ → Language Token TermTree
  from_and zero = and_form fits is_open inner
  from_and (suc zero) = neg_form fits is_open inner
  from_and (suc (suc zero)) = rel_form fits is_open inner
  from_and (suc (suc (suc n))) = from_sum n

  -- the line of this tightness
  abbrev pub level : ℕ → Language Token TermTree
  level zero = term_form fits is_open inner
  level (suc zero) = imp_form fits is_open inner
  level (suc (suc zero)) = or_form fits is_open inner
  level (suc (suc (suc n))) = from_and n

  -- what is on a line of this tightness
  abbrev On : ℕ → Type 0
  On n = (t : TermTree) (ts : List Token) → (level (suc n)).Spells t ts → (level n).Spells t ts

  down_sign : (n : ℕ) → On (suc (suc (suc (suc (suc (suc (suc (suc n))))))))
  down_sign zero t ts s = inr s
  down_sign (suc n) t ts s = s

  down_sum : (n : ℕ) → On (suc (suc (suc (suc (suc (suc n))))))
  down_sum zero t ts s = (t, 0, ts, [], sym (append-nil ts), s, (refl, refl))
  down_sum (suc zero) t ts s = (t, 0, ts, [], sym (append-nil ts), s, (refl, refl))
  down_sum (suc (suc n)) t ts s = down_sign n t ts s

  down_and : (n : ℕ) → On (suc (suc (suc n)))
  down_and zero t ts s = (t, 0, ts, [], sym (append-nil ts), s, (refl, refl))
  down_and (suc zero) t ts s = inr s
  down_and (suc (suc zero)) t ts s = ((t, None), refl, s)
  down_and (suc (suc (suc n))) t ts s = down_sum n t ts s

  down : (n : ℕ) → On n
  down zero t ts s = (t, 0, ts, [], sym (append-nil ts), s, (refl, refl))
  down (suc zero) t ts s = ((t, None), refl, s)
  down (suc (suc zero)) t ts s = (t, 0, ts, [], sym (append-nil ts), s, (refl, refl))
  down (suc (suc (suc n))) t ts s = down_and n t ts s

  downs : (k n : ℕ) (t : TermTree) (ts : List Token) → (level (plus k n)).Spells t ts → (level n).Spells t ts
  downs zero n t ts s = s
  downs (suc k) n t ts s = downs k n t ts (down (plus k n) t ts s)

  -- from a line to one that is no tighter
  pub loosened : (m n : ℕ) → nat_lt m n ≡ false → (t : TermTree) (ts : List Token) → (level m).Spells t ts → (level n).Spells t ts
  loosened m n h t ts s =
      let e : m ≡ plus (m - n) n = sum m n h ∙ sym (plus_is (m - n) n) in downs (m - n) n t ts (subst (λ (k : ℕ). (level k).Spells t ts) e s)
    where
      sum : (m n : ℕ) → nat_lt m n ≡ false → m ≡ (m - n) + n
      sum m n h = grind (arith, nat_tests)

  -- a primary is on each line
  pub prim_on : (n : ℕ) (t : TermTree) (ts : List Token) → (prim_form is_open inner).Spells t ts → (level n).Spells t ts
  prim_on n t ts s = downs 9 n t ts s

-- one more step at the end of a chain
pub one_step : {V O : Type 0} (fits : V → Bool) (join : V → O → V) (S : Language Token O) (n : ℕ) (left v : V) (a b : List Token) (o : O)
    → Follows fits join S n left v a → fits v ≡ true → S.Spells o b → (m : ℕ) × Follows fits join S m left (join v o) (a ++ b)
one_step fits join S zero left v a b o h f s =
    (1, (o, b, [], ap (λ x. x ++ b) h.1 ∙ sym (append-nil b), subst (λ x. fits x ≡ true) h.0 f, s, (ap (λ x. join x o) h.0, refl)))
one_step fits join S (suc n) left v a b o h f s =
    let more = one_step fits join S n (join left h.0) v h.2 b o h.6 f s in
    (suc more.0, (h.0, h.1, h.2 ++ b, ap (λ x. x ++ b) h.3 ∙ append_assoc h.1 h.2 b, h.4, h.5, more.1))

pub chain_more : {V O : Type 0} (fits : V → Bool) (join : V → O → V) (S : Language Token O) (first : Language Token V) (left : V) (a b : List Token) (o : O)
    → (chain fits join S first).Spells left a → fits left ≡ true → S.Spells o b → (chain fits join S first).Spells (join left o) (a ++ b)
chain_more fits join S first left a b o s f h =
    let more = one_step fits join S s.1 s.0 left s.3 b o s.6 f h in
    (s.0, more.0, s.2, s.3 ++ b, ap (λ x. x ++ b) s.4 ∙ append_assoc s.2 s.3 b, s.5, more.1)
