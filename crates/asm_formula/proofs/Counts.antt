-- A formula has as many names as its tokens.
use Rattle.std.proofs.Common.{◌≡◌, ℕ, zero, suc, ◌+◌, Bool, true, false, cond, List, [], ◌∷◌, ◌++◌, length, count_by, inl, inr, sym, refl, ap, ◌∙◌, arith, rules, length-append}
use Rattle.asm_grammar.specs.Language.{Language, Follows}
use Rattle.std.proofs.lemmas.List.Sums.{sum_by-append}
use Rattle.asm_formula.specs.declared.formula.Operator.{Operator}
use Rattle.asm_formula.specs.declared.formula.Formula.{Formula}
use Rattle.asm_formula.specs.declared.formula.Formula.TheVariants as formulas
use Rattle.asm_formula.specs.declared.token.TokenKind.{TokenKind}
use Rattle.asm_formula.specs.declared.token.TokenKind.TheVariants.{Name, Joins, Opens, Closes}
use Rattle.asm_formula.specs.declared.token.Token.{Token}
use Rattle.asm_formula.specs.Formulas.{names}
use Rattle.asm_formula.specs.Tokens.{is_name, is_name_kind}
use Rattle.asm_formula.specs.Grammar as g
use Rattle.asm_formula.specs.Grammar.{is_open, opens_kind, is_close, closes_kind, is_operator, joins_kind, kind_name, named, join, any, formula, formula_within}
use Rattle.asm_formula.proofs.Names.{name_steps, names-Join}

abbrev size : Formula → ℕ
size f = length (names f)

abbrev count : List Token → ℕ
count ts = count_by is_name ts

count-append : (a b : List Token) → count (a ++ b) ≡ count a + count b
count-append a b = sum_by-append (λ t. cond (is_name t) 1 0) a b

count_two : (ts a b : List Token) → ts ≡ a ++ b → count ts ≡ count a + count b
count_two ts a b e = ap count e ∙ count-append a b

-- ---- single tokens

count_name : (t : Token) → is_name t ≡ true → count (t ∷ []) ≡ 1
count_name t e = ap (λ (v : Bool). 0 + cond v 1 0) e

count_other : (t : Token) → is_name t ≡ false → count (t ∷ []) ≡ 0
count_other t e = ap (λ (v : Bool). 0 + cond v 1 0) e

open_other : (k : TokenKind) → opens_kind k ≡ true → is_name_kind k ≡ false
open_other Opens h = refl
open_other (Name name) h = absurd (cc h)
open_other (Joins op) h = absurd (cc h)
open_other Closes h = absurd (cc h)

close_other : (k : TokenKind) → closes_kind k ≡ true → is_name_kind k ≡ false
close_other Closes h = refl
close_other (Name name) h = absurd (cc h)
close_other (Joins op) h = absurd (cc h)
close_other Opens h = absurd (cc h)

operator_other : (op : Operator) (k : TokenKind) → joins_kind op k ≡ true → is_name_kind k ≡ false
operator_other op (Joins other) h = refl
operator_other op (Name name) h = absurd (cc h)
operator_other op Opens h = absurd (cc h)
operator_other op Closes h = absurd (cc h)

-- ---- formulas

names-Name : (name : List ℕ) → names (formulas.Name name) ≡ name ∷ []
names-Name name = search (rules, name_steps)

size_join : (op : Operator) (left right : Formula) → size (join op left right) ≡ size left + size right
size_join op left right = ap length (names-Join op left right) ∙ length-append (names left) (names right)

-- what spells a formula has as many names
abbrev IsCounted : Language Token Formula → Type 0
IsCounted L = (f : Formula) (ts : List Token) → L.Spells f ts → size f ≡ count ts

module _ (L : Language Token Formula) (c : IsCounted L) where
  part_counted : IsCounted (g.part L)
  part_counted f ts (inl s) =
      ap size s.1 ∙ ap length (names-Name (kind_name s.0.kind)) ∙ sym (ap count s.2.1 ∙ count_name s.0 s.2.0)
  part_counted f ts (inr s) =
      let p = s.0 in
      let w = s.2 in
      let v = w.4 in
      let opened : count w.0 ≡ 0 = ap count w.3.1 ∙ count_other p.0 (open_other p.0.kind w.3.0) in
      let closed : count v.1 ≡ 0 = ap count v.4.1 ∙ count_other p.1.1 (close_other p.1.1.kind v.4.0) in
      let inner : size p.1.0 ≡ count v.0 = c p.1.0 v.0 v.3 in
      let whole : count ts ≡ count w.0 + count w.1 = count_two ts w.0 w.1 w.2 in
      let rest : count w.1 ≡ count v.0 + count v.1 = count_two w.1 v.0 v.1 v.2 in
      let same : size f ≡ size p.1.0 = ap size s.1 in
      omega arith

  operand_counted : (op : Operator) → IsCounted (g.operand L op)
  operand_counted op f ts s =
      let p = s.0 in
      let w = s.2 in
      let sign : count w.0 ≡ 0 = ap count w.3.1 ∙ count_other p.0 (operator_other op p.0.kind w.3.0) in
      let whole : count ts ≡ count w.0 + count w.1 = count_two ts w.0 w.1 w.2 in
      let behind : size p.1 ≡ count w.1 = part_counted p.1 w.1 w.4 in
      let same : size f ≡ size p.1 = ap size s.1 in
      omega arith

  follows_counted : (op : Operator) (n : ℕ) (left f : Formula) (ts : List Token) → Follows any (join op) (g.operand L op) n left f ts → size f ≡ size left + count ts
  follows_counted op zero left f ts s =
      let same : size f ≡ size left = ap size s.0 in
      let none : count ts ≡ 0 = ap count s.1 in
      omega arith
  follows_counted op (suc n) left f ts s =
      let rest : size f ≡ size (join op left s.0) + count s.2 = follows_counted op n (join op left s.0) f s.2 s.6 in
      let one : size (join op left s.0) ≡ size left + size s.0 = size_join op left s.0 in
      let step : size s.0 ≡ count s.1 = operand_counted op s.0 s.1 s.5 in
      let whole : count ts ≡ count s.1 + count s.2 = count_two ts s.1 s.2 s.3 in
      omega arith

  form_counted : IsCounted (g.formula_form L)
  form_counted f ts (op, s) =
      let first : size s.0 ≡ count s.2 = part_counted s.0 s.2 s.5 in
      let rest : size f ≡ size s.0 + count s.3 = follows_counted op s.1 s.0 f s.3 s.6 in
      let whole : count ts ≡ count s.2 + count s.3 = count_two ts s.2 s.3 s.4 in
      omega arith

within_counted : (n : ℕ) → IsCounted (formula_within n)
unfolding formula_within
within_counted zero = λ f ts s. absurd s
within_counted (suc n) = form_counted (formula_within n) (within_counted n)

pub names_counted : (f : Formula) (ts : List Token) → formula.Spells f ts → length (names f) ≡ count_by is_name ts
names_counted f ts s = within_counted s.0 f ts s.1
