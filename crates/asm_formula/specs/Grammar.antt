-- The grammar of formulas.
use Rattle.std.specs.Prelude.{◌≡◌, ℕ, zero, suc, Bool, true, false, List, []}
use Rattle.asm_grammar.specs.Language.{Language, word, ◌then◌, ◌either◌, made, chain}
use Rattle.asm_grammar.specs.Refusals.{unlimited}
use Rattle.asm_formula.specs.declared.formula.Operator.{Operator}
use Rattle.asm_formula.specs.declared.formula.Operator.TheVariants.{Pipe, Both, Half, Cross}
use Rattle.asm_formula.specs.declared.formula.Formula.{Formula}
use Rattle.asm_formula.specs.declared.formula.Formula.TheVariants as formulas
use Rattle.asm_formula.specs.declared.token.TokenKind.{TokenKind}
use Rattle.asm_formula.specs.declared.token.TokenKind.TheVariants.{Name, Joins, Opens, Closes}
use Rattle.asm_formula.specs.declared.token.Token.{Token}
use Rattle.asm_formula.specs.Tokens.{is_name}

-- ---- single tokens

abbrev pub opens_kind : TokenKind → Bool
opens_kind Opens = true
opens_kind (Name name) = false
opens_kind (Joins op) = false
opens_kind Closes = false

-- `(`
abbrev pub is_open : Token → Bool
is_open t = opens_kind t.kind

abbrev pub closes_kind : TokenKind → Bool
closes_kind Closes = true
closes_kind (Name name) = false
closes_kind (Joins op) = false
closes_kind Opens = false

-- `)`
abbrev pub is_close : Token → Bool
is_close t = closes_kind t.kind

abbrev pub is_same : Operator → Operator → Bool
is_same Pipe Pipe = true
is_same Both Both = true
is_same Half Half = true
is_same Cross Cross = true
is_same _ _ = false

abbrev pub joins_kind : Operator → TokenKind → Bool
joins_kind op (Joins other) = is_same op other
joins_kind op (Name name) = false
joins_kind op Opens = false
joins_kind op Closes = false

-- this operator
abbrev pub is_operator : Operator → Token → Bool
is_operator op t = joins_kind op t.kind

-- ---- values

abbrev pub kind_name : TokenKind → List ℕ
kind_name (Name name) = name
kind_name (Joins op) = []
kind_name Opens = []
kind_name Closes = []

abbrev pub named : Token → Formula
named t = formulas.Name (kind_name t.kind)

-- what is between parentheses
abbrev pub between : Token × (Formula × Token) → Formula
between p = p.1.0

-- what is behind an operator
abbrev pub second : Token × Formula → Formula
second p = p.1

abbrev pub join : Operator → Formula → Formula → Formula
join op left right = formulas.Join op left right

-- any left operand
abbrev pub any : Formula → Bool
any f = true

-- ---- the grammar

-- what L o spells and begins, for some operator o
abbrev pub for_one : {V : Type 0} → (Operator → Language Token V) → Language Token V
for_one {V} L = record {
  Spells = λ v ts. (o : Operator) × (L o).Spells v ts;
  Begins = λ ts. (o : Operator) × (L o).Begins ts;
}

-- `inner` are the formulas in parentheses.
module _ (inner : Language Token Formula) where
  -- "(" formula ")"
  abbrev pub enclosed : Language Token Formula
  enclosed = made between (word is_open then (inner then word is_close))

  -- part = NAME | "(" formula ")"
  abbrev pub part : Language Token Formula
  part = made named (word is_name) either enclosed

  -- operator part
  abbrev pub operand : Operator → Language Token Formula
  operand op = made second (word (is_operator op) then part)

  -- part {operator part}, grouped to the left
  abbrev pub parts : Operator → Language Token Formula
  parts op = chain any (join op) (operand op) part

  -- formula = part {operator part}, with one and the same operator
  abbrev pub formula_form : Language Token Formula
  formula_form = for_one parts

-- what begins with nothing, and is never whole
abbrev pub nowhere : Language Token Formula
nowhere = record { Spells = λ f ts. ⊥; Begins = λ ts. ts ≡ [] }

-- formulas in which fewer than so many parentheses are open at once
unfoldable pub formula_within : ℕ → Language Token Formula
formula_within zero = nowhere
formula_within (suc n) = formula_form (formula_within n)

-- formulas
abbrev pub formula : Language Token Formula
formula = unlimited formula_within
