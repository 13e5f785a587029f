-- The parser of formulas: by descent, with one token ahead.
use Rattle.std.specs.Prelude.{ℕ, zero, suc, false, List, [], ◌∷◌, length, Option, Some, None}
use Rattle.asm_grammar.specs.Parser.{Parser, Took, Refused, ◌>>=◌, expect, choose, mapped, both}
use Rattle.asm_grammar.specs.Parser.{climb}
use Rattle.asm_formula.specs.declared.formula.Operator.{Operator}
use Rattle.asm_formula.specs.declared.formula.Formula.{Formula}
use Rattle.asm_formula.specs.declared.token.TokenKind.{TokenKind}
use Rattle.asm_formula.specs.declared.token.TokenKind.TheVariants.{Name, Joins, Opens, Closes}
use Rattle.asm_formula.specs.declared.token.Token.{Token}
use Rattle.asm_formula.specs.Tokens.{is_name}
use Rattle.asm_formula.specs.Grammar as grammar
use Rattle.asm_formula.specs.Grammar.{is_open, is_close, is_operator, between, second, join, any}

abbrev pub kind_operator : TokenKind → Option Operator
kind_operator (Joins op) = Some op
kind_operator (Name name) = None
kind_operator Opens = None
kind_operator Closes = None

-- the operator that comes next, if one does
abbrev pub next_operator : List Token → Option Operator
next_operator [] = None
next_operator (t ∷ ts) = kind_operator t.kind

-- NAME
abbrev pub named : Parser Token Formula
named = mapped grammar.named (expect is_name)

-- `inner` reads the formulas in parentheses.
module _ (inner : Parser Token Formula) where
  -- "(" formula ")"
  abbrev pub enclosed : Parser Token Formula
  enclosed = mapped between (both (expect is_open) (both inner (expect is_close)))

  -- part
  unfoldable pub part : Parser Token Formula
  part = choose is_name named enclosed

  -- operator part
  abbrev pub operand : Operator → Parser Token Formula
  operand op = mapped second (both (expect (is_operator op)) part)

  -- {operator part} behind a left operand; there are no more than tokens left
  abbrev pub further : Operator → Formula → Parser Token Formula
  further op left = λ ts. climb any (join op) (is_operator op) (operand op) (length ts) left ts

  -- the same with the operator that comes next, if one does
  abbrev pub further_by : Option Operator → Formula → Parser Token Formula
  further_by None left = λ ts. Took left ts
  further_by (Some op) left = further op left

  abbrev pub formula_form : Parser Token Formula
  formula_form = part >>= (λ left ts. further_by (next_operator ts) left ts)

-- formulas in which fewer than so many parentheses are open at once
unfoldable pub formula : ℕ → Parser Token Formula
formula zero = λ ts. Refused false ts
formula (suc n) = formula_form (formula n)
