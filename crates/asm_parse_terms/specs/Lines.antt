-- The operators of the lines, and their steps.
use Rattle.std.specs.Prelude.{ℕ, Bool, List, length, codes}
use Rattle.asm_grammar.specs.Parser as p
use Rattle.asm_grammar.specs.Parser.{Parser, climb, enter, mapped, optional, guard, and_then, ◌>>=◌}
use denote.Ref.{Bor}
use Rattle.asm_syntax.specs.declared.token.Token.{Token}
use Rattle.asm_syntax.specs.declared.tree.TermTree.{TermTree}
use Rattle.asm_syntax.specs.Forms.{is_open}
use Rattle.asm_syntax.specs.Marks.{is, is_one_of, keyword}
use Rattle.asm_syntax.specs.Heights.{fits}
use Rattle.asm_syntax.specs.Terms.{relations, joined, joined_once}
use Rattle.asm_syntax.specs.Terms as t
use Rattle.asm_parse_theory.specs.Terms.{
  inside,
  line_form,
  is_product_sign,
  is_sum_sign,
  is_or_word,
}
use Rattle.asm_parse_parts.specs.declared.line.Line.{Line}
use Rattle.asm_parse_parts.specs.declared.line.Line.TheVariants as lines
use Rattle.asm_parse_parts.specs.Lines.{line_of}
use Rattle.asm_parse_terms.specs.declared.operators.Operators.{Operators}
use Rattle.asm_parse_terms.specs.declared.operators.Operators.TheVariants as operators

-- a line of terms in which at most n constructs are open at once
abbrev pub line_at : ℕ → t.Line → Parser Token TermTree
line_at n which = line_form (is_open n) (inside n) which

-- ---- operators

-- the tokens that are these operators
abbrev pub is_operator : Operators → Token → Bool
is_operator operators.Product = is_product_sign
is_operator operators.Sum = is_sum_sign
is_operator operators.Relation = is_one_of relations
is_operator operators.And = is (keyword (codes "and"))
is_operator operators.Or = is_or_word
is_operator operators.Implies = is (keyword (codes "implies"))
is_operator operators.Iff = is (keyword (codes "iff"))

-- the line of their right operands
abbrev pub right_of : Operators → Line
right_of operators.Product = lines.Sign
right_of operators.Sum = lines.Prod
right_of operators.Relation = lines.Sum
right_of operators.And = lines.Neg
right_of operators.Or = lines.And
right_of operators.Implies = lines.Imp
right_of operators.Iff = lines.Imp

-- ---- steps where at most n constructs are open at once

-- an operator, which opens a construct
abbrev pub enter_one : ℕ → Operators → Parser Token Token
enter_one n of = enter (is_open n) (is_operator of)

-- an operator, and its right operand
abbrev pub step : ℕ → Operators → Parser Token (Token × TermTree)
step n of = p.opened (is_open n) (is_operator of) ((inside n).line (line_of (right_of of)))

-- at most one step after a left operand
abbrev pub maybe_step : ℕ → Operators → TermTree → Parser Token TermTree
maybe_step n of left =
    mapped joined_once (mapped (λ o. (left, o))
    (optional (is_operator of) (guard (fits left) >>= (λ done. step n of))))

-- each step after a left operand; there are no more than tokens left
abbrev pub more_steps : ℕ → Operators → TermTree → Parser Token TermTree
more_steps n of left = λ ts. climb fits joined (is_operator of) (step n of) (length ts) left ts

-- a token as it is lent, and a term
abbrev pub pair_of : Bor Token × TermTree → Token × TermTree
pair_of (op, right) = (op.now, right)
