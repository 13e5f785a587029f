-- The parser by descent, with one token ahead, of the forms that many lines of the grammar have.
use Rattle.std.specs.Prelude.{ℕ, Bool, false, ◌||◌, List, length, codes, Option}
use Rattle.asm_grammar.specs.Parser as p
use Rattle.asm_grammar.specs.Parser.{
  Parser,
  Refused,
  expect,
  choose,
  mapped,
  both,
  climb,
  chained,
  optional,
  measured,
}
use Rattle.asm_syntax.specs.declared.token.Span.{Span}
use Rattle.asm_syntax.specs.declared.token.Token.{Token}
use Rattle.asm_syntax.specs.Marks.{is, keyword, symbol, span_of}
use Rattle.asm_syntax.specs.Forms.{
  second,
  between,
  one,
  one_more,
  any,
  or_none,
  Rest,
  To,
  And,
  is_range_sign,
}

-- what stands nowhere
abbrev pub nowhere : {V : Type 0} → Parser Token V
nowhere = λ ts. Refused false ts

-- ---- words and symbols

abbrev pub quoted : List ℕ → Parser Token Token
quoted w = expect (is (keyword w))

abbrev pub sign : List ℕ → Parser Token Token
sign s = expect (is (symbol s))

abbrev pub after_word : {V : Type 0} → List ℕ → Parser Token V → Parser Token V
after_word w q = mapped second (both (quoted w) q)

abbrev pub after_sign : {V : Type 0} → List ℕ → Parser Token V → Parser Token V
after_sign s q = mapped second (both (sign s) q)

-- a quoted word, or nothing
abbrev pub maybe_quoted : List ℕ → Parser Token (Option Token)
maybe_quoted w = optional (is (keyword w)) (quoted w)

-- a quoted word and then x, or nothing
abbrev pub maybe_after_word : {V : Type 0} → List ℕ → Parser Token V → Parser Token (Option V)
maybe_after_word w q = optional (is (keyword w)) (after_word w q)

-- ---- constructs

abbrev pub opened : {V : Type 0} → Bool → List ℕ → Parser Token V → Parser Token V
opened is_open w q = mapped second (p.opened is_open (is (keyword w)) q)

abbrev pub enclosed : {V : Type 0} → Bool → List ℕ → Parser Token V → List ℕ → Parser Token V
enclosed is_open w q end = mapped between (p.opened is_open (is (keyword w)) (both q (quoted end)))

abbrev pub bracketed : {V : Type 0} → Bool → List ℕ → Parser Token V → List ℕ → Parser Token V
bracketed is_open s q end = mapped between (p.opened is_open (is (symbol s)) (both q (sign end)))

abbrev pub in_parentheses : {V : Type 0} → Bool → Parser Token V → Parser Token V
in_parentheses is_open q = bracketed is_open (codes "(") q (codes ")")

-- ---- one or more; each begins with a token that passes the test

abbrev pub several : {V : Type 0} → (Token → Bool) → Parser Token V → Parser Token (List V)
several starts q = chained any one_more starts q (mapped one q)

abbrev pub many : {V : Type 0} → (Token → Bool) → Parser Token V → Parser Token (List V)
many starts q = mapped or_none (optional starts (several starts q))

-- the values found, and each that is read after them; there are no more than tokens left
abbrev pub further : {V : Type 0} → (Token → Bool) → Parser Token V → List V → Parser Token (List V)
further starts q found = λ ts. climb any one_more starts q (length ts) found ts

-- ---- with commas between them

abbrev pub is_comma : Token → Bool
is_comma = is (symbol (codes ","))

-- "," x
abbrev pub after_comma : {V : Type 0} → Parser Token V → Parser Token V
after_comma q = after_sign (codes ",") q

-- "," x {"," x}
abbrev pub several_listed : {V : Type 0} → Parser Token V → Parser Token (List V)
several_listed q = several is_comma (after_comma q)

-- {"," x}
abbrev pub many_listed : {V : Type 0} → Parser Token V → Parser Token (List V)
many_listed q = many is_comma (after_comma q)

-- the values found, and each that is read after them
abbrev pub further_listed : {V : Type 0} → Parser Token V → List V → Parser Token (List V)
further_listed q found = further is_comma (after_comma q) found

-- x {"," x}
abbrev pub listed : {V : Type 0} → Parser Token V → Parser Token (V × List V)
listed q = both q (many_listed q)

-- ---- the items of a set

-- (".." | ":") x
abbrev pub after_range_sign : {V : Type 0} → Parser Token V → Parser Token V
after_range_sign q = mapped second (both (expect is_range_sign) q)

abbrev pub goes_on : Token → Bool
goes_on t = is_range_sign t || is (symbol (codes ",")) t

-- [(".." | ":") x | "," x {"," x}]
abbrev pub maybe_rest : {V : Type 0} → Parser Token V → Parser Token (Option (Rest V))
maybe_rest q = optional goes_on
    (choose is_range_sign (mapped To (after_range_sign q)) (mapped And (several_listed q)))

-- x ((".." | ":") x | {"," x})
abbrev pub members : {V : Type 0} → Parser Token V → Parser Token (V × Option (Rest V))
members q = both q (maybe_rest q)

-- ---- spans

abbrev pub formed : {V W : Type 0} → (Span → V → W) → Parser Token V → Parser Token W
formed f q = measured span_of f q
