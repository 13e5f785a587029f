-- Forms that many lines of the grammar have. Words that are always there leave nothing in a form's
-- value.
use Rattle.std.specs.Prelude.{ℕ, zero, suc, Bool, true, false, ◌||◌, List, [], ◌∷◌}
use Rattle.std.specs.Prelude.{◌++◌, codes, Option, unwrap_or}
use Rattle.asm_grammar.specs.Language.{Language, word, ◌then◌, opens, ◌either◌, made, maybe}
use Rattle.asm_grammar.specs.Language.{chain, dangling, spanned}
use Rattle.asm_syntax.specs.declared.token.Span.{Span}
use Rattle.asm_syntax.specs.declared.token.Token.{Token}
use Rattle.asm_syntax.specs.Marks.{is, keyword, symbol, span_of}

-- what is allowed nowhere
abbrev pub nowhere : {V : Type 0} → Language Token V
nowhere = record { Spells = λ v ts. ⊥; Begins = λ ts. ⊥ }

-- whether one more construct may be open, where this many may
abbrev pub is_open : ℕ → Bool
is_open zero = false
is_open (suc n) = true

-- ---- words and symbols

-- a quoted word, and a quoted symbol
abbrev pub quoted : List ℕ → Language Token Token
quoted w = word (is (keyword w))

abbrev pub sign : List ℕ → Language Token Token
sign s = word (is (symbol s))

abbrev pub second : {A B : Type 0} → A × B → B
second p = p.1

-- a quoted word, and then L
abbrev pub after_word : {V : Type 0} → List ℕ → Language Token V → Language Token V
after_word w L = made second (quoted w then L)

-- a quoted symbol, and then L
abbrev pub after_sign : {V : Type 0} → List ℕ → Language Token V → Language Token V
after_sign s L = made second (sign s then L)

-- ---- constructs, which are open from their first token to their last

abbrev pub between : {V : Type 0} → Token × (V × Token) → V
between p = p.1.0

-- a word that opens a construct, and what the construct holds
abbrev pub opened : {V : Type 0} → Bool → List ℕ → Language Token V → Language Token V
opened is_open w L = made second (opens is_open (is (keyword w)) L)

-- the same with a word at its end
abbrev pub enclosed : {V : Type 0} → Bool → List ℕ → Language Token V → List ℕ → Language Token V
enclosed is_open w L end = made between (opens is_open (is (keyword w)) (L then quoted end))

-- L between two symbols
abbrev pub bracketed : {V : Type 0} → Bool → List ℕ → Language Token V → List ℕ → Language Token V
bracketed is_open s L end = made between (opens is_open (is (symbol s)) (L then sign end))

abbrev pub in_parentheses : {V : Type 0} → Bool → Language Token V → Language Token V
in_parentheses is_open L = bracketed is_open (codes "(") L (codes ")")

-- ---- one or more

abbrev pub one : {V : Type 0} → V → List V
one v = v ∷ []

abbrev pub one_more : {V : Type 0} → List V → V → List V
one_more vs v = vs ++ v ∷ []

abbrev pub any : {V : Type 0} → V → Bool
any v = true

-- one or more, in their order
abbrev pub several : {V : Type 0} → Language Token V → Language Token (List V)
several L = chain any one_more L (made one L)

abbrev pub or_none : {V : Type 0} → Option (List V) → List V
or_none o = unwrap_or o []

-- {x}
abbrev pub many : {V : Type 0} → Language Token V → Language Token (List V)
many L = made or_none (maybe (several L))

-- x {"," x}
abbrev pub listed : {V : Type 0} → Language Token V → Language Token (V × List V)
listed L = L then many (after_sign (codes ",") L)

-- what follows the first of a set: the other end of a range, or further ones
pub data Rest (V : Type 0) : Type 0 where
  To : V → Rest V
  And : List V → Rest V

-- `..` or `:`
abbrev pub is_range_sign : Token → Bool
is_range_sign t = is (symbol (codes "..")) t || is (symbol (codes ":")) t

-- x ((".." | ":") x | {"," x})
abbrev pub members : {V : Type 0} → Language Token V → Language Token (V × Option (Rest V))
members L = L then maybe (
    made To (made second (word is_range_sign then L))
    either made And (several (after_sign (codes ",") L)))

-- L, and then M or nothing; where L's value fails the test, nothing
abbrev pub followed : {V W : Type 0} → (V → Bool) → Language Token V → Language Token W
    → Language Token (V × Option W)
followed fits L M = dangling fits L M

-- ---- spans

-- what f makes of the span of all tokens and of what L spells
abbrev pub formed : {V W : Type 0} → (Span → V → W) → Language Token V → Language Token W
formed f L = spanned span_of f L
