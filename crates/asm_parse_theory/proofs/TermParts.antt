-- The marks with which the lines of terms begin and go on, and what is known of what stands one construct deeper.
use Rattle.std.proofs.Common.{◌≡◌, List, [], ◌∷◌, ◌++◌, Bool, true, false, codes}
use Rattle.asm_grammar.proofs.Exact.{Sound, Complete}
use Rattle.asm_grammar.proofs.Basic.{nowhere}
use Rattle.asm_grammar.proofs.Fronts.{Fronts}
use Rattle.asm_grammar.proofs.Wider.{Wider}
use Rattle.asm_syntax.specs.declared.token.Token.{Token}
use Rattle.asm_syntax.specs.Marks.{Mark, keyword, symbol, variable, is}
use Rattle.asm_syntax.specs.Terms as g
use Rattle.asm_syntax.specs.Terms.{Line, Forms, relations}
use Rattle.asm_parse_theory.specs.Firsts.{among, first_sign, first_term, first_quantifier, after_term}
use Rattle.asm_parse_theory.specs.Terms.{Readers}

-- ---- marks

abbrev pub products : List Mark
products = symbol (codes "*") ∷ keyword (codes "div") ∷ keyword (codes "mod") ∷ []

abbrev pub sums : List Mark
sums = symbol (codes "+") ∷ symbol (codes "-") ∷ []

abbrev pub ors : List Mark
ors = keyword (codes "or") ∷ keyword (codes "xor") ∷ []

abbrev pub after_sign : List Mark
after_sign = symbol (codes "(") ∷ []

abbrev pub after_prod : List Mark
after_prod = products ++ after_sign

abbrev pub after_sum : List Mark
after_sum = sums ++ after_prod

abbrev pub after_rel : List Mark
after_rel = relations ++ after_sum

abbrev pub after_and : List Mark
after_and = keyword (codes "and") ∷ after_rel

abbrev pub after_or : List Mark
after_or = ors ++ after_and

abbrev pub after_imp : List Mark
after_imp = keyword (codes "implies") ∷ after_or

-- the marks with which a line begins
abbrev pub first : Line → List Mark
first g.term = first_term
first g.imp = first_term
first g.and = first_term
first g.neg = first_term
first g.sum = first_sign
first g.prod = first_sign
first g.sign = first_sign
first g.quantifier = first_quantifier

-- the marks that may go on after a line
abbrev pub after : Line → List Mark
after g.term = after_term
after g.imp = after_imp
after g.and = after_and
after g.neg = after_rel
after g.sum = after_sum
after g.prod = after_prod
after g.sign = after_sign
after g.quantifier = after_term

-- ---- what stands one construct deeper

-- what is read is spelled; M has room for one more than L
pub record SoundParts (inner : Readers) (L M : Forms) : Type 0 where
  pub line : (l : Line) → Sound (inner.line l) (L.line l) (M.line l)
  pub ranges : Sound inner.ranges L.ranges M.ranges
  pub binds : Sound inner.binds L.binds M.binds
  pub starts : (l : Line) (t : Token) → among (first l) t ≡ true → (M.line l).Begins (t ∷ [])
  pub starts_ranges : (t : Token) → is variable t ≡ true → M.ranges.Begins (t ∷ [])
  pub starts_binds : (t : Token) → is (symbol (codes "(")) t ≡ true → M.binds.Begins (t ∷ [])

-- no token is a partial spelling
pub record EmptyParts (L : Forms) : Type 0 where
  pub line : (l : Line) → (L.line l).Begins []
  pub ranges : L.ranges.Begins []
  pub binds : L.binds.Begins []

-- what is spelled is read
pub record CompleteParts (X : Bool) (inner : Readers) (L : Forms) : Type 0 where
  pub line : (l : Line) → Complete X (inner.line l) (L.line l) (among (first l)) (λ v. among (after l)) false
  pub ranges : Complete X inner.ranges L.ranges (is variable) (λ v. is (symbol (codes ","))) false
  pub binds : Complete X inner.binds L.binds (is (symbol (codes "("))) nowhere false

-- fronts of partial spellings are partial spellings
pub record FrontsParts (L : Forms) : Type 0 where
  pub line : (l : Line) → Fronts (L.line l)
  pub ranges : Fronts L.ranges
  pub binds : Fronts L.binds

-- the second language has all of the first
pub record WiderParts (L M : Forms) : Type 0 where
  pub line : (l : Line) → Wider (L.line l) (M.line l)
  pub ranges : Wider L.ranges M.ranges
  pub binds : Wider L.binds M.binds
