-- Which texts are formulas, and why others are none: what the reading of a text has to give.
use Rattle.std.specs.Prelude.{◌≡◌, ℕ, ◌<◌, ◌≤◌, ◌⊎◌, List, ◌∷◌, ◌++◌, length, count_by}
use Rattle.std.specs.Prelude.{Contains}
use Rattle.std.specs.Prelude.{Some, None}
use Rattle.asm_grammar.specs.Refusals.{IsSyntax}
use Rattle.asm_formula.specs.declared.formula.Formula.{Formula}
use Rattle.asm_formula.specs.declared.formula.FormulaRefusal.{FormulaRefusal}
use Rattle.asm_formula.specs.declared.formula.FormulaRefusal.TheVariants.{Syntax, TooMany}
use Rattle.asm_formula.specs.declared.formula.FormulaRefusal.TheVariants.{Repeated}
use Rattle.asm_formula.specs.declared.token.Token.{Token}
use Rattle.asm_formula.specs.Formulas.{names}
use Rattle.asm_formula.specs.Tokens.{Lexes, is_name}
use Rattle.asm_formula.specs.Grammar.{formula}
use Rattle.asm_formula.specs.Reading.{place}

-- ---- names

-- no name is there a second time
abbrev pub AreDistinct : List (List ℕ) → Type 0
AreDistinct names =
    (before after : List (List ℕ)) (name : List ℕ) → names ≡ before ++ name ∷ after
    → Contains before name → ⊥

-- the name is there a second time, and none is before it
pub record IsFirstRepeated (names : List (List ℕ)) (name : List ℕ) : Type 0 where
  pub before : List (List ℕ)
  pub after : List (List ℕ)
  pub split : names ≡ before ++ name ∷ after
  pub again : Contains before name
  pub first : AreDistinct before

-- ---- texts

-- these are all tokens of the text, and they keep the limits
pub record AreTokens (text : List ℕ) (tokens : List Token) : Type 0 where
  pub lexes : Lexes 0 text tokens None
  pub few : length tokens ≤ 64
  pub few_names : count_by is_name tokens ≤ 16

-- the text is this formula
pub record IsFormulaText (text : List ℕ) (f : Formula) : Type 0 where
  pub tokens : List Token
  pub are_tokens : AreTokens text tokens
  pub spells : formula.Spells f tokens
  pub distinct : AreDistinct (names f)

-- The text is no formula, and this is its first refusal: at the first byte that begins no token;
-- for its size; at the first token, or the end, that no formula has after the tokens before it; or
-- for the first name that is there a second time.
pub data IsRefusedText (text : List ℕ) : FormulaRefusal → Type 0 where
  no_token : {tokens : List Token} {at : ℕ}
      → Lexes 0 text tokens (Some at) → IsRefusedText text (Syntax at)
  too_many : {tokens : List Token}
      → Lexes 0 text tokens None → (64 < length tokens) ⊎ (16 < count_by is_name tokens)
      → IsRefusedText text TooMany
  no_formula : {tokens rest : List Token}
      → AreTokens text tokens → IsSyntax formula formula tokens rest
      → IsRefusedText text (Syntax (place (length text) rest))
  repeated : {tokens : List Token} (f : Formula) {name : List ℕ}
      → AreTokens text tokens → formula.Spells f tokens → IsFirstRepeated (names f) name
      → IsRefusedText text (Repeated name)

-- its names are few, and each is another
pub record HasFewNames (f : Formula) : Type 0 where
  pub few : length (names f) ≤ 16
  pub distinct : AreDistinct (names f)

-- ---- fronts

-- a formula begins with these tokens
abbrev pub IsFrontOfFormula : List Token → Type 0
IsFrontOfFormula front = (f : Formula) × (more : List Token) × formula.Spells f (front ++ more)
