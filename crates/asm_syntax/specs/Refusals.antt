-- The first refusal of a list of tokens that is read as a term or as a model.
use Rattle.std.specs.Prelude.{◌≡◌, ℕ, ◌≤◌, true, false, List, [], ◌∷◌, ◌++◌, length, codes}
use Rattle.asm_grammar.specs.Language.{Language}
use Rattle.asm_grammar.specs.Refusals.{IsSyntax, IsTooDeep}
use Rattle.asm_grammar.specs.Parser.{sees}
use Rattle.asm_syntax.specs.declared.token.Token.{Token}
use Rattle.asm_syntax.specs.declared.token.TokenKind.{TokenKind}
use Rattle.asm_syntax.specs.declared.token.TokenKind.TheVariants as kinds
use Rattle.asm_syntax.specs.Marks.{is, keyword, symbol, text_of}
use Rattle.asm_syntax.specs.Models.{Import, parts}
use Rattle.asm_syntax.specs.Grammar.{term, free_term, model, free_model, last_part, is_standard}

-- why a token, or the end, is refused
pub data Refusal : Type 0 where
  Syntax : Refusal
  -- a word that the language leaves out, or the last part of an import
  Unsupported : List ℕ → Refusal
  TooDeep : Refusal

-- ---- at a token, or at the end

-- of a token that nothing has there: a refused word is named
abbrev pub kind_refusal : TokenKind → Refusal
kind_refusal (kinds.Refused word) = Unsupported word
kind_refusal (kinds.Id name) = Syntax
kind_refusal (kinds.Var name) = Syntax
kind_refusal (kinds.Number n) = Syntax
kind_refusal (kinds.Chars text) = Syntax
kind_refusal (kinds.Keyword word) = Syntax
kind_refusal (kinds.Symbol sign) = Syntax

abbrev pub syntax_refusal : List Token → Refusal
syntax_refusal [] = Syntax
syntax_refusal (t ∷ rest) = kind_refusal t.kind

-- The list is refused where `rest` begins. A token that nothing has there is never too deep.
pub data IsRefusedAt {V : Type 0} (within free : Language Token V) (ts : List Token)
    : Refusal → List Token → Type 0 where
  syntax : {rest : List Token} → IsSyntax within free ts rest
      → IsRefusedAt within free ts (syntax_refusal rest) rest
  too_deep : {rest : List Token} → IsTooDeep within free ts rest
      → IsRefusedAt within free ts TooDeep rest

-- ---- of a term read alone

abbrev pub IsTermRefusal : List Token → Refusal → List Token → Type 0
IsTermRefusal = IsRefusedAt term free_term

-- ---- of a model

-- Where `rest` begins is the part list of an import, whole, which doesn't end in `StandardLibrary`
-- but in this part.
pub record IsForeign (ts rest : List Token) (name : List ℕ) : Type 0 where
  pub front : List Token
  pub word : Token
  pub list : List Token
  pub behind : List Token
  pub given : Import
  pub split : ts ≡ front ++ word ∷ rest
  pub imports : is (keyword (codes "import")) word ≡ true
  pub is_rest : rest ≡ list ++ behind
  pub begins : model.Begins (front ++ word ∷ list)
  pub lists : parts.Spells given list
  pub whole : sees (is (symbol (codes "/"))) behind ≡ false
  pub foreign : is_standard given ≡ false
  pub named : name ≡ text_of (last_part given)

pub data IsModelRefusedAt (ts : List Token) : Refusal → List Token → Type 0 where
  at_token : {why : Refusal} {rest : List Token} → IsRefusedAt model free_model ts why rest
      → IsModelRefusedAt ts why rest
  at_import : {name : List ℕ} {rest : List Token} → IsForeign ts rest name
      → IsModelRefusedAt ts (Unsupported name) rest

-- of all refusals the first in the text
pub record IsModelRefusal (ts : List Token) (why : Refusal) (rest : List Token) : Type 0 where
  pub refused : IsModelRefusedAt ts why rest
  pub first : (other : Refusal) (later : List Token) → IsModelRefusedAt ts other later
      → length later ≤ length rest

-- ---- offsets

-- the byte at which `rest` begins, in a text of this many bytes
abbrev pub offset_of : ℕ → List Token → ℕ
offset_of bytes [] = bytes
offset_of bytes (t ∷ rest) = t.span.start
