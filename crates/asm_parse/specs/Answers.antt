-- What a parse of a text answers.
use Rattle.std.specs.Prelude.{◌≡◌, ℕ, ◌≤◌, List, Result, Ok, Err, ⊤, length}
use Rattle.asm_syntax.specs.declared.token.Token.{Token}
use Rattle.asm_syntax.specs.declared.tree.TermTree.{TermTree}
use Rattle.asm_syntax.specs.declared.tree.ModelTree.{ModelTree}
use Rattle.asm_syntax.specs.Refusals as refusals
use Rattle.asm_syntax.specs.Texts.{most_bytes, IsModel, IsTerm, IsRefusedModel, IsRefusedTerm}
use Rattle.asm_lex.specs.Answers.{IsFirst}
use Rattle.asm_lex.specs.Spans as lexer
use Rattle.asm_parse.specs.declared.refusal.ParseRefusal.{ParseRefusal}
use Rattle.asm_parse.specs.declared.refusal.ParseRefusal.TheVariants.{Lex, Syntax, Unsupported}
use Rattle.asm_parse.specs.declared.refusal.ParseRefusal.TheVariants.{TooDeep, NoMemory}

-- ---- of answers

-- one value at most is so
abbrev pub AtMostOne : {X : Type 0} → (X → Type 0) → Type 0
AtMostOne IsSo = (one other : _) → IsSo one → IsSo other → one ≡ other

-- where some value is the one, no value is the other
abbrev pub AreApart : {X Y : Type 0} → (X → Type 0) → (Y → Type 0) → Type 0
AreApart IsOne IsOther = (x : _) (y : _) → IsOne x → IsOther y → ⊥

-- ---- of a model's text

-- This is the first refusal of the text, and its place: the lexer's, or else that of its tokens.
abbrev pub IsModelCause : List ℕ → ParseRefusal → Type 0
IsModelCause text (Lex why) = (tokens : List Token) × IsFirst text tokens why
IsModelCause text (Syntax at) = IsRefusedModel text refusals.Syntax at
IsModelCause text (Unsupported word at) = IsRefusedModel text (refusals.Unsupported word) at
IsModelCause text (TooDeep at) = IsRefusedModel text refusals.TooDeep at
IsModelCause text NoMemory = ⊥

-- ---- of a term's text

abbrev pub IsTermCause : List ℕ → ParseRefusal → Type 0
IsTermCause text (Lex why) = (tokens : List Token) × IsFirst text tokens why
IsTermCause text (Syntax at) = IsRefusedTerm text refusals.Syntax at
IsTermCause text (Unsupported word at) = IsRefusedTerm text (refusals.Unsupported word) at
IsTermCause text (TooDeep at) = IsRefusedTerm text refusals.TooDeep at
IsTermCause text NoMemory = ⊥

-- ---- of any text

-- the tree was read, unless memory ran out
abbrev pub IsRead : {Tree : Type 0} → Tree → Result Tree ParseRefusal → Type 0
IsRead tree (Ok found) = found ≡ tree
IsRead tree (Err NoMemory) = ⊤
IsRead tree (Err (Lex why)) = ⊥
IsRead tree (Err (Syntax at)) = ⊥
IsRead tree (Err (Unsupported word at)) = ⊥
IsRead tree (Err (TooDeep at)) = ⊥

-- the refusal was answered, unless memory ran out
abbrev pub IsTold : {Tree : Type 0} → ParseRefusal → Result Tree ParseRefusal → Type 0
IsTold why (Err NoMemory) = ⊤
IsTold why result = result ≡ Err why

-- the byte is in the text, or its end
abbrev pub IsOffset : List ℕ → ℕ → Type 0
IsOffset text at = (at ≤ length text) × (length text ≤ most_bytes)

abbrev pub IsWithin : List ℕ → ParseRefusal → Type 0
IsWithin text (Lex why) = lexer.IsWithin text why
IsWithin text (Syntax at) = IsOffset text at
IsWithin text (Unsupported word at) = IsOffset text at
IsWithin text (TooDeep at) = IsOffset text at
IsWithin text NoMemory = ⊤
