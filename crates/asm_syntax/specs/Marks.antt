-- What the grammar sees of a token.
use Rattle.std.specs.Prelude.{ℕ, Bool, true, false, ◌||◌, List, [], ◌∷◌}
use Rattle.std.specs.Str.{bytes_eq}
use Rattle.asm_syntax.specs.declared.token.Span.{Span}
use Rattle.asm_syntax.specs.declared.token.Token.{Token}
use Rattle.asm_syntax.specs.declared.token.TokenKind.{TokenKind}
use Rattle.asm_syntax.specs.declared.token.TokenKind.TheVariants.{Id, Var, Number, Chars, Keyword}
use Rattle.asm_syntax.specs.declared.token.TokenKind.TheVariants.{Refused, Symbol}

-- a quoted word, a symbol, or a kind of token of which the text doesn't matter
pub data Mark : Type 0 where
  keyword : List ℕ → Mark
  symbol : List ℕ → Mark
  id : Mark
  variable : Mark
  number : Mark
  chars : Mark
  refused : Mark

abbrev pub mark_of : TokenKind → Mark
mark_of (Id name) = id
mark_of (Var name) = variable
mark_of (Number n) = number
mark_of (Chars text) = chars
mark_of (Keyword word) = keyword word
mark_of (Refused word) = refused
mark_of (Symbol sign) = symbol sign

abbrev pub same : Mark → Mark → Bool
same (keyword v) (keyword w) = bytes_eq v w
same (symbol v) (symbol w) = bytes_eq v w
same id id = true
same variable variable = true
same number number = true
same chars chars = true
same refused refused = true
same _ _ = false

-- whether a token has this mark
abbrev pub is : Mark → Token → Bool
is mark t = same mark (mark_of t.kind)

-- whether a token has one of these marks
abbrev pub is_one_of : List Mark → Token → Bool
is_one_of [] t = false
is_one_of (mark ∷ marks) t = is mark t || is_one_of marks t

-- a token's text: of a variable without its `$`, of a string without its quotes, of a number none
abbrev pub kind_text : TokenKind → List ℕ
kind_text (Id name) = name
kind_text (Var name) = name
kind_text (Number n) = []
kind_text (Chars text) = text
kind_text (Keyword word) = word
kind_text (Refused word) = word
kind_text (Symbol sign) = sign

abbrev pub text_of : Token → List ℕ
text_of t = kind_text t.kind

-- ---- spans

abbrev pub last_of : Token → List Token → Token
last_of t [] = t
last_of t (u ∷ us) = last_of u us

-- from the first token to the last
abbrev pub span_of : List Token → Span
span_of [] = record { start = 0; end = 0 }
span_of (t ∷ ts) = record { start = t.span.start; end = (last_of t ts).span.end }

-- from the start of one to the end of another
abbrev pub up_to : Span → Span → Span
up_to first last = record { start = first.start; end = last.end }
