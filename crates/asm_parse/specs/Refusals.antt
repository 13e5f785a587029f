-- The refusal of a text for that of its lexer or of its tokens.
use Rattle.std.specs.Prelude.{◌≡◌, ℕ, List, [], ◌∷◌, ⊤}
use Rattle.asm_syntax.specs.declared.token.Token.{Token}
use Rattle.asm_syntax.specs.Marks.{last_of, text_of}
use Rattle.asm_syntax.specs.Refusals as refusals
use Rattle.asm_syntax.specs.Refusals.{Refusal, kind_refusal, syntax_refusal, offset_of}
use Rattle.asm_lex.specs.declared.LexRefusal.{LexRefusal}
use Rattle.asm_lex.specs.declared.LexRefusal.TheVariants as lexer
use Rattle.asm_parse_cursor.specs.declared.refusal.GrammarRefusal.{GrammarRefusal}
use Rattle.asm_parse_cursor.specs.declared.refusal.GrammarRefusal.TheVariants as grammar
use Rattle.asm_parse.specs.declared.foreign.Foreign.{Foreign}
use Rattle.asm_parse.specs.declared.refusal.ParseRefusal.{ParseRefusal}
use Rattle.asm_parse.specs.declared.refusal.ParseRefusal.TheVariants.{Lex, Syntax, Unsupported}
use Rattle.asm_parse.specs.declared.refusal.ParseRefusal.TheVariants.{TooDeep, NoMemory}

-- want of memory is told as such
abbrev pub unlexed : LexRefusal → ParseRefusal
unlexed lexer.NoMemory = NoMemory
unlexed (lexer.TextTooLong bytes) = Lex (lexer.TextTooLong bytes)
unlexed (lexer.BadByte at) = Lex (lexer.BadByte at)
unlexed (lexer.OpenComment at) = Lex (lexer.OpenComment at)
unlexed (lexer.OpenString at) = Lex (lexer.OpenString at)
unlexed (lexer.NumberTooLarge at) = Lex (lexer.NumberTooLarge at)

-- the refusal at this place
abbrev pub told : Refusal → ℕ → ParseRefusal
told refusals.Syntax at = Syntax at
told (refusals.Unsupported word) at = Unsupported word at
told refusals.TooDeep at = TooDeep at

-- it is this refusal, or memory ran out
abbrev pub IsTheRefusal : ParseRefusal → ParseRefusal → Type 0
IsTheRefusal wanted NoMemory = ⊤
IsTheRefusal wanted (Lex why) = Lex why ≡ wanted
IsTheRefusal wanted (Syntax at) = Syntax at ≡ wanted
IsTheRefusal wanted (Unsupported word at) = Unsupported word at ≡ wanted
IsTheRefusal wanted (TooDeep at) = TooDeep at ≡ wanted

-- it is told where these tokens begin, in a text of so many bytes
abbrev pub Tells : ℕ → Refusal → List Token → ParseRefusal → Type 0
Tells bytes why rest e = IsTheRefusal (told why (offset_of bytes rest)) e

abbrev pub TellsToken : Token → ParseRefusal → Type 0
TellsToken t e = IsTheRefusal (told (kind_refusal t.kind) t.span.start) e

-- it is told for an import that isn't of the standard library
abbrev pub TellsImport : ℕ → Foreign → ParseRefusal → Type 0
TellsImport bytes f e =
    Tells bytes (refusals.Unsupported (text_of (last_of f.first f.others))) f.rest.now e

-- it is told for that of the grammar
abbrev pub TellsWhy : ℕ → GrammarRefusal → List Token → ParseRefusal → Type 0
TellsWhy bytes grammar.Syntax rest e = Tells bytes (syntax_refusal rest) rest e
TellsWhy bytes grammar.TooDeep rest e = Tells bytes refusals.TooDeep rest e
TellsWhy bytes grammar.NoMemory rest e = e ≡ NoMemory
