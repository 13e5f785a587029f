-- What is reported of a text that isn't read as a tree, for the refusal that its parser tells.
use Rattle.std.specs.Prelude.{ℕ, List, [], codes, decimal}
use Rattle.asm_syntax.specs.declared.token_refusal.TokenRefusal.TheVariants as tokens
use Rattle.asm_syntax.specs.Refusals as refusals
use Rattle.asm_lex.specs.declared.LexRefusal.{LexRefusal}
use Rattle.asm_lex.specs.declared.LexRefusal.TheVariants as lexer
use Rattle.asm_parse.specs.declared.refusal.ParseRefusal.{ParseRefusal}
use Rattle.asm_parse.specs.declared.refusal.ParseRefusal.TheVariants.{Lex, Syntax, Unsupported}
use Rattle.asm_parse.specs.declared.refusal.ParseRefusal.TheVariants.{TooDeep, NoMemory}
use Rattle.asm_program.specs.declared.bad_text.BadText.{BadText}
use Rattle.asm_meaning.specs.Texts.{reported_at, reported_token, reported_refusal}

-- want of memory says nothing about a text
abbrev pub reported_nothing : List ℕ → BadText
reported_nothing text = reported_at text 0 [] []

abbrev pub reported_lex : List ℕ → LexRefusal → BadText
reported_lex text (lexer.TextTooLong bytes) =
    reported_at text 0 (codes "TextTooLong") (decimal bytes)
reported_lex text (lexer.BadByte at) = reported_token text tokens.BadByte at
reported_lex text (lexer.OpenComment at) = reported_token text tokens.OpenComment at
reported_lex text (lexer.OpenString at) = reported_token text tokens.OpenString at
reported_lex text (lexer.NumberTooLarge at) = reported_token text tokens.NumberTooLarge at
reported_lex text lexer.NoMemory = reported_nothing text

abbrev pub reported_parse : List ℕ → ParseRefusal → BadText
reported_parse text (Lex why) = reported_lex text why
reported_parse text (Syntax at) = reported_refusal text refusals.Syntax at
reported_parse text (Unsupported word at) = reported_refusal text (refusals.Unsupported word) at
reported_parse text (TooDeep at) = reported_refusal text refusals.TooDeep at
reported_parse text NoMemory = reported_nothing text
