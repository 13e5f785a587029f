-- Where tokens and refusals are in a text.
use Rattle.std.specs.Prelude.{ℕ, ◌<◌, ◌≤◌, List, length, drop, slice_range}
use Rattle.asm_syntax.specs.declared.token.Token.{Token}
use Rattle.asm_syntax.specs.Lexes.{IsToken}
use Rattle.asm_syntax.specs.Texts.{most_bytes}
use Rattle.asm_lex.specs.declared.LexRefusal.{LexRefusal}
use Rattle.asm_lex.specs.declared.LexRefusal.TheVariants.{TextTooLong, BadByte, OpenComment}
use Rattle.asm_lex.specs.declared.LexRefusal.TheVariants.{OpenString, NumberTooLarge, NoMemory}

-- the token's span is in the text, and the bytes there have the form of this token
pub record IsTokenIn (text : List ℕ) (token : Token) : Type 0 where
  pub some : token.span.start < token.span.end
  pub within : token.span.end ≤ length text
  pub form : IsToken (slice_range text token.span.start token.span.end) (drop token.span.end text)
      token.kind

-- the first token ends where the second begins, or before
abbrev pub Before : Token → Token → Type 0
Before first second = first.span.end ≤ second.span.start

-- it is the offset of a byte of a text that isn't too long
abbrev pub IsOffset : List ℕ → ℕ → Type 0
IsOffset text at = (at < length text) × (length text ≤ most_bytes)

-- where the refusal has an offset, it is one of the text
abbrev pub IsWithin : List ℕ → LexRefusal → Type 0
IsWithin text (BadByte at) = IsOffset text at
IsWithin text (OpenComment at) = IsOffset text at
IsWithin text (OpenString at) = IsOffset text at
IsWithin text (NumberTooLarge at) = IsOffset text at
IsWithin text (TextTooLong bytes) = Unit {0}
IsWithin text NoMemory = Unit {0}
