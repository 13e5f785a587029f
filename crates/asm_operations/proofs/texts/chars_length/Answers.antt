-- The characters that the string's bytes spell.
use Rattle.std.proofs.Common.{rules}
use Rattle.std.proofs.lemmas.Str.{chars_from_encodes}
use Rattle.asm_operations.proofs.texts.chars_length.Goals as goal

pub returns-then-is_chars : goal.returns-then-is_chars
returns-then-is_chars c = search (rules, chars_from_encodes)
