-- Reading a formula's tokens from left to right.
use Rattle.std.specs.Prelude.{ℕ, zero, suc, ◌+◌, ◌-◌, List, [], ◌∷◌, ◌++◌, length, take}
use Rattle.std.specs.Prelude.{nat_eq, if◌then◌else◌, Option, Some, None}
use Rattle.std.specs.List.{prefix_len, starts_with}
use Rattle.asm_formula.specs.declared.token.TokenKind.TheVariants.{Name}
use Rattle.asm_formula.specs.declared.token.Token.{Token}
use Rattle.asm_formula.specs.declared.token.Front.{Front}
use Rattle.asm_formula.specs.declared.token.Front.TheVariants.{Blank, Taken, Nothing}
use Rattle.asm_formula.specs.Tokens.{is_letter, is_name_byte, is_space, Sign, signs, token_at}

-- a letter, and the bytes of a name after it
abbrev pub name_len : List ℕ → ℕ
name_len rest = prefix_len is_name_byte rest + 1

-- the first sign of the table with which the text starts
abbrev pub sign_of : List Sign → List ℕ → Front
sign_of [] text = Nothing
sign_of (s ∷ more) text =
    if starts_with nat_eq text s.0 then Taken s.1 (length s.0) else sign_of more text

abbrev pub name_of : ℕ → List ℕ → Front
name_of b rest = Taken (Name (take (name_len rest) (b ∷ rest))) (name_len rest)

-- the longest token at the front; of the signs the longer ones are asked first
unfoldable pub token_of : ℕ → List ℕ → Front
token_of b rest = if is_letter b then name_of b rest else sign_of signs (b ∷ rest)

unfoldable pub front_of : ℕ → List ℕ → Front
front_of b rest = if is_space b then Blank else token_of b rest

abbrev pub front_on : List ℕ → Front
front_on [] = Nothing
front_on (b ∷ rest) = front_of b rest

-- the tokens of a text, and where its reading stops before the end
abbrev pub Lexed : Type 0
Lexed = List Token × Option ℕ

abbrev pub with_token : Token → Lexed → Lexed
with_token t l = (t ∷ l.0, l.1)

-- The reading from a front on, where next reads on after this many further bytes.
abbrev pub after_front : ℕ → (ℕ → Lexed) → Front → Lexed
after_front at next Blank = next 0
after_front at next (Taken kind len) = with_token (token_at kind at) (next (len - 1))
after_front at next Nothing = ([], Some at)

-- skip bytes are read already
unfoldable pub lexed_from : List ℕ → ℕ → ℕ → Lexed
lexed_from [] skip at = ([], None)
lexed_from (b ∷ bs) (suc skip) at = lexed_from bs skip (at + 1)
lexed_from (b ∷ bs) zero at =
    after_front at (λ skip. lexed_from bs skip (at + 1)) (front_of b bs)

-- with tokens that were read before
abbrev pub after_tokens : List Token → Lexed → Lexed
after_tokens ts l = (ts ++ l.0, l.1)
