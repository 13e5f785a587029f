-- Reading tokens from left to right.
use Rattle.std.specs.Prelude.{slice_index, ℕ, zero, suc, ◌+◌, ◌-◌, ◌^◌, Bool, true, false, ◌&&◌}
use Rattle.std.specs.Prelude.{not, nat_lt, ◌==◌, List, [], ◌∷◌, ◌++◌, take, drop, pos, codes}
use Rattle.std.specs.Prelude.{if◌then◌else◌, Option, Some, None}
use Rattle.std.specs.Option.{option_map}
use Rattle.std.specs.List.{prefix_len}
use Rattle.asm_syntax.specs.Bytes.{is_letter, is_digit, is_word_byte, is_blank, is_string_byte}
use Rattle.asm_syntax.specs.Bytes.{is_line_byte, starts_with, value_of}
use Rattle.asm_syntax.specs.Words.{is_among, symbols}
use Rattle.asm_syntax.specs.Lexes.{word_kind, Stop, End, At, token_at}
use Rattle.asm_syntax.specs.declared.token_refusal.TokenRefusal.TheVariants.{OpenComment}
use Rattle.asm_syntax.specs.declared.token_refusal.TokenRefusal.TheVariants.{OpenString}
use Rattle.asm_syntax.specs.declared.token_refusal.TokenRefusal.TheVariants.{NumberTooLarge}
use Rattle.asm_syntax.specs.declared.token_refusal.TokenRefusal.TheVariants.{BadByte}
use Rattle.asm_lex_theory.specs.declared.Front.{Front}
use Rattle.asm_lex_theory.specs.declared.Front.TheVariants.{Gap, Taken, Refusal}
use Rattle.asm_syntax.specs.declared.token.Token.{Token}
use Rattle.asm_syntax.specs.declared.token.TokenKind.{TokenKind}
use Rattle.asm_syntax.specs.declared.token.TokenKind.TheVariants.{Var, Number, Chars, Symbol}

-- how many bytes come up to the end of the first "*/"
unfoldable pub block_len : List ℕ → Option ℕ
block_len [] = None
block_len (b ∷ bs) =
    if starts_with (codes "*/") (b ∷ bs) then Some 2 else option_map (λ n. n + 1) (block_len bs)

abbrev pub block_front : Option ℕ → Front
block_front None = Refusal OpenComment
block_front (Some n) = Gap (n + 2)

-- a letter, and the letters and digits after it
abbrev pub word_len : List ℕ → ℕ
word_len rest = prefix_len is_word_byte rest + 1

-- an n that belongs to the digits before it
abbrev pub is_mark : List ℕ → Bool
is_mark [] = false
is_mark (b ∷ []) = b == 110
is_mark (b ∷ c ∷ bs) = b == 110 && not (is_word_byte c)

-- a token's kind and its length
abbrev pub Form : Type 0
Form = Option (TokenKind × ℕ)

-- after a `$`
abbrev pub variable_form : List ℕ → Form
variable_form [] = None
variable_form (b ∷ bs) =
    if is_letter b then Some (Var (take (word_len bs) (b ∷ bs)), word_len bs + 1) else None

-- with this many digits at the front
abbrev pub digits_form : List ℕ → ℕ → Form
digits_form bs len =
    Some (Number (pos (value_of (take len bs))), if is_mark (drop len bs) then len + 1 else len)

-- after a `"`, with this many bytes of a string at the front
abbrev pub string_form : List ℕ → ℕ → Form
string_form rest len =
    if starts_with (codes "\"") (drop len rest) then Some (Chars (take len rest), len + 2) else None

abbrev pub short_symbol : ℕ → Form
short_symbol b = if is_among symbols (b ∷ []) then Some (Symbol (b ∷ []), 1) else None

abbrev pub symbol_form : ℕ → List ℕ → Form
symbol_form b [] = short_symbol b
symbol_form b (c ∷ bs) =
    if is_among symbols (b ∷ c ∷ []) then Some (Symbol (b ∷ c ∷ []), 2) else short_symbol b

-- the longest token at the front, whatever its size
unfoldable pub token_form : ℕ → List ℕ → Form
token_form b rest =
    if is_letter b then Some (word_kind (take (word_len rest) (b ∷ rest)), word_len rest)
    else (if is_digit b then digits_form (b ∷ rest) (prefix_len is_digit rest + 1)
    else (if b == 36 then variable_form rest
    else (if b == 34 then string_form rest (prefix_len is_string_byte rest)
    else symbol_form b rest)))

abbrev pub fits : TokenKind → Bool
fits (Number (pos n)) = nat_lt n (2 ^ 127)
fits other = true

unfoldable pub token_front : ℕ → Form → Front
token_front b None = if b == 34 then Refusal OpenString else Refusal BadByte
token_front b (Some f) = if fits f.0 then Taken f.0 f.1 else Refusal NumberTooLarge

unfoldable pub front_of : ℕ → List ℕ → Front
front_of b rest =
    if is_blank b then Gap 1
    else (if starts_with (codes "//") (b ∷ rest)
    then Gap (prefix_len is_line_byte (drop 1 rest) + 2)
    else (if starts_with (codes "/*") (b ∷ rest) then block_front (block_len (drop 1 rest))
    else token_front b (token_form b rest)))

abbrev pub front_on : List ℕ → Front
front_on [] = Refusal BadByte
front_on (b ∷ bs) = front_of b bs

-- the tokens of a text, and where its reading stops
abbrev pub Lexed : Type 0
Lexed = List Token × Stop

abbrev pub with_token : Token → Lexed → Lexed
with_token t l = (t ∷ l.0, l.1)

-- The reading from a front on, where next reads on after this many further bytes.
abbrev pub after_front : ℕ → (ℕ → Lexed) → Front → Lexed
after_front at next (Gap len) = next (len - 1)
after_front at next (Taken k len) = with_token (token_at k at (at + len)) (next (len - 1))
after_front at next (Refusal f) = ([], At f at)

-- skip bytes are read already
unfoldable pub lexed_from : List ℕ → ℕ → ℕ → Lexed
lexed_from [] skip at = ([], End)
lexed_from (b ∷ bs) (suc skip) at = lexed_from bs skip (at + 1)
lexed_from (b ∷ bs) zero at = after_front at (λ skip. lexed_from bs skip (at + 1)) (front_of b bs)

-- the token at an offset
abbrev pub token_here : List ℕ → ℕ → Front
token_here bs at =
    token_front (slice_index bs at) (token_form (slice_index bs at) (drop (at + 1) bs))

-- with tokens that were read before
abbrev pub after_tokens : List Token → Lexed → Lexed
after_tokens ts l = (ts ++ l.0, l.1)
