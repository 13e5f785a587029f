-- The tokens of a formula's text, and the first byte at which none begins.
use Rattle.std.specs.Prelude.{◌≡◌, ℕ, ◌+◌, ◌≤◌, Bool, true, false, ◌||◌, ◌&&◌, nat_le, ◌==◌}
use Rattle.std.specs.Prelude.{◌⊎◌, List, [], ◌∷◌, ◌++◌, length, codes, Option, Some, None}
use Rattle.asm_formula.specs.declared.formula.Operator.TheVariants.{Pipe, Both, Half, Cross}
use Rattle.asm_formula.specs.declared.token.TokenKind.{TokenKind}
use Rattle.asm_formula.specs.declared.token.TokenKind.TheVariants.{Name, Joins, Opens, Closes}
use Rattle.asm_formula.specs.declared.token.Token.{Token}

-- ---- bytes

-- a letter of ASCII, or `_`
abbrev pub is_letter : ℕ → Bool
is_letter b = (nat_le 97 b && nat_le b 122) || ((nat_le 65 b && nat_le b 90) || b == 95)

-- what may follow the first letter of a name
abbrev pub is_name_byte : ℕ → Bool
is_name_byte b = is_letter b || (nat_le 48 b && nat_le b 57)

abbrev pub is_space : ℕ → Bool
is_space b = b == 32

abbrev pub Every : (ℕ → Bool) → List ℕ → Type 0
Every test [] = Unit {0}
Every test (b ∷ bs) = (test b ≡ true) × Every test bs

-- ---- one token

-- a letter or `_`, then letters, digits and `_`
abbrev pub IsName : List ℕ → Type 0
IsName [] = ⊥
IsName (b ∷ bs) = (is_letter b ≡ true) × Every is_name_byte bs

-- a sign with what it is
abbrev pub Sign : Type 0
Sign = List ℕ × TokenKind

abbrev pub signs : List Sign
signs =
    (codes "<||>", Joins Cross) ∷ (codes "<|>", Joins Half) ∷ (codes "||", Joins Both)
    ∷ (codes "|", Joins Pipe) ∷ (codes "(", Opens) ∷ (codes ")", Closes) ∷ []

-- the bytes are a sign of the table, and this is what it is
abbrev pub IsSign : List Sign → List ℕ → TokenKind → Type 0
IsSign [] bytes kind = ⊥
IsSign (s ∷ more) bytes kind = ((bytes ≡ s.0) × (kind ≡ s.1)) ⊎ IsSign more bytes kind

-- the bytes are a token of this kind
abbrev pub IsToken : List ℕ → TokenKind → Type 0
IsToken bytes kind = ((kind ≡ Name bytes) × IsName bytes) ⊎ IsSign signs bytes kind

-- no front of the text is a token
abbrev pub HasNoToken : List ℕ → Type 0
HasNoToken text =
    (front after : List ℕ) (kind : TokenKind) → text ≡ front ++ after → IsToken front kind → ⊥

-- the front of a text is a token of this kind, and no longer front is a token
pub record IsLongest (front after : List ℕ) (kind : TokenKind) : Type 0 where
  pub token : IsToken front kind
  pub longest : (other rest : List ℕ) (k : TokenKind) → front ++ after ≡ other ++ rest
      → IsToken other k → length other ≤ length front

-- ---- a text

abbrev pub token_at : TokenKind → ℕ → Token
token_at kind place = record { kind = kind; at = place }

-- A text whose first byte is at this offset is read as these tokens, each as long as can be, with
-- spaces between them. The reading stops at the first byte that is no space and begins no token, or
-- at the end.
pub data Lexes : ℕ → List ℕ → List Token → Option ℕ → Type 0 where
  end : {at : ℕ} → Lexes at [] [] None
  space : {at b : ℕ} {bs : List ℕ} {ts : List Token} {s : Option ℕ}
      → is_space b ≡ true → Lexes (at + 1) bs ts s → Lexes at (b ∷ bs) ts s
  token : {at : ℕ} {bs a c : List ℕ} {k : TokenKind} {ts : List Token} {s : Option ℕ}
      → bs ≡ a ++ c → IsLongest a c k → Lexes (at + length a) c ts s
      → Lexes at bs (token_at k at ∷ ts) s
  stop : {at b : ℕ} {bs : List ℕ}
      → is_space b ≡ false → HasNoToken (b ∷ bs) → Lexes at (b ∷ bs) [] (Some at)

-- ---- what the grammar sees of a token

abbrev pub is_name_kind : TokenKind → Bool
is_name_kind (Name name) = true
is_name_kind (Joins op) = false
is_name_kind Opens = false
is_name_kind Closes = false

abbrev pub is_name : Token → Bool
is_name t = is_name_kind t.kind
