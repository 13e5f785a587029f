-- The formula of a text, or the first refusal of it.
use Rattle.std.specs.Prelude.{◌≡◌, ◌≢◌, ℕ, Bool, ◌||◌, nat_lt, List, [], ◌∷◌, ◌++◌, length}
use Rattle.std.specs.Prelude.{count_by, if◌then◌else◌, Option, Some, None, Result, Ok, Err}
use Rattle.std.specs.List.{list_any}
use Rattle.std.specs.Str.{bytes_eq}
use Rattle.asm_grammar.specs.Parser.{Reply, Took, Refused}
use Rattle.asm_formula.specs.declared.formula.Formula.{Formula}
use Rattle.asm_formula.specs.declared.formula.FormulaRefusal.{FormulaRefusal}
use Rattle.asm_formula.specs.declared.formula.FormulaRefusal.TheVariants.{Syntax, TooMany}
use Rattle.asm_formula.specs.declared.formula.FormulaRefusal.TheVariants.{Repeated, NoMemory}
use Rattle.asm_formula.specs.declared.token.Token.{Token}
use Rattle.asm_formula.specs.Formulas.{names}
use Rattle.asm_formula.specs.Tokens.{is_name}
use Rattle.asm_formula.specs.Scan.{lexed_from}
use Rattle.asm_formula.specs.Parsing as reading

-- what is read, or why nothing is
abbrev pub Read : Type 0 → Type 0
Read A = Result A FormulaRefusal

-- goes on with what was read
abbrev pub on_read : {A B : Type 0} → Read A → (A → Read B) → Read B
on_read (Ok x) go = go x
on_read (Err why) go = Err why

-- ---- tokens

abbrev pub lexed_whole : List Token → Option ℕ → Read (List Token)
lexed_whole tokens None = Ok tokens
lexed_whole tokens (Some at) = Err (Syntax at)

-- the tokens of a text, unless a byte begins none
abbrev pub tokens_of : List ℕ → Read (List Token)
tokens_of text = lexed_whole (lexed_from text 0 0).0 (lexed_from text 0 0).1

-- more than 64 tokens, or more than 16 names
abbrev pub is_too_much : List Token → Bool
is_too_much tokens = nat_lt 64 (length tokens) || nat_lt 16 (count_by is_name tokens)

abbrev pub within_limits : List Token → Read (List Token)
within_limits tokens = if is_too_much tokens then Err TooMany else Ok tokens

-- ---- the tree

-- where these tokens begin, in a text of so many bytes
abbrev pub place : ℕ → List Token → ℕ
place bytes [] = bytes
place bytes (t ∷ ts) = t.at

-- what is read of a whole list
abbrev pub whole : ℕ → Reply Token Formula → Read Formula
whole bytes (Took f []) = Ok f
whole bytes (Took f (t ∷ rest)) = Err (Syntax t.at)
whole bytes (Refused deep rest) = Err (Syntax (place bytes rest))

-- the formula of these tokens, of a text of so many bytes
abbrev pub tree_of : ℕ → List Token → Read Formula
tree_of bytes tokens = whole bytes (reading.formula 64 tokens)

-- ---- names

abbrev pub is_among : List (List ℕ) → List ℕ → Bool
is_among names name = list_any (bytes_eq name) names

-- the first of the names that is among those before it or those seen
abbrev pub repeated_after : List (List ℕ) → List (List ℕ) → Option (List ℕ)
repeated_after seen [] = None
repeated_after seen (name ∷ more) =
    if is_among seen name then Some name else repeated_after (seen ++ name ∷ []) more

-- the first name that is there a second time
abbrev pub first_repeated : List (List ℕ) → Option (List ℕ)
first_repeated names = repeated_after [] names

abbrev pub unless_repeated : Option (List ℕ) → Formula → Read Formula
unless_repeated None f = Ok f
unless_repeated (Some name) f = Err (Repeated name)

abbrev pub distinct : Formula → Read Formula
distinct f = unless_repeated (first_repeated (names f)) f

-- ---- the whole

-- The formula of a text, or its first refusal: of its tokens, of how many there are, of the
-- grammar, of the names.
unfoldable pub formula_of : List ℕ → Read Formula
formula_of text =
    on_read (tokens_of text) (λ tokens.
    on_read (within_limits tokens) (λ few.
    on_read (tree_of (length text) few) distinct))

-- it is what is read, unless memory ran out
abbrev pub Comes : {A : Type 0} → Read A → Read A → Type 0
Comes expected (Ok x) = expected ≡ Ok x
Comes expected (Err why) = why ≢ NoMemory → expected ≡ Err why
