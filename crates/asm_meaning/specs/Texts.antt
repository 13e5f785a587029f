-- The tree and the program of a text, or what is reported of it where it has none, as functions on
-- its bytes.
use Rattle.std.specs.Prelude.{◌≡◌, ℕ, zero, ◌+◌, ◌<◌, ◌≤◌, nat_le, ◌==◌, Bool, true, false, not, ◌&&◌, if◌then◌else◌, List, [], ◌∷◌, ◌++◌, length, take, count_by, Option, Some, None, Result, Ok, Err, decimal, codes}
use Rattle.std.specs.List.{suffix_len}
use Rattle.std.proofs.Common.{refl}
use Rattle.std.proofs.lemmas.Bool.{leb-true, and_parts}
use Rattle.asm_grammar.specs.Parser.{Reply, Took, Refused}
use Rattle.asm_syntax.specs.declared.token_refusal.TokenRefusal.{TokenRefusal}
use Rattle.asm_syntax.specs.declared.token_refusal.TokenRefusal.TheVariants.{OpenComment, OpenString, NumberTooLarge, BadByte}
use Rattle.asm_syntax.specs.declared.token.Token.{Token}
use Rattle.asm_syntax.specs.declared.tree.ModelTree.{ModelTree}
use Rattle.asm_syntax.specs.Lexes.{Stop, End, At, Lexes}
use Rattle.asm_syntax.specs.Marks.{text_of}
use Rattle.asm_syntax.specs.Models.{Import}
use Rattle.asm_syntax.specs.Grammar.{last_part}
use Rattle.asm_syntax.specs.Refusals.{Refusal, Syntax, Unsupported, TooDeep, syntax_refusal, offset_of}
use Rattle.asm_syntax.specs.Texts.{most_bytes, IsModel, IsRefusedModel}
use Rattle.asm_lex_theory.specs.Scan.{Lexed, lexed_from}
use Rattle.asm_parse_theory.specs.Models as reading
use Rattle.asm_parse_theory.specs.Models.{first_foreign}
use Rattle.asm_program.specs.declared.program.Program.{Program}
use Rattle.asm_program.specs.declared.bad_text.BadText.{BadText}
use Rattle.asm_program.specs.declared.type_refusal.Limited.{Limited}
use Rattle.asm_program.specs.declared.type_refusal.Limited.TheVariants as limited
use Rattle.asm_program.specs.declared.type_refusal.TypeRefusal.{TypeRefusal}
use Rattle.asm_program.specs.declared.type_refusal.TypeRefusal.TheVariants as type
use Rattle.asm_program.specs.Members.{everyone_of, domains_are_few}
use Rattle.asm_program.specs.Counts.{functions_are_counted}
use Rattle.asm_program.specs.Nesting.{functions_are_ranked, macros_are_ranked}
use Rattle.asm_program.specs.Typed.{Numbered, numbered, first_refusal, IsTyped}

-- ---- what is reported of a refused text

-- with the line and the column of a byte, both from 1: a line ends with its line feed
abbrev pub reported_at : List ℕ → ℕ → List ℕ → List ℕ → BadText
reported_at text at kind more = record {
  kind = kind;
  more = more;
  line = 1 + count_by (λ b. b == 10) (take at text);
  column = 1 + suffix_len (λ b. not (b == 10)) (take at text);
}

abbrev pub token_refusal_kind : TokenRefusal → List ℕ
token_refusal_kind BadByte = codes "BadByte"
token_refusal_kind OpenComment = codes "OpenComment"
token_refusal_kind OpenString = codes "OpenString"
token_refusal_kind NumberTooLarge = codes "NumberTooLarge"

abbrev pub refusal_kind : Refusal → List ℕ
refusal_kind Syntax = codes "Syntax"
refusal_kind (Unsupported word) = codes "Unsupported"
refusal_kind TooDeep = codes "TooDeep"

-- the word that isn't supported
abbrev pub refusal_more : Refusal → List ℕ
refusal_more Syntax = []
refusal_more (Unsupported word) = word
refusal_more TooDeep = []

-- with its length in bytes
abbrev pub reported_long : List ℕ → BadText
reported_long text = reported_at text 0 (codes "TextTooLong") (decimal (length text))

abbrev pub reported_token : List ℕ → TokenRefusal → ℕ → BadText
reported_token text why at = reported_at text at (token_refusal_kind why) []

abbrev pub reported_refusal : List ℕ → Refusal → ℕ → BadText
reported_refusal text why at = reported_at text at (refusal_kind why) (refusal_more why)

-- what there are too many of, or what is too large
abbrev pub limited_text : Limited → List ℕ
limited_text limited.Domains = codes "domains"
limited_text limited.Functions = codes "functions"
limited_text limited.Macros = codes "macros"
limited_text limited.Invariants = codes "invariants"
limited_text limited.Parts = codes "parts"
limited_text limited.Members = codes "members"
limited_text limited.Chars = codes "string"
limited_text limited.Product = codes "product"
limited_text limited.Powerset = codes "powerset"
limited_text limited.Depth = codes "depth"

-- want of memory says nothing about a text
abbrev pub type_kind : TypeRefusal → List ℕ
type_kind (type.Duplicate name span) = codes "Duplicate"
type_kind (type.Unknown name span) = codes "Unknown"
type_kind (type.Mismatch span) = codes "Mismatch"
type_kind (type.Recursive name span) = codes "Recursive"
type_kind (type.NotEnumerable span) = codes "NotEnumerable"
type_kind (type.Missing name span) = codes "Missing"
type_kind (type.Limit which had span) = codes "Limit"
type_kind (type.TooMuchWork work span) = codes "TooMuchWork"
type_kind type.NoMemory = []

-- the name, what is limited and the number that there is, or the work
abbrev pub type_more : TypeRefusal → List ℕ
type_more (type.Duplicate name span) = name
type_more (type.Unknown name span) = name
type_more (type.Mismatch span) = []
type_more (type.Recursive name span) = name
type_more (type.NotEnumerable span) = []
type_more (type.Missing name span) = name
type_more (type.Limit which had span) = limited_text which ++ 32 ∷ decimal had
type_more (type.TooMuchWork work span) = decimal work
type_more type.NoMemory = []

-- the first byte of what is refused
abbrev pub type_at : TypeRefusal → ℕ
type_at (type.Duplicate name span) = span.start
type_at (type.Unknown name span) = span.start
type_at (type.Mismatch span) = span.start
type_at (type.Recursive name span) = span.start
type_at (type.NotEnumerable span) = span.start
type_at (type.Missing name span) = span.start
type_at (type.Limit which had span) = span.start
type_at (type.TooMuchWork work span) = span.start
type_at type.NoMemory = 0

abbrev pub reported_type : List ℕ → TypeRefusal → BadText
reported_type text why = reported_at text (type_at why) (type_kind why) (type_more why)

-- ---- the program of a tree

-- what a program keeps of its parts: they are few, none reaches itself, and functions are counted
abbrev pub is_kept : Numbered → Bool
is_kept n =
    (domains_are_few n.scope.domains
    && (nat_le (length n.functions) 256 && nat_le (length n.macros) 256))
    && ((functions_are_ranked n.functions && macros_are_ranked n.macros)
    && functions_are_counted n.scope.domains n.functions)

abbrev pub program_if : List ℕ → ModelTree → (n : Numbered) → (kept : Bool)
    → is_kept n ≡ kept → Option Program
program_if text tree n false e = None
program_if text tree n true e =
    let both = and_parts _ _ e in
    let domains = and_parts _ _ both.0 in
    let few = and_parts _ _ domains.1 in
    let last = and_parts _ _ both.1 in
    let ranks = and_parts _ _ last.0 in
    Some (record {
      name = text_of tree.name;
      domains = n.scope.domains;
      functions = n.functions;
      macros = n.macros;
      main = n.main;
      inits = n.inits;
      invariants = n.invariants;
      work = n.work;
      text = text;
      everyone = everyone_of n.scope.domains;
      few_domains = domains.0;
      few = leb-true _ _ few.0;
      few_macros = leb-true _ _ few.1;
      every = refl;
      ranked = ranks.0;
      macros_ranked = ranks.1;
      counted = last.1;
    })

-- the program of these parts, where they are few and none reaches itself
unfoldable pub program_of : List ℕ → ModelTree → Option Program
program_of text tree =
    program_if text tree (numbered text tree) (is_kept (numbered text tree)) refl

-- ---- which program a text has, and why it has none

-- the text is a typed model, and this is its program
pub record IsProgram (text : List ℕ) (program : Program) : Type 0 where
  pub tree : ModelTree
  pub model : IsModel text tree
  pub typed : IsTyped text tree program

-- the text has no program, and this is reported of it
pub data IsBadText (text : List ℕ) : BadText → Type 0 where
  too_long : most_bytes < length text → IsBadText text (reported_long text)
  unlexed : {tokens : List Token} {why : TokenRefusal} {at : ℕ}
      → length text ≤ most_bytes → Lexes 0 text tokens (At why at)
      → IsBadText text (reported_token text why at)
  unread : {why : Refusal} {at : ℕ} → IsRefusedModel text why at
      → IsBadText text (reported_refusal text why at)
  untyped : {tree : ModelTree} {why : TypeRefusal} → IsModel text tree
      → first_refusal text tree ≡ Some why → IsBadText text (reported_type text why)

-- the text has this program, or this is reported of it
abbrev pub Means : List ℕ → Result Program BadText → Type 0
Means text (Ok program) = IsProgram text program
Means text (Err why) = IsBadText text why

-- exactly one of them, and the one is unique
pub record HasOneMeaning (text : List ℕ) : Type 0 where
  pub meaning : Result Program BadText
  pub means : Means text meaning
  pub alone : (other : Result Program BadText) → Means text other → other ≡ meaning

-- ---- trees

-- where these tokens are left
abbrev pub refused : List ℕ → Refusal → List Token → Result ModelTree BadText
refused text why rest = Err (reported_refusal text why (offset_of (length text) rest))

abbrev pub tree_replied : List ℕ → Reply Token (List Import × ModelTree) → Result ModelTree BadText
tree_replied text (Took v []) = Ok v.1
tree_replied text (Took v (t ∷ rest)) = refused text (syntax_refusal (t ∷ rest)) (t ∷ rest)
tree_replied text (Refused false rest) = refused text (syntax_refusal rest) rest
tree_replied text (Refused true rest) = refused text TooDeep rest

-- the tree of these tokens, unless one of their imports isn't known
abbrev pub tree_read : List ℕ → List Token → Option (Import × List Token) → Result ModelTree BadText
tree_read text tokens None = tree_replied text (reading.model 64 tokens)
tree_read text tokens (Some found) =
    refused text (Unsupported (text_of (last_part found.0))) found.1

-- where the reading stops at the text's end
abbrev pub tree_lexed : List ℕ → List Token → Stop → Result ModelTree BadText
tree_lexed text tokens End = tree_read text tokens (first_foreign tokens)
tree_lexed text tokens (At why at) = Err (reported_token text why at)

abbrev pub tree_within : List ℕ → Lexed → Result ModelTree BadText
tree_within text lexed = tree_lexed text lexed.0 lexed.1

-- the one tree of a text, or what is reported where it has none
unfoldable pub tree_of : List ℕ → Result ModelTree BadText
tree_of text =
    if nat_le (length text) most_bytes then tree_within text (lexed_from text zero 0)
    else Err (reported_long text)

-- ---- programs

-- a tree of which nothing is refused has a program
abbrev pub made : List ℕ → Option Program → Result Program BadText
made text None = Err (reported_at text 0 [] [])
made text (Some program) = Ok program

-- unless the tree is refused
abbrev pub checked : List ℕ → Option TypeRefusal → Option Program → Result Program BadText
checked text (Some why) program = Err (reported_type text why)
checked text None program = made text program

abbrev pub program_of_tree : List ℕ → Result ModelTree BadText → Result Program BadText
program_of_tree text (Ok tree) =
    checked text (first_refusal text tree) (program_of text tree)
program_of_tree text (Err why) = Err why

-- the one program of a text, or what is reported where it has none
unfoldable pub meaning_of_text : List ℕ → Result Program BadText
meaning_of_text text = program_of_tree text (tree_of text)
