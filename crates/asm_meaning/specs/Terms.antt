-- The term of a text alone, over what a program declares, or what is reported of it where it has
-- none.
use Rattle.std.specs.Prelude.{◌≡◌, ℕ, zero, ◌<◌, ◌≤◌, nat_le, true, false, if◌then◌else◌, List, [], ◌∷◌, length, Option, Result, Ok, Err}
use Rattle.asm_grammar.specs.Parser.{Reply, Took, Refused}
use Rattle.asm_value.specs.declared.domain.Domain.{Domain}
use Rattle.asm_syntax.specs.declared.token_refusal.TokenRefusal.{TokenRefusal}
use Rattle.asm_syntax.specs.declared.token.Token.{Token}
use Rattle.asm_syntax.specs.declared.tree.TermTree.{TermTree}
use Rattle.asm_syntax.specs.Lexes.{Stop, End, At, Lexes}
use Rattle.asm_syntax.specs.Refusals.{Refusal, TooDeep, syntax_refusal, offset_of}
use Rattle.asm_syntax.specs.Texts.{most_bytes, IsTerm, IsRefusedTerm}
use Rattle.asm_lex_theory.specs.Scan.{Lexed, lexed_from}
use Rattle.asm_parse_theory.specs.Terms as reading
use Rattle.asm_program.specs.declared.bad_text.BadText.{BadText}
use Rattle.asm_program.specs.declared.checked.CheckedTerm.{CheckedTerm}
use Rattle.asm_program.specs.declared.program.Program.{Program}
use Rattle.asm_program.specs.declared.type_refusal.TypeRefusal.{TypeRefusal}
use Rattle.asm_program.specs.TypedAlone.{term_refused, checked_term}
use Rattle.asm_meaning.specs.Texts.{reported_long, reported_token, reported_refusal, reported_type}

-- ---- which term a text has, and why it has none

module _ (program : Program) (wanted : Option Domain) where
  -- the text is a typed term, of a domain where one is wanted, and this is it
  pub record IsTypedText (text : List ℕ) (term : CheckedTerm) : Type 0 where
    pub tree : TermTree
    pub spelled : IsTerm text tree
    pub unrefused : term_refused program wanted tree ≡ []
    pub is : term ≡ checked_term program tree

  -- the text has no term, and this is reported of it
  pub data IsBadTerm (text : List ℕ) : BadText → Type 0 where
    too_long : most_bytes < length text → IsBadTerm text (reported_long text)
    unlexed : {tokens : List Token} {why : TokenRefusal} {at : ℕ}
        → length text ≤ most_bytes → Lexes 0 text tokens (At why at)
        → IsBadTerm text (reported_token text why at)
    unread : {why : Refusal} {at : ℕ} → IsRefusedTerm text why at
        → IsBadTerm text (reported_refusal text why at)
    untyped : {tree : TermTree} {why : TypeRefusal} {others : List TypeRefusal}
        → IsTerm text tree → term_refused program wanted tree ≡ why ∷ others
        → IsBadTerm text (reported_type text why)

  -- the text has this term, or this is reported of it
  abbrev pub Means : List ℕ → Result CheckedTerm BadText → Type 0
  Means text (Ok term) = IsTypedText text term
  Means text (Err why) = IsBadTerm text why

  -- exactly one of them, and the one is unique
  pub record HasOneMeaning (text : List ℕ) : Type 0 where
    pub meaning : Result CheckedTerm BadText
    pub means : Means text meaning
    pub alone : (other : Result CheckedTerm BadText) → Means text other → other ≡ meaning

-- ---- trees

-- where these tokens are left
abbrev pub refused : {A : Type 0} → List ℕ → Refusal → List Token → Result A BadText
refused text why rest = Err (reported_refusal text why (offset_of (length text) rest))

abbrev pub tree_replied : List ℕ → Reply Token TermTree → Result TermTree BadText
tree_replied text (Took tree []) = Ok tree
tree_replied text (Took tree (t ∷ rest)) = refused text (syntax_refusal (t ∷ rest)) (t ∷ rest)
tree_replied text (Refused false rest) = refused text (syntax_refusal rest) rest
tree_replied text (Refused true rest) = refused text TooDeep rest

-- where the reading stops at the text's end
abbrev pub tree_lexed : List ℕ → List Token → Stop → Result TermTree BadText
tree_lexed text tokens End = tree_replied text (reading.term 64 tokens)
tree_lexed text tokens (At why at) = Err (reported_token text why at)

abbrev pub tree_within : List ℕ → Lexed → Result TermTree BadText
tree_within text lexed = tree_lexed text lexed.0 lexed.1

-- the one tree of a term's text, or what is reported where it has none
unfoldable pub term_tree_of : List ℕ → Result TermTree BadText
term_tree_of text =
    if nat_le (length text) most_bytes then tree_within text (lexed_from text zero 0)
    else Err (reported_long text)

-- ---- terms

-- unless the tree is refused
abbrev pub unless_refused : List ℕ → List TypeRefusal → CheckedTerm → Result CheckedTerm BadText
unless_refused text [] term = Ok term
unless_refused text (why ∷ others) term = Err (reported_type text why)

module _ (program : Program) (wanted : Option Domain) where
  abbrev pub term_of_tree : List ℕ → Result TermTree BadText → Result CheckedTerm BadText
  term_of_tree text (Ok tree) =
      unless_refused text (term_refused program wanted tree) (checked_term program tree)
  term_of_tree text (Err why) = Err why

  -- the one term of a text over the program, or what is reported where it has none
  unfoldable pub meaning_of_term : List ℕ → Result CheckedTerm BadText
  meaning_of_term text = term_of_tree text (term_tree_of text)
