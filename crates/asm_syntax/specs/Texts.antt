-- Which tree a text has, and why it has none.
use Rattle.std.specs.Prelude.{◌≡◌, ℕ, ◌≤◌, List, length}
use Rattle.asm_syntax.specs.declared.token.Token.{Token}
use Rattle.asm_syntax.specs.declared.tree.TermTree.{TermTree}
use Rattle.asm_syntax.specs.declared.tree.ModelTree.{ModelTree}
use Rattle.asm_syntax.specs.Lexes.{Lexes, End}
use Rattle.asm_syntax.specs.Grammar.{term, SpellsModel}
use Rattle.asm_syntax.specs.Refusals.{Refusal, IsTermRefusal, IsModelRefusal, offset_of}

-- the most bytes of a text
abbrev pub most_bytes : ℕ
most_bytes = 262144

-- the text is read to its end as tokens, and these spell the tree
pub record IsModel (text : List ℕ) (tree : ModelTree) : Type 0 where
  pub tokens : List Token
  pub lexes : Lexes 0 text tokens End
  pub spells : SpellsModel tree tokens
  pub short : length text ≤ most_bytes

pub record IsTerm (text : List ℕ) (tree : TermTree) : Type 0 where
  pub tokens : List Token
  pub lexes : Lexes 0 text tokens End
  pub spells : term.Spells tree tokens
  pub short : length text ≤ most_bytes

-- the text is read to its end as tokens, and this is the first refusal of these and its offset
pub record IsRefusedModel (text : List ℕ) (why : Refusal) (at : ℕ) : Type 0 where
  pub tokens : List Token
  pub rest : List Token
  pub lexes : Lexes 0 text tokens End
  pub short : length text ≤ most_bytes
  pub refused : IsModelRefusal tokens why rest
  pub there : at ≡ offset_of (length text) rest

pub record IsRefusedTerm (text : List ℕ) (why : Refusal) (at : ℕ) : Type 0 where
  pub tokens : List Token
  pub rest : List Token
  pub lexes : Lexes 0 text tokens End
  pub short : length text ≤ most_bytes
  pub refused : IsTermRefusal tokens why rest
  pub there : at ≡ offset_of (length text) rest
