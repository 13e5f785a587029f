-- The grammar with its two rules on nesting, and without them.
use Rattle.std.specs.Prelude.{◌≡◌, Bool, true, ◌&&◌, List, [], ◌∷◌, codes}
use Rattle.std.specs.Str.{bytes_eq}
use Rattle.asm_grammar.specs.Language.{Language}
use Rattle.asm_grammar.specs.Refusals.{unlimited}
use Rattle.asm_syntax.specs.declared.token.Token.{Token}
use Rattle.asm_syntax.specs.declared.tree.TermTree.{TermTree}
use Rattle.asm_syntax.specs.declared.tree.ModelTree.{ModelTree}
use Rattle.asm_syntax.specs.Marks.{is, id, text_of, last_of}
use Rattle.asm_syntax.specs.Forms.{any}
use Rattle.asm_syntax.specs.Heights.{fits}
use Rattle.asm_syntax.specs.Terms.{term_within}
use Rattle.asm_syntax.specs.Models.{Import, model_within}

-- At most 64 constructs are open at once, and what is left of an operator is at most 63 high.
unfoldable pub term : Language Token TermTree
term = term_within fits 64

unfoldable pub model : Language Token (List Import × ModelTree)
model = model_within fits 64

-- terms and models that nest as they like
unfoldable pub free_term : Language Token TermTree
free_term = unlimited (λ n. term_within any n)

unfoldable pub free_model : Language Token (List Import × ModelTree)
free_model = unlimited (λ n. model_within any n)

-- ---- imports

abbrev pub last_part : Import → Token
last_part (first, others) = last_of first others

-- it ends in `StandardLibrary`
abbrev pub is_standard : Import → Bool
is_standard i = is id (last_part i) && bytes_eq (text_of (last_part i)) (codes "StandardLibrary")

abbrev pub are_standard : List Import → Bool
are_standard [] = true
are_standard (i ∷ is) = is_standard i && are_standard is

-- the tokens spell the tree, and import nothing but the standard library
pub record SpellsModel (tree : ModelTree) (tokens : List Token) : Type 0 where
  pub imports : List Import
  pub spells : model.Spells (imports, tree) tokens
  pub standard : are_standard imports ≡ true
