-- The canonical text of a text's model.
use Rattle.std.specs.Prelude.{ℕ, List, [], Result, Ok, Err}
use Rattle.asm_syntax.specs.declared.tree.ModelTree.{ModelTree}
use Rattle.asm_syntax.specs.Canonical.{canonical}
use Rattle.asm_program.specs.declared.bad_text.BadText.{BadText}
use Rattle.asm_meaning.specs.Texts.{tree_of}

abbrev pub printed : Result ModelTree BadText → List ℕ
printed (Ok tree) = canonical tree
printed (Err why) = []

-- the canonical text of the model that the text has, empty where it has none
abbrev pub canonical_of : List ℕ → List ℕ
canonical_of text = printed (tree_of text)
