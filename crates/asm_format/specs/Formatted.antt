-- What the text of a model is written as.
use Rattle.std.specs.Prelude.{◌≡◌, ℕ, ◌≤◌, List, length}
use Rattle.asm_syntax.specs.declared.tree.ModelTree.{ModelTree}
use Rattle.asm_syntax.specs.Texts.{most_bytes, IsModel}
use Rattle.asm_syntax.specs.Canonical.{canonical}
use Rattle.asm_print_theory.specs.Bare.{bare_model}

-- it is the canonical text of the model that the text has
pub record IsFormatted (text formatted : List ℕ) : Type 0 where
  pub tree : ModelTree
  pub model : IsModel text tree
  pub written : formatted ≡ canonical tree

-- where it is no longer than a text may be, both texts have the same model, apart from spans
abbrev pub IsSame : List ℕ → List ℕ → Type 0
IsSame text formatted = length formatted ≤ most_bytes
    → (before : ModelTree) × (after : ModelTree) × IsModel text before × IsModel formatted after
    × (bare_model after ≡ bare_model before)
