-- What a text that was printed is read as.
use Rattle.std.specs.Prelude.{◌≡◌, ℕ, ◌≤◌, List, length}
use Rattle.asm_syntax.specs.declared.tree.TermTree.{TermTree}
use Rattle.asm_syntax.specs.declared.tree.ModelTree.{ModelTree}
use Rattle.asm_syntax.specs.Texts.{most_bytes, IsTerm, IsModel}
use Rattle.asm_print_theory.specs.Bare.{bare_term, bare_model}

-- where some text has the tree, and this one is no longer than a text may be, it is read as the
-- same tree, apart from spans
abbrev pub IsTermAgain : TermTree → List ℕ → Type 0
IsTermAgain tree text = (given : List ℕ) → IsTerm given tree → length text ≤ most_bytes
    → (again : TermTree) × IsTerm text again × (bare_term again ≡ bare_term tree)

abbrev pub IsModelAgain : ModelTree → List ℕ → Type 0
IsModelAgain tree text = (given : List ℕ) → IsModel given tree → length text ≤ most_bytes
    → (again : ModelTree) × IsModel text again × (bare_model again ≡ bare_model tree)
