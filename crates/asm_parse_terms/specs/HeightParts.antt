-- Heights of the parts of terms.
use Rattle.std.specs.Prelude.{ℕ, List, Option, map}
use Rattle.std.specs.Option.{option_map}
use Rattle.asm_syntax.specs.declared.tree.TermTree.{TermTree}
use Rattle.asm_syntax.specs.declared.tree.TermTree.TheFolds.{
  fold-BindTree,
  fold-BindsTree,
  fold-CaseTree,
  fold-TermsTree,
}
use Rattle.asm_syntax.specs.declared.tree.TermsTree.{TermsTree}
use Rattle.asm_syntax.specs.declared.tree.BindTree.{BindTree}
use Rattle.asm_syntax.specs.declared.tree.BindsTree.{BindsTree}
use Rattle.asm_syntax.specs.declared.tree.CaseTree.{CaseTree}
use Rattle.asm_syntax.specs.Heights.{
  height,
  greater,
  greatest,
  or_zero,
  term_step,
  bind_step,
  binds_step,
  case_step,
  terms_step,
}

unfoldable pub bind_height : BindTree → ℕ
bind_height = fold-BindTree ℕ ℕ ℕ ℕ ℕ term_step bind_step binds_step case_step terms_step

unfoldable pub binds_height : BindsTree → ℕ
binds_height = fold-BindsTree ℕ ℕ ℕ ℕ ℕ term_step bind_step binds_step case_step terms_step

unfoldable pub case_height : CaseTree → ℕ
case_height = fold-CaseTree ℕ ℕ ℕ ℕ ℕ term_step bind_step binds_step case_step terms_step

unfoldable pub terms_height : TermsTree → ℕ
terms_height = fold-TermsTree ℕ ℕ ℕ ℕ ℕ term_step bind_step binds_step case_step terms_step

-- the greatest height of the parts of a `switch`
abbrev pub switch_height : TermTree → List CaseTree → Option TermTree → ℕ
switch_height value cases other =
    greater (height value)
    (greater (greatest (map case_height cases)) (or_zero (option_map height other)))
