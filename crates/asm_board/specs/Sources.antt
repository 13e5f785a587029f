-- Where the invariants of a model come from: its program's text, or a text that was added.
use Rattle.std.specs.Prelude.{ℕ, ◌≡◌, Bool, true, Some, List, Ok}
use Rattle.std.specs.List.{AllByRecursion, Contains}
use Rattle.asm_value.specs.declared.domain.Domain.TheVariants.{Truth}
use Rattle.asm_program.specs.declared.checked.CheckedTerm.{CheckedTerm}
use Rattle.asm_program.specs.declared.program.Inv.{Inv}
use Rattle.asm_program.specs.declared.program.Program.{Program}
use Rattle.asm_board.specs.Meanings.{Meanings}
use Rattle.asm_board.specs.Contents.{Contents}
use Rattle.asm_board.specs.Slots.{Models}
use Rattle.asm_board.specs.Trails.{EachIsThroughout}

module _ (m : Meanings) where
  -- it is one of the text's, or it was added, and its source is the text of its Boolean term
  pub data HasSource (program : Program) (inv : Inv) : Type 0 where
    OfText : Contains program.invariants inv → HasSource program inv
    Added : (term : CheckedTerm) → inv.added ≡ true
        → m.term_of program (Some Truth) inv.source ≡ Ok term → inv.term ≡ term.term
        → HasSource program inv

  abbrev pub HaveSources : Contents → Type 0
  HaveSources content = AllByRecursion (HasSource content.program) content.invs

  -- those of each content, and of each earlier one that is remembered
  abbrev pub EachKeepsSources : Models → Type 0
  EachKeepsSources models = EachIsThroughout HaveSources models
