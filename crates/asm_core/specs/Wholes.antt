-- That each state that is shown is well formed (after Börger and Stärk, Abstract State Machines,
-- section 2.4.1).
use Rattle.asm_board.specs.Contents.{Contents}
use Rattle.asm_board.specs.Slots.{Models}
use Rattle.asm_board.specs.Trails.{EachIsThroughout}
use Rattle.asm_soundness.specs.WellFormed.{IsWellFormed}
use Rattle.asm_soundness.specs.Sorted.{IsSorted}

-- what the numbers of its program stand for is there, and its state is well formed for the program
pub record HasWellFormedState (content : Contents) : Type 0 where
  pub sorted : IsSorted content.program
  pub state : IsWellFormed content.program content.state

-- each present content, and each earlier one that is remembered
abbrev pub EachStateIsWellFormed : Models → Type 0
EachStateIsWellFormed models = EachIsThroughout HasWellFormedState models
