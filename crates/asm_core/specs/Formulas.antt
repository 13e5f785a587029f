-- The models of a board as the leaves of a formula's run.
use Rattle.std.specs.Prelude.{ℕ, ◌≡◌, List, Option, Some, None}
use Rattle.asm_compose.specs.Runs.{Leaf, Steps, Refuses, Beginning}
use Rattle.asm_compose.specs.Steps.{Made, leaves_of, last_of}
use Rattle.asm_portable.specs.declared.port.Port.{Port}
use Rattle.asm_board.specs.declared.board.Board.{Board}
use Rattle.asm_board.specs.declared.refusal.Refusal.{Refusal}
use Rattle.asm_board.specs.Contents.{Contents}
use Rattle.asm_board.specs.Slots.{only}
use Rattle.asm_board.specs.Changes.{held, leaf}
use Rattle.asm_core.specs.Language.{asmeta}

-- what the models of these names hold, and what their steps come to
abbrev pub begins_of : Board → List (List ℕ) → Port → Option ℕ → Beginning Refusal Contents
begins_of board names inputs pick = let stepping = only board.slots names in
    record { held = held stepping; step = leaf asmeta stepping inputs pick }

-- why a step was refused
abbrev pub refusal_in : Leaf Refusal Contents → Option Refusal
refusal_in (Steps gives leaves) = None
refusal_in (Refuses why) = Some why

abbrev pub refusal_of : Option (Made Refusal Contents) → Option Refusal
refusal_of None = None
refusal_of (Some made) = refusal_in made.came

-- these are the contents that the steps left, and why the last one was refused
pub record HasMade (leaves : List (List ℕ × Contents)) (refusal : Option Refusal)
    (made : List (Made Refusal Contents)) : Type 0 where
  pub left : leaves ≡ leaves_of made
  pub last : refusal ≡ refusal_of (last_of made)
