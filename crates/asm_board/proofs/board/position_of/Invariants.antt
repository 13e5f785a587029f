use Rattle.std.proofs.Common.{◌≡◌, ◌++◌, take, drop}
use Rattle.asm_board.specs.declared.board.Slot.{Slot}
use Rattle.asm_board.specs.Slots.{put}
use Rattle.asm_board.proofs.board.position_of.Given as goal

-- the name is above those so far
abbrev pub invariant-loop-at : goal.invariant-loop-at
invariant-loop-at l = (slot : Slot) → put l.name slot l.models ≡ take l.at l.models ++ put l.name slot (drop l.at l.models)
