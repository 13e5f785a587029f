use Rattle.std.proofs.Common.{◌≡◌, drop}
use Rattle.asm_board.specs.Slots.{slot_in}
use Rattle.asm_board.proofs.board.Board.slot.Given as goal

-- none of the models so far has the name
abbrev pub invariant-loop-model : goal.invariant-loop-model
invariant-loop-model l = slot_in (drop l.model-index l.self.slots) l.name ≡ slot_in l.self.slots l.name
