use Rattle.std.proofs.Common.{◌≡◌, drop}
use Rattle.asm_board.specs.Slots.{changed}
use Rattle.asm_board.proofs.board.Board.with_entry.Given as goal

-- the changes still to make lead from the models so far to where all of them lead
abbrev pub invariant-loop-change : goal.invariant-loop-change
invariant-loop-change l = changed l.front l.models.items (drop l.change-index l.slots) ≡ changed l.front l.self.slots l.slots
