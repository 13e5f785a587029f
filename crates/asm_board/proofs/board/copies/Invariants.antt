use Rattle.std.proofs.Common.{◌≡◌, ◌++◌, drop}
use Rattle.asm_board.proofs.board.copies.Given as goal

-- the models copied, and those still to copy
abbrev pub invariant-loop-model : goal.invariant-loop-model
invariant-loop-model l = l.copies.items ++ drop l.model-index l.models ≡ l.models
