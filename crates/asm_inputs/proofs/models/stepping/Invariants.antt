-- no name so far is this one
use Rattle.std.proofs.Common.{◌≡◌, drop}
use Rattle.asm_board.specs.Slots.{slot_in, only}
use Rattle.asm_inputs.proofs.models.stepping.Given as goal

abbrev pub invariant-loop-other : goal.invariant-loop-other
invariant-loop-other l =
    slot_in (only l.board.slots (drop l.other-index l.names)) l.name
    ≡ slot_in (only l.board.slots l.names) l.name
