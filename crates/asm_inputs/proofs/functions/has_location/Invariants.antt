-- no update so far is of the location
use Rattle.std.proofs.Common.{◌≡◌, drop}
use Rattle.asm_board.specs.Inputs.{is_set_by}
use Rattle.asm_inputs.proofs.functions.has_location.Given as goal

abbrev pub invariant-loop-other : goal.invariant-loop-other
invariant-loop-other l =
    is_set_by l.update (drop l.other-index l.updates) ≡ is_set_by l.update l.updates
