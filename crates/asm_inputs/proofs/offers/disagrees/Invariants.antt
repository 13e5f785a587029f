-- no update so far gives the location another value
use Rattle.std.proofs.Common.{◌≡◌, drop}
use Rattle.asm_board.specs.Inputs.{disagrees}
use Rattle.asm_inputs.proofs.offers.disagrees.Given as goal

abbrev pub invariant-loop-other : goal.invariant-loop-other
invariant-loop-other l =
    disagrees (drop l.other-index l.updates) l.update ≡ disagrees l.updates l.update
