-- no location so far stands there again
use Rattle.std.proofs.Common.{◌≡◌, drop}
use Rattle.asm_board.specs.Inputs.{repeats}
use Rattle.asm_inputs.proofs.functions.repeats.Given as goal

abbrev pub invariant-loop-at : goal.invariant-loop-at
invariant-loop-at l = repeats (drop l.at l.updates) ≡ repeats l.updates
