-- the updates so far, with those of the rest, are those of all
use Rattle.std.proofs.Common.{◌≡◌, drop}
use Rattle.asm_board.specs.Inputs.{pairs_in}
use Rattle.asm_inputs.proofs.Behind.{behind}
use Rattle.asm_inputs.proofs.functions.pairs_in.Given as goal

abbrev pub invariant-loop-pair : goal.invariant-loop-pair
invariant-loop-pair l =
    behind l.updates (pairs_in l.present.content.now l.function l.info (drop l.pair-index l.pairs))
    ≡ pairs_in l.present.content.now l.function l.info l.pairs
