-- the arguments so far, with those of the rest, are those of all
use Rattle.std.proofs.Common.{◌≡◌, length, drop}
use Rattle.asm_board.specs.Inputs.{args_in}
use Rattle.asm_inputs.proofs.Behind.{behind}
use Rattle.asm_inputs.proofs.values.args_in.Given as goal

abbrev pub invariant-loop-at : goal.invariant-loop-at
invariant-loop-at l =
    (behind l.args (args_in l.present.content.now (drop l.at l.domains) (drop l.at l.trees))
    ≡ args_in l.present.content.now l.domains l.trees)
    × (length l.domains ≡ length l.trees)
