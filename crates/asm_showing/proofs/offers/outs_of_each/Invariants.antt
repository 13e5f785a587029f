-- the models from this one on are shown
use Rattle.std.proofs.Common.{◌≡◌, drop, map}
use Rattle.asm_portable.specs.Ports.{field, ascending}
use Rattle.asm_board.specs.Shown.{outs_shown}
use Rattle.asm_showing.proofs.offers.outs_of_each.Given as goal

abbrev pub invariant-loop-number : goal.invariant-loop-number
invariant-loop-number l =
    l.fields.items ≡ ascending (map (λ leaf. field leaf.0 (outs_shown leaf.1)) (drop l.number l.leaves))
