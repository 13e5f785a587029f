-- what is offered so far, and then what the functions that are left offer
use Rattle.std.proofs.Common.{◌≡◌, ◌++◌, drop}
use Rattle.asm_board.specs.Shown as spec
use Rattle.asm_showing.proofs.offers.offers_from.Given as goal

abbrev pub invariant-loop-number : goal.invariant-loop-number
invariant-loop-number l =
    l.offers.items
    ++ spec.offers_from l.program.domains l.state l.number (drop l.number l.program.functions)
    ≡ spec.offers_from l.program.domains l.state 0 l.program.functions
