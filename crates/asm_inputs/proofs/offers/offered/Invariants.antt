-- what is taken so far, and then the rest
use Rattle.std.proofs.Common.{◌≡◌, drop, filter}
use Rattle.asm_board.specs.Inputs.{is_taken, offered_from, offered}
use Rattle.asm_inputs.proofs.offers.offered.Given as goal

abbrev pub invariant-loop-given : goal.invariant-loop-given
invariant-loop-given l =
    offered_from l.present.content.now l.name l.updates.items
    (filter (is_taken l.present.content.now l.fields) (drop l.given-index l.offer))
    ≡ offered l.present.content.now l.name l.fields l.offer
