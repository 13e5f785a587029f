-- The names so far, with those of the rest, are all.
use Rattle.std.proofs.Common.{◌≡◌, drop}
use Rattle.asm_typed_alone.specs.Listed.{with_names, literals_named}
use Rattle.asm_typed_alone.proofs.listing.add_literals.Given as goal

abbrev pub invariant-loop-at : goal.invariant-loop-at
invariant-loop-at l =
    with_names l.names (literals_named l.domain l.at (drop l.at l.literals))
    ≡ with_names l.initial.names (literals_named l.domain 0 l.literals)
