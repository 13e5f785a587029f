use Rattle.std.proofs.Common.{◌≡◌, ◌+◌, drop}
use Rattle.asm_names.specs.Numbers.{with_names, literals_named}
use Rattle.asm_names.proofs.listing.add_literals.Given as goal

abbrev pub invariant-loop-at : goal.invariant-loop-at
invariant-loop-at l = with_names l.names (literals_named l.domain (l.at + 1) (drop l.at l.others)) ≡ with_names l.initial.names (literals_named l.domain 1 l.others)
