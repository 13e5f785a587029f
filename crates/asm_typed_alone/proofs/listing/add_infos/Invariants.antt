-- The names so far, with those of the rest, are all.
use Rattle.std.proofs.Common.{◌≡◌, drop}
use Rattle.asm_typed_alone.specs.Listed.{with_names, infos_named}
use Rattle.asm_typed_alone.proofs.listing.add_infos.Given as goal

abbrev pub invariant-loop-at : goal.invariant-loop-at
invariant-loop-at l =
    with_names l.names (infos_named l.at (drop l.at l.domains))
    ≡ with_names l.initial.names (infos_named 0 l.domains)
