-- The names so far, with those of the rest, are all.
use Rattle.std.proofs.Common.{◌≡◌, drop}
use Rattle.asm_typed_alone.specs.Listed.{with_names, functions_named}
use Rattle.asm_typed_alone.proofs.listing.add_functions.Given as goal

abbrev pub invariant-loop-at : goal.invariant-loop-at
invariant-loop-at l =
    with_names l.names (functions_named l.at (drop l.at l.functions))
    ≡ with_names l.initial.names (functions_named 0 l.functions)
