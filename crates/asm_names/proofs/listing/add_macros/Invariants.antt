use Rattle.std.proofs.Common.{◌≡◌, ◌≤◌, drop}
use Rattle.asm_names.specs.Numbers.{macros_after, with_names, macros_named}
use Rattle.asm_names.proofs.listing.add_macros.Given as goal

abbrev pub invariant-loop-def : goal.invariant-loop-def
invariant-loop-def l =
    (with_names l.names (macros_named l.number (drop l.def-index l.defs)) ≡ with_names l.initial.names (macros_named 0 l.defs))
    × (macros_after l.number (drop l.def-index l.defs) ≤ 256)
