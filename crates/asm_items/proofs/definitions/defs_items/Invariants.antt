use Rattle.std.proofs.Common.{◌≡◌, ◌+◌, ◌≤◌, drop}
use Rattle.asm_items.specs.Views.{with_items}
use Rattle.asm_items.specs.Parts.{defs_from}
use Rattle.asm_items.proofs.definitions.defs_items.Given as goal

abbrev pub invariant-loop-def : goal.invariant-loop-def
invariant-loop-def l =
    (with_items l.items (defs_from l.number (drop l.def-index l.defs)) ≡ with_items l.initial.items (defs_from 1 l.defs)) × (l.number ≤ l.def-index + 1)
