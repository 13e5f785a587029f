use Rattle.std.proofs.Common.{◌≡◌, drop}
use Rattle.asm_items.specs.Views.{with_items}
use Rattle.asm_items.specs.Parts.{starts_items}
use Rattle.asm_items.proofs.models.starts_items.Given as goal

abbrev pub invariant-loop-start : goal.invariant-loop-start
invariant-loop-start l = with_items l.items (starts_items (drop l.start-index l.starts)) ≡ with_items l.initial.items (starts_items l.starts)
