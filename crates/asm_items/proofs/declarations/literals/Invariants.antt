use Rattle.std.proofs.Common.{◌≡◌, ◌+◌, drop}
use Rattle.asm_items.specs.Views.{with_items}
use Rattle.asm_items.specs.Parts.{more_literals}
use Rattle.asm_items.proofs.declarations.literals.Given as goal

abbrev pub invariant-loop-at : goal.invariant-loop-at
invariant-loop-at l = with_items l.items (more_literals (l.at + 2) (drop l.at l.others)) ≡ with_items l.initial.items (more_literals 2 l.others)
