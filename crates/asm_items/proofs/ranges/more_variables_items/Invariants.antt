use Rattle.std.proofs.Common.{◌≡◌, drop}
use Rattle.asm_items.specs.Views.{with_items}
use Rattle.asm_items.specs.Parts.{more_variables}
use Rattle.asm_items.proofs.ranges.more_variables_items.Given as goal

abbrev pub invariant-loop-variable : goal.invariant-loop-variable
invariant-loop-variable l = with_items l.items (more_variables l.seen (drop l.variable-index l.variables)) ≡ with_items l.initial.items (more_variables l.initial.seen l.variables)
