use Rattle.std.proofs.Common.{◌≡◌, ◌+◌, drop}
use Rattle.asm_items.specs.Views.{with_items}
use Rattle.asm_items.specs.Parts.{more_params}
use Rattle.asm_items.proofs.ranges.more_param_items.Given as goal

abbrev pub invariant-loop-at : goal.invariant-loop-at
invariant-loop-at l = with_items l.items (more_params (l.at + 2) l.seen (drop l.at l.ranges)) ≡ with_items l.initial.items (more_params 2 l.initial.seen l.ranges)
