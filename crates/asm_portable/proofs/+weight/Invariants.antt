-- The sum so far is the weight of what was passed.
use Rattle.std.proofs.Common.{◌≡◌, ◌+◌, ◌-◌, ◌^◌, min, sum_by, take}
use Rattle.asm_portable.specs.Weights.{whole_weight, fields_weight}
use Rattle.asm_portable.proofs.+weight.Given as goal

abbrev pub invariant-weight::one_and_trees-loop-tree : goal.invariant-weight::one_and_trees-loop-tree
invariant-weight::one_and_trees-loop-tree l = l.total ≡ min (1 + sum_by whole_weight (take l.tree-index l.trees)) (2 ^ 64 - 1)

abbrev pub invariant-weight::one_and_fields-loop-field : goal.invariant-weight::one_and_fields-loop-field
invariant-weight::one_and_fields-loop-field l = l.total ≡ min (1 + fields_weight (take l.field-index l.fields)) (2 ^ 64 - 1)
