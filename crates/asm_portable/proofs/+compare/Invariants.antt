-- The items passed so far are equal, so the rest of both lists decides.
use Rattle.std.proofs.Common.{◌≡◌, ◌≤◌, drop, length}
use Rattle.std.specs.Cmp.Lexicographic.{slice_cmp}
use Rattle.asm_portable.specs.Order.{port_cmp, field_cmp}
use Rattle.asm_portable.proofs.+compare.Given as goal

abbrev pub invariant-order::compare_trees-loop-at : goal.invariant-order::compare_trees-loop-at
invariant-order::compare_trees-loop-at l =
    (slice_cmp port_cmp (drop l.at l.trees) (drop l.at l.others) ≡ slice_cmp port_cmp l.trees l.others)
    × (l.at ≤ length l.others)

abbrev pub invariant-order::compare_fields-loop-at : goal.invariant-order::compare_fields-loop-at
invariant-order::compare_fields-loop-at l =
    (slice_cmp field_cmp (drop l.at l.fields) (drop l.at l.others) ≡ slice_cmp field_cmp l.fields l.others)
    × (l.at ≤ length l.others)
