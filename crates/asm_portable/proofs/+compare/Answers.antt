-- Where one list ends, the shorter one comes first.
use Rattle.std.proofs.Common.{sym, ◌∙◌, drop, arith, length-drop}
use Rattle.asm_base.proofs.TreeOrder.{first_ends, second_ends}
use Rattle.asm_portable.specs.Order.{port_cmp, field_cmp}
use Rattle.asm_portable.proofs.+compare.Goals as goal

pub order::compare_trees-returns-then-at-others : goal.order::compare_trees-returns-then-at-others
order::compare_trees-returns-then-at-others t c =
    let xs = c.args.trees.now in
    let ys = c.args.others.now in
    let at = c.loop-at.at in
    sym (second_ends port_cmp (drop at xs) (drop at ys) (omega (arith, length-drop at xs))
    (omega (arith, length-drop at ys))) ∙ c.loop-at.invariant.0

pub order::compare_trees-returns-then-trees-others : goal.order::compare_trees-returns-then-trees-others
order::compare_trees-returns-then-trees-others t c =
    let xs = c.args.trees.now in
    let ys = c.args.others.now in
    let at = c.loop-at.at in
    sym (first_ends port_cmp (drop at xs) (drop at ys) (omega (arith, length-drop at xs))
    (omega (arith, length-drop at ys))) ∙ c.loop-at.invariant.0

pub order::compare_fields-returns-then-at-others : goal.order::compare_fields-returns-then-at-others
order::compare_fields-returns-then-at-others t c =
    let xs = c.args.fields.now in
    let ys = c.args.others.now in
    let at = c.loop-at.at in
    sym (second_ends field_cmp (drop at xs) (drop at ys) (omega (arith, length-drop at xs))
    (omega (arith, length-drop at ys))) ∙ c.loop-at.invariant.0

pub order::compare_fields-returns-then-fields-others : goal.order::compare_fields-returns-then-fields-others
order::compare_fields-returns-then-fields-others t c =
    let xs = c.args.fields.now in
    let ys = c.args.others.now in
    let at = c.loop-at.at in
    sym (first_ends field_cmp (drop at xs) (drop at ys) (omega (arith, length-drop at xs))
    (omega (arith, length-drop at ys))) ∙ c.loop-at.invariant.0
