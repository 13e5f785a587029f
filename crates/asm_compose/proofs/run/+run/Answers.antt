-- The right part is followed after the left one.
use Rattle.std.proofs.Common.{◌≡◌, ◌∙◌, sym, subst, rules}
use Rattle.std.proofs.lemmas.Result.{err_from_is_err_and}
use Rattle.asm_compose.specs.Offers.{Offer}
use Rattle.asm_compose.specs.Courses.{Follows, left_of, right_joined, both_of}
use Rattle.asm_compose.specs.Steps.{leaf_course}
use Rattle.asm_compose.proofs.CourseLaws.{course-Name, course-Join}
use Rattle.asm_compose.proofs.Following.{failed_at, follows_on}
use Rattle.asm_compose.proofs.FormulaParts.{size-Join}
use Rattle.asm_compose.proofs.run.+run.Goals as goal

pub run_both-returns-in_err-gives-clause-follows : goal.run_both-returns-in_err-gives-clause-follows
run_both-returns-in_err-gives-clause-follows g t c =
    let begins = g.L.Leaf.begins c.args.leaf.now in
    let op = c.args.operator in
    let left = c.args.left.now in
    let right = c.args.right.now in
    let offer = c.args.offer.now in
    let first = left_of begins op left right offer in
    let p = err_from_is_err_and c.from_residual.result c.from_residual.ensures.1 in
    rw p.1
    (failed_at g.L.Leaf.has_made c.args.leaf.now c.run_left.new.leaf first.made first.ends
    (right_joined begins op left right offer) c.in_err-gives.ensures.follows)

pub run_both-returns-in-Done-clause-follows : goal.run_both-returns-in-Done-clause-follows
run_both-returns-in-Done-clause-follows g t c =
    let begins = g.L.Leaf.begins c.args.leaf.now in
    let has = g.L.Leaf.has_made in
    let op = c.args.operator in
    let left = c.args.left.now in
    let right = c.args.right.now in
    let offer = c.args.offer.now in
    let old = c.args.leaf.now in
    let mid = c.run_left.new.leaf in
    let new = c.run_on.new.leaf in
    let gives = c.in-Done.gives in
    let before = c.in_ok-gives.ensures.follows in
    follows_on has old mid new (left_of begins op left right offer) (right_joined begins op left right offer) gives
    c.run_on.result (sym c.in-Done.is ∙ before.0, before.1)
    (subst (λ b. Follows has mid new (right_joined b op left right offer gives) c.run_on.result)
    c.in_ok-gives.ensures.same c.run_on.ensures.follows)

pub run_part-run_both-requires : goal.run_part-run_both-requires
run_part-run_both-requires g t c =
    let d = size-Join c.args.formula.now c.in-Join.operator c.in-Join.left c.in-Join.right c.in-Join.is in
    search rules

pub run_part-returns-in-Name-clause-follows : goal.run_part-returns-in-Name-clause-follows
run_part-returns-in-Name-clause-follows g t c =
    let begins = g.L.Leaf.begins c.args.leaf.now in
    subst (λ course. Follows g.L.Leaf.has_made c.args.leaf.now c.run_leaf.new.leaf course c.run_leaf.result)
    (sym (course-Name begins c.args.formula.now c.in-Name.name c.args.offer.now c.in-Name.is))
    c.run_leaf.ensures.follows

pub run_part-returns-in-Join-clause-follows : goal.run_part-returns-in-Join-clause-follows
run_part-returns-in-Join-clause-follows g t c =
    let begins = g.L.Leaf.begins c.args.leaf.now in
    subst (λ course. Follows g.L.Leaf.has_made c.args.leaf.now c.run_both.new.leaf course c.run_both.result)
    (sym (course-Join begins c.args.formula.now c.in-Join.operator c.in-Join.left c.in-Join.right c.args.offer.now c.in-Join.is))
    (subst (λ f. Follows g.L.Leaf.has_made c.args.leaf.now c.run_both.new.leaf
    (both_of begins c.in-Join.operator c.in-Join.left f c.args.offer.now) c.run_both.result) c.get-in-Join.ensures
    (subst (λ f. Follows g.L.Leaf.has_made c.args.leaf.now c.run_both.new.leaf
    (both_of begins c.in-Join.operator f c.get-in-Join.result.now c.args.offer.now) c.run_both.result) c.get.ensures
    c.run_both.ensures.follows))
