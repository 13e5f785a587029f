-- The first part that isn't read is why the whole isn't, and so is a tree more than there are
-- domains.
use Rattle.std.proofs.Common.{◌≡◌, ◌+◌, drop, map, sym, ap, subst, ◌∙◌, arith}
use Rattle.asm_portable.specs.declared.port.Port.TheVariants as ports
use Rattle.asm_portable.specs.Reading.{of_part, with_first, items_read, parts_read, value_of}
use Rattle.asm_portable.specs.Reads.{IsWhy}
use Rattle.asm_portable.proofs.ReadingLaws.{after, after-why, after-misfit, items_read-more}
use Rattle.asm_portable.proofs.ReadingLaws.{parts_read-more, parts_read-many}
use Rattle.asm_portable.proofs.reading.+reading.Goals as goal

pub items_of-returns-in-Err : goal.items_of-returns-in-Err
items_of-returns-in-Err t c =
    let f = value_of c.args.domains.now c.args.live.now c.args.domain.now in
    let trees = c.args.trees.now in
    let at = c.loop-at.at in
    let tree = c.index-trees-at.result in
    let rest = items_read f (at + 1) (drop (at + 1) trees) in
    let here : items_read f at (drop at trees) ≡ with_first (of_part at (f tree)) rest =
    items_read-more f trees at tree c.loop-at-test.true
    ∙ ap (λ x. with_first (of_part at (f x)) rest) (sym c.index-trees-at.is) in
    subst (λ r. IsWhy r c.at_part.result)
    (ap (after c.loop-at.items) (sym here) ∙ c.loop-at.invariant)
    (after-why c.loop-at.items (of_part at (f tree)) rest c.at_part.result
    (c.at_part.ensures (f tree) c.in-Err.ensures))

pub parts_of-returns-in-Err : goal.parts_of-returns-in-Err
parts_of-returns-in-Err t c =
    let f = value_of c.args.domains.now c.args.live.now in
    let parts = c.args.parts.now in
    let trees = c.args.trees.now in
    let at = c.loop-at.at in
    let part = c.index-parts-at.result in
    let tree = c.index-trees-at.result in
    let rest = parts_read (map f (drop (at + 1) parts)) (at + 1) (drop (at + 1) trees) in
    let here : parts_read (map f (drop at parts)) at (drop at trees)
    ≡ with_first (of_part at (f part tree)) rest =
    parts_read-more f parts trees at part tree c.loop-at-test.true c.if-at-trees.false
    ∙ (λ i. with_first (of_part at (f (sym c.index-parts-at.is i) (sym c.index-trees-at.is i))) rest)
    in
    subst (λ r. IsWhy r c.at_part.result)
    (ap (after c.loop-at.items) (sym here) ∙ c.loop-at.invariant)
    (after-why c.loop-at.items (of_part at (f part tree)) rest c.at_part.result
    (c.at_part.ensures (f part tree) c.in-Err.ensures))

pub parts_of-returns-then-parts-trees : goal.parts_of-returns-then-parts-trees
parts_of-returns-then-parts-trees t c =
    let f = value_of c.args.domains.now c.args.live.now in
    let parts = c.args.parts.now in
    let trees = c.args.trees.now in
    let at = c.loop-at.at in
    after-misfit c.loop-at.items (parts_read (map f (drop at parts)) at (drop at trees))
    (parts_read (map f parts) 0 trees) c.misfit-then-parts-trees.result c.loop-at.invariant
    (parts_read-many f parts trees at ports.Null (omega arith) (omega arith))
    c.misfit-then-parts-trees.ensures
