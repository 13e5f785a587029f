use Rattle.std.proofs.Common.{◌++◌, ap}
use Rattle.asm_program.specs.DomainsPass.{one_more, mismatched, integers_refused}
use Rattle.asm_scope.proofs.Checking.{is_first-along}
use Rattle.asm_names.proofs.Passes.{integers-err}
use Rattle.asm_names.proofs.domain_refusals.more_integers_checked.Goals as goal

pub returns-in-Err : goal.returns-in-Err
returns-in-Err c =
    let s = c.loop-tree.seen in
    let n = c.args.natural in
    integers-err n s c.args.trees.now c.loop-tree.tree-index (integers_refused n c.args.seen.now c.args.trees.now) c.tree-item.result c.in-Err.refusal c.loop-tree-test.true c.loop-tree.invariant
    (is_first-along c.in-Err.refusal _ _ (ap (λ x. one_more s x ++ mismatched n x) c.tree-item.is) c.in-Err.ensures)
