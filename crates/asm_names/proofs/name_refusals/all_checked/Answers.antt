use Rattle.std.proofs.Common.{map, ap}
use Rattle.asm_items.specs.Views.{item_of}
use Rattle.asm_program.specs.NamesPass.{refused_at, names_refused}
use Rattle.asm_scope.proofs.Checking.{is_first-along}
use Rattle.asm_names.proofs.Passes.{names-err}
use Rattle.asm_names.proofs.name_refusals.all_checked.Goals as goal

pub returns-in-Err : goal.returns-in-Err
returns-in-Err c =
    let s = c.loop-item.seen in
    names-err s c.args.items.now c.loop-item.item-index (names_refused (map item_of c.args.items.now)) c.item-item.result c.in-Err.refusal c.loop-item-test.true c.loop-item.invariant
    (is_first-along c.in-Err.refusal _ _ (ap (λ x. refused_at s (item_of x)) c.item-item.is) c.in-Err.ensures)
