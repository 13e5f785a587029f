use Rattle.std.proofs.Common.{[], map, ap}
use Rattle.asm_items.specs.Views.{item_of}
use Rattle.asm_program.specs.DomainsPass.{domains_refused_from}
use Rattle.asm_names.specs.Passes.{domain_refused_at}
use Rattle.asm_scope.proofs.Checking.{is_first-along}
use Rattle.asm_names.proofs.Passes.{domains-err}
use Rattle.asm_names.proofs.domain_refusals.all_known.Goals as goal

pub returns-in-Err : goal.returns-in-Err
returns-in-Err c =
    let s = c.loop-item.done in
    let k = c.args.known.now in
    domains-err k.decls.now k.names.now k.given.now s c.args.items.now c.loop-item.item-index
    (domains_refused_from k.decls.now k.names.now k.given.now [] (map item_of c.args.items.now)) c.item-item.result c.in-Err.refusal c.loop-item-test.true c.loop-item.invariant
    (is_first-along c.in-Err.refusal _ _ (ap (λ x. domain_refused_at k.decls.now k.names.now k.given.now s (item_of x)) c.item-item.is) c.in-Err.ensures)
