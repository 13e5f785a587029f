use Rattle.std.proofs.Common.{◌≡◌, [], drop, map}
use Rattle.asm_items.specs.Views.{item_of}
use Rattle.asm_program.specs.DomainsPass.{domains_refused_from}
use Rattle.asm_names.proofs.domain_refusals.all_known.Given as goal

abbrev pub invariant-loop-item : goal.invariant-loop-item
invariant-loop-item l =
    domains_refused_from l.known.decls.now l.known.names.now l.known.given.now l.done (map item_of (drop l.item-index l.items))
    ≡ domains_refused_from l.known.decls.now l.known.names.now l.known.given.now [] (map item_of l.items)
