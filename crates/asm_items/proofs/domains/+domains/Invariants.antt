use Rattle.std.proofs.Common.{◌≡◌, ◌+◌, drop}
use Rattle.asm_items.specs.Views.{with_items}
use Rattle.asm_items.specs.Parts.{domains_from}
use Rattle.asm_items.proofs.domains.+domains.Given as goal

abbrev pub invariant-more_domain_items-loop-at : goal.invariant-more_domain_items-loop-at
invariant-more_domain_items-loop-at l =
    with_items l.items (domains_from (l.at + 3) (drop l.at l.domains)) ≡ with_items l.initial.items (domains_from 3 l.domains)
