use Rattle.std.proofs.Common.{drop, map}
use Rattle.asm_items.specs.Views.{item_of}
use Rattle.asm_names.proofs.Lists.{GivenFrom}
use Rattle.asm_names.proofs.domain_refusals.given_names.Given as goal

abbrev pub invariant-loop-item : goal.invariant-loop-item
invariant-loop-item l = GivenFrom l.names (map item_of (drop l.item-index l.items)) (map item_of l.items)
