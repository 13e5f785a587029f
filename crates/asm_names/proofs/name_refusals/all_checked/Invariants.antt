use Rattle.std.proofs.Common.{◌≡◌, drop, map}
use Rattle.asm_items.specs.Views.{item_of}
use Rattle.asm_program.specs.NamesPass.{names_refused_from, names_refused}
use Rattle.asm_names.proofs.name_refusals.all_checked.Given as goal

abbrev pub invariant-loop-item : goal.invariant-loop-item
invariant-loop-item l = names_refused_from l.seen (map item_of (drop l.item-index l.items)) ≡ names_refused (map item_of l.items)
