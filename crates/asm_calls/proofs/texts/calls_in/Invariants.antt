-- The calls so far, with those of the rest, are all.
use Rattle.std.proofs.Common.{◌≡◌, [], map, drop}
use Rattle.asm_items.specs.Views.{item_of}
use Rattle.asm_calls.specs.Texts.{calls_from}
use Rattle.asm_calls.proofs.texts.calls_in.Given as goal

abbrev pub invariant-loop-item : goal.invariant-loop-item
invariant-loop-item l =
    calls_from l.index l.calls (map item_of (drop l.item-index l.items))
    ≡ calls_from l.index [] (map item_of l.items)
