-- All items are passed, and their trees are those of the definition.
use Rattle.std.proofs.Common.{map, sym, ap, ◌∙◌, arith}
use Rattle.std.proofs.lemmas.List.{take_all}
use Rattle.serde_json.specs.View.{view}
use Rattle.asm_portable.specs.Json.{tree_of}
use Rattle.asm_portable.proofs.TreeLaws.{trees_of-map}
use Rattle.asm_portable.proofs.json.+tree.Goals as goal

pub trees_of-returns : goal.trees_of-returns
trees_of-returns t c =
    let items = c.args.items.now in
    c.loop-item.invariant
    ∙ ap (map (λ v. tree_of (view v))) (take_all c.loop-item.item-index items (omega arith))
    ∙ sym (trees_of-map items)
