-- The trees and fields so far are those of the items and members passed.
use Rattle.std.proofs.Common.{◌≡◌, ◌++◌, map, take}
use Rattle.serde_json.specs.View.{view, members_view}
use Rattle.asm_portable.specs.Json.{tree_of, members_of}
use Rattle.asm_portable.proofs.json.+tree.Given as goal

abbrev pub invariant-trees_of-loop-item : goal.invariant-trees_of-loop-item
invariant-trees_of-loop-item l = l.trees ≡ map (λ v. tree_of (view v)) (take l.item-index l.items)

abbrev pub invariant-members_of-loop-key : goal.invariant-members_of-loop-key
invariant-members_of-loop-key l =
    l.fields ++ members_of (members_view l.key-iterator) ≡ members_of (members_view l.members.entries)
