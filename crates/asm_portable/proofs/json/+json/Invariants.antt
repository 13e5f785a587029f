use Rattle.std.proofs.Common.{◌≡◌, map, take, drop}
use Rattle.serde_json.specs.Data.{no_members}
use Rattle.serde_json.specs.View.{view, members_view}
use Rattle.asm_portable.specs.Json.{data_of, field_data, put_all}
use Rattle.asm_portable.proofs.json.+json.Given as goal

abbrev pub invariant-trees_json-loop-tree : goal.invariant-trees_json-loop-tree
invariant-trees_json-loop-tree l = map view l.items.items ≡ map data_of (take l.tree-index l.trees)

abbrev pub invariant-members_json-loop-field : goal.invariant-members_json-loop-field
invariant-members_json-loop-field l =
    put_all (members_view l.members.entries) (map field_data (drop l.field-index l.fields)) ≡ put_all no_members (map field_data l.fields)
