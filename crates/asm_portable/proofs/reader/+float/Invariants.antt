use Rattle.std.proofs.Common.{◌≡◌, drop}
use Rattle.serde_json.specs.View.{view, items_view, members_view}
use Rattle.std.specs.List.{list_any}
use Rattle.serde_json.specs.Written.{has_float, items_have_float, members_have_float}
use Rattle.asm_portable.proofs.reader.+float.Given as goal

abbrev pub invariant-items_have_float-loop-item : goal.invariant-items_have_float-loop-item
invariant-items_have_float-loop-item l = items_have_float (items_view (drop l.item-index l.items)) ≡ items_have_float (items_view l.items)

abbrev pub invariant-members_have_float-loop-member : goal.invariant-members_have_float-loop-member
invariant-members_have_float-loop-member l = list_any (λ v. has_float (view v)) l.member-iterator ≡ members_have_float (members_view l.members.entries)
