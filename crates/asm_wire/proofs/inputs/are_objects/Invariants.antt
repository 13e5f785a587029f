use Rattle.std.proofs.Common.{◌≡◌, ◌&&◌, is_some, not}
use Rattle.std.specs.List.{list_all}
use Rattle.serde_json.specs.Find.{as_object}
use Rattle.serde_json.specs.View.{view, members_view}
use Rattle.serde_json.specs.Written.{has_float}
use Rattle.asm_wire.specs.Requests.{are_objects}
use Rattle.asm_wire.proofs.inputs.are_objects.Given as goal

abbrev pub invariant-loop-member : goal.invariant-loop-member
invariant-loop-member l = list_all (λ v. is_some (as_object (view v)) && not (has_float (view v))) l.member-iterator ≡ are_objects (members_view l.members.entries)
