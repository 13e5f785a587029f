-- The members of an object, by their values alone.
use Rattle.std.proofs.Common.{◌≡◌, ◌&&◌, not, is_some, List, [], ◌∷◌, map, String, Global, refl, ap}
use Rattle.std.specs.List.{list_all}
use Rattle.serde_json.specs.declared.value.Value.{Value}
use Rattle.serde_json.specs.Find.{as_object}
use Rattle.serde_json.specs.View.{view, members_view}
use Rattle.serde_json.specs.Written.{has_float}
use Rattle.asm_wire.specs.Requests.{are_objects}

pub are_objects-values : (ms : List (String Global × Value)) → list_all (λ v. is_some (as_object (view v)) && not (has_float (view v))) (map (λ m. m.1) ms) ≡ are_objects (members_view ms)
are_objects-values [] = refl
are_objects-values (m ∷ ms) = ap (λ b. (is_some (as_object (view m.1)) && not (has_float (view m.1))) && b) (are_objects-values ms)

pub ruleset members_by_values = (are_objects-values)
