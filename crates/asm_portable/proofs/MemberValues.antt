-- The numbers of an object, by its members' values alone.
use Rattle.std.proofs.Common.{◌≡◌, ◌||◌, List, [], ◌∷◌, map, String, Global, refl, ap}
use Rattle.std.specs.List.{list_any}
use Rattle.serde_json.specs.declared.value.Value.{Value}
use Rattle.serde_json.specs.View.{view, members_view}
use Rattle.serde_json.specs.Written.{has_float, members_have_float}

pub members_have_float_by_values : (ms : List (String Global × Value))
    → list_any (λ v. has_float (view v)) (map (λ m. m.1) ms) ≡ members_have_float (members_view ms)
members_have_float_by_values [] = refl
members_have_float_by_values (m ∷ ms) =
    ap (λ b. has_float (view m.1) || b) (members_have_float_by_values ms)
