-- The tree of JSON, part by part.
use Rattle.std.proofs.Common.{◌≡◌, List, [], ◌∷◌, map, refl, ap}
use Rattle.serde_json.specs.declared.value.Value as json
use Rattle.serde_json.specs.declared.value.Value.{Value}
use Rattle.serde_json.specs.View.{view, items_view}
use Rattle.serde_json.proofs.Views.{view-Array, view-Object}
use Rattle.asm_portable.specs.Json.{tree_of, trees_of}

pub trees_of-map : (vs : List Value) → trees_of (items_view vs) ≡ map (λ v. tree_of (view v)) vs
trees_of-map [] = refl
trees_of-map (v ∷ vs) = ap (λ ts. tree_of (view v) ∷ ts) (trees_of-map vs)

pub ruleset data_steps = (trees_of-map, json.the_lemmas, view-Array, view-Object)
