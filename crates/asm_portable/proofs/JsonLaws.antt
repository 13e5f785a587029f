-- The JSON of a tree, level by level.
use Rattle.std.proofs.Common.{◌≡◌, ℕ, ◌+◌, ◌<◌, false, List, ◌∷◌, map, length, drop, get_or, ap, ◌∙◌, rules}
use Rattle.std.proofs.lemmas.List.{drop_more}
use Rattle.serde_json.specs.Data.{Data, array, object, Members, no_members, put}
use Rattle.serde_json.specs.View.{items_of}
use Rattle.serde_json.specs.Written.{compact_text, members_text}
use Rattle.serde_json.specs.declared.value.Value as json
use Rattle.serde_json.proofs.Views.{view-Array, view-Object}
use Rattle.asm_portable.specs.declared.port.Port.{Port}
use Rattle.asm_portable.specs.declared.port.Port.TheVariants as ports
use Rattle.asm_portable.specs.declared.port.Field.{Field}
use Rattle.asm_portable.specs.declared.port.Port.TheFolds.{fold-Field, fold_out-Port, fold_out-Field, map-Port}
use Rattle.asm_portable.specs.declared.port.Port.TheViews.{out-Port, the_lemmas}
use Rattle.asm_portable.specs.Json.{data_of, data_level, field_data, put_all, json_text}

folded : Field → List ℕ × Data
folded = fold-Field Data (List ℕ × Data) data_level (λ f. (f.key, f.tree))

folded-is : (f : Field) → folded f ≡ field_data f
unfolding folded data_of
folded-is f = fold_out-Field Data (List ℕ × Data) data_level (λ g. (g.key, g.tree)) f

-- what one level has, from the JSON of its parts
pub data_of-out : (p : Port) → data_of p ≡ data_level (map-Port Port Field Data (List ℕ × Data) data_of field_data (out-Port p))
unfolding folded data_of
data_of-out p =
    let e : folded ≡ field_data = λ i f. folded-is f i in
    fold_out-Port Data (List ℕ × Data) data_level (λ g. (g.key, g.tree)) p ∙ ap (λ h. data_level (map-Port Port Field Data (List ℕ × Data) data_of h (out-Port p))) e

pub data_of-List : (trees : List Port) → data_of (ports.List trees) ≡ array (items_of (map data_of trees))
data_of-List trees = search (rules, data_of-out (ports.List trees), the_lemmas)

pub data_of-Fields : (fs : List Field) → data_of (ports.Fields fs) ≡ object (put_all no_members (map field_data fs))
data_of-Fields fs = search (rules, data_of-out (ports.Fields fs), the_lemmas)

-- the text of fields goes on behind its brace with the members
pub json_text-Fields : (fs : List Field) → json_text (ports.Fields fs) ≡ 123 ∷ members_text false (put_all no_members (map field_data fs))
json_text-Fields fs = ap compact_text (data_of-Fields fs)

-- the next member is put, and those behind it after it
pub put_all-drop : (members : Members) (fs : List Field) (i : ℕ) (d : Field) → i < length fs
    → put_all members (map field_data (drop i fs)) ≡ put_all (put (get_or fs i d).key (data_of (get_or fs i d).tree) members) (map field_data (drop (i + 1) fs))
put_all-drop members fs i d h = ap (λ gs. put_all members (map field_data gs)) (drop_more fs i d h)

pub ruleset port_steps = (data_of-out, data_of-List, data_of-Fields, put_all-drop, the_lemmas, json.the_lemmas, view-Array, view-Object)
