-- The JSON of a portable tree, and its compact text.
use Rattle.std.specs.Prelude.{ℕ, ◌^◌, ℤ, pos, negsuc, Bool, nat_lt, if◌then◌else◌, List, [], ◌∷◌}
use Rattle.std.specs.Fmt.{signed_decimal}
use Rattle.serde_json.specs.Data as json
use Rattle.serde_json.specs.Data.{Data, Members, no_members, put}
use Rattle.serde_json.specs.Find.{of_integer}
use Rattle.serde_json.specs.View.{items_of}
use Rattle.serde_json.specs.Written.{compact_text}
use Rattle.asm_portable.specs.declared.port.Port.{Port}
use Rattle.asm_portable.specs.declared.port.Field.{Field}
use Rattle.asm_portable.specs.declared.port.Port.TheVariants as ports
use Rattle.asm_portable.specs.declared.port.Port.TheOpen.{Port-F}
use Rattle.asm_portable.specs.declared.port.Port.TheFolds.{fold-Port}

-- from -2^63 to 2^64 - 1, which JSON's integers are here
abbrev pub is_json_integer : ℤ → Bool
is_json_integer (pos n) = nat_lt n (2 ^ 64)
is_json_integer (negsuc n) = nat_lt n (2 ^ 63)

-- any other integer is a string of its digits
abbrev pub integer_data : ℤ → Data
integer_data n =
    if is_json_integer n then json.number (of_integer n) else json.string (signed_decimal n)

-- members that are put one after another; the last of one key counts
abbrev pub put_all : Members → List (List ℕ × Data) → Members
put_all members [] = members
put_all members (m ∷ ms) = put_all (put m.0 m.1 members) ms

-- one level of a tree, with the JSON of each part in its place
abbrev pub data_level : Port-F Data (List ℕ × Data) → Data
data_level Port-F.Null = json.null
data_level (Port-F.Bool b) = json.boolean b
data_level (Port-F.Int n) = integer_data n
data_level (Port-F.Text bytes) = json.string bytes
data_level (Port-F.List trees) = json.array (items_of trees)
data_level (Port-F.Fields fields) = json.object (put_all no_members fields)

unfoldable pub data_of : Port → Data
data_of = fold-Port Data (List ℕ × Data) data_level (λ f. (f.key, f.tree))

-- a field's key and the JSON of its tree
abbrev pub field_data : Field → List ℕ × Data
field_data f = (f.key, data_of f.tree)

-- The compact text of a tree, as `serde_json` writes it.
abbrev pub json_text : Port → List ℕ
json_text tree = compact_text (data_of tree)

-- ---- the tree of JSON

-- a whole number of 64 bits; there is no tree for any other, and 0 stands in its place
abbrev pub number_of : json.Num → ℤ
number_of (json.unsigned n) = pos n
number_of (json.negative n) = n
number_of (json.float f) = pos 0

-- the tree of a JSON value whose numbers are all whole
abbrev mutual
  pub tree_of : Data → Port
  tree_of json.null = ports.Null
  tree_of (json.boolean b) = ports.Bool b
  tree_of (json.number n) = ports.Int (number_of n)
  tree_of (json.string bytes) = ports.Text bytes
  tree_of (json.array items) = ports.List (trees_of items)
  tree_of (json.object members) = ports.Fields (members_of members)

  pub trees_of : json.Items → List Port
  trees_of json.no_items = []
  trees_of (json.item d ds) = tree_of d ∷ trees_of ds

  pub members_of : Members → List Field
  members_of json.no_members = []
  members_of (json.member key d ms) = record { key = key; tree = tree_of d } ∷ members_of ms
