-- The sum of the values of the function `c` that a state shows.
use Rattle.std.specs.Prelude.{ℕ, ◌^◌, ◌-◌, ℤ, pos, negsuc, min, nat_lt, if◌then◌else◌, Option, Some, None, unwrap_or, List, [], ◌∷◌, slice_get, sum_by, codes}
use Rattle.std.specs.Option.{option_map_or}
use Rattle.std.specs.Str.{bytes_eq}
use Rattle.asm_portable.specs.declared.port.Port.{Port}
use Rattle.asm_portable.specs.declared.port.Port.TheOpen.{Port-F}
use Rattle.asm_portable.specs.declared.port.Port.TheViews.{out-Port}
use Rattle.asm_portable.specs.declared.port.Field.{Field}
use Rattle.asm_portable.specs.Ports.{fields_of, as_list}

-- the tree under a key
abbrev pub tree_at : List ℕ → List Field → Option Port
tree_at key [] = None
tree_at key (f ∷ fs) = if bytes_eq key f.key then Some f.tree else tree_at key fs

-- the items of a tree, none where it is no list
abbrev pub items_of : Port → List Port
items_of tree = unwrap_or (as_list tree) []

abbrev pub items_if : Option Port → List Port
items_if None = []
items_if (Some tree) = items_of tree

abbrev pub pairs_if : Option Port → List Port
pairs_if None = []
pairs_if (Some functions) = items_if (tree_at (codes "c") (fields_of functions))

-- each list of arguments of the function with its value
abbrev pub pairs_of : Port → List Port
pairs_of shown = pairs_if (tree_at (codes "functions") (fields_of shown))

-- a natural number below 2^64; all else counts as 0
abbrev pub natural_of : ℤ → ℕ
natural_of (pos n) = if nat_lt n (2 ^ 64) then n else 0
natural_of (negsuc n) = 0

abbrev pub natural_level : {A B : Type 0} → Port-F A B → ℕ
natural_level (Port-F.Int n) = natural_of n
natural_level _ = 0

abbrev pub natural_in : Port → ℕ
natural_in tree = natural_level (out-Port tree)

-- the value of a pair, its second item
unfoldable pub value_in : Port → ℕ
value_in pair = option_map_or natural_in (slice_get (items_of pair) 1) 0

-- The sum of the values; 2^64 - 1 stands for that and more.
unfoldable pub sum_shown : Port → ℕ
sum_shown shown = min (sum_by value_in (pairs_of shown)) (2 ^ 64 - 1)
