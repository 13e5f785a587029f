-- The order of portable trees, which is this project's own: by kind, in the order of the variants,
-- and within a kind by what the trees hold.
use Rattle.std.specs.Prelude.{ℕ, ℤ, pos, Bool, true, false, List, []}
use Rattle.std.specs.declared.cmp.Ordering.{Ordering}
use Rattle.std.specs.declared.cmp.Ordering.TheVariants.{Equal}
use Rattle.std.specs.Ordering.{ordering_then, nat_cmp, int_cmp}
use Rattle.std.specs.Cmp.Lexicographic.{slice_cmp}
use Rattle.asm_portable.specs.declared.port.Port.{Port}
use Rattle.asm_portable.specs.declared.port.Port.TheOpen.{Port-F}
use Rattle.asm_portable.specs.declared.port.Port.TheFolds.{fold-Port}
use Rattle.asm_portable.specs.declared.port.Port.TheViews.{out-Port}
use Rattle.asm_portable.specs.declared.port.Field.{Field}
use Rattle.asm_portable.specs.Ports.{fields_of}

-- one level of a tree, with an A in place of each item and a B in place of each field
module _ {A B : Type 0} where
  -- the number of its kind, in the order of kinds
  abbrev pub kind : Port-F A B → ℕ
  kind Port-F.Null = 0
  kind (Port-F.Bool b) = 1
  kind (Port-F.Int n) = 2
  kind (Port-F.Text t) = 3
  kind (Port-F.List trees) = 4
  kind (Port-F.Fields fs) = 5

  -- false is 0 and true is 1
  abbrev pub number : Port-F A B → ℤ
  number (Port-F.Bool false) = pos 0
  number (Port-F.Bool true) = pos 1
  number (Port-F.Int n) = n
  number _ = pos 0

  -- the bytes of a text
  abbrev pub bytes : Port-F A B → List ℕ
  bytes (Port-F.Text t) = t
  bytes _ = []

  -- the items of a list
  abbrev pub items : Port-F A B → List A
  items (Port-F.List trees) = trees
  items _ = []

-- by kind, then by number and bytes
abbrev pub head_cmp : {A B C D : Type 0} → Port-F A B → Port-F C D → Ordering
head_cmp a b =
    ordering_then (nat_cmp (kind a) (kind b))
    (ordering_then (int_cmp (number a) (number b)) (slice_cmp nat_cmp (bytes a) (bytes b)))

-- the same of a whole tree
abbrev pub kind_of : Port → ℕ
kind_of tree = kind (out-Port tree)

abbrev pub number_of : Port → ℤ
number_of tree = number (out-Port tree)

abbrev pub bytes_of : Port → List ℕ
bytes_of tree = bytes (out-Port tree)

abbrev pub items_of : Port → List Port
items_of tree = items (out-Port tree)

abbrev pub compare_head : Port → Port → Ordering
compare_head tree other = head_cmp (out-Port tree) (out-Port other)

-- the items or the fields, each compared by what stands in its place
abbrev pub parts_cmp : Port-F (Port → Ordering) (Field → Ordering) → Port → Ordering
parts_cmp (Port-F.List trees) other = slice_cmp (λ f. f) trees (items_of other)
parts_cmp (Port-F.Fields fs) other = slice_cmp (λ f. f) fs (fields_of other)
parts_cmp _ other = Equal

-- The order of trees: by kind, then false before true, integers by number, texts by bytes, lists
-- item by item and fields pair by pair, key before tree, with a prefix first.
unfoldable pub port_cmp : Port → Port → Ordering
port_cmp =
    fold-Port (Port → Ordering) (Field → Ordering)
    (λ a other. ordering_then (head_cmp a (out-Port other)) (parts_cmp a other))
    (λ f other. ordering_then (slice_cmp nat_cmp f.key other.key) (f.tree other.tree))

-- a field by its key, and then by its tree
abbrev pub field_cmp : Field → Field → Ordering
field_cmp f g = ordering_then (slice_cmp nat_cmp f.key g.key) (port_cmp f.tree g.tree)
