-- Portable trees, as definitions write them.
use Rattle.std.specs.Prelude.{ℕ, pos, Bool, true, false, Option, Some, None, List, [], ◌∷◌}
use Rattle.asm_portable.specs.declared.port.Port.{Port}
use Rattle.asm_portable.specs.declared.port.Port.TheOpen.{Port-F}
use Rattle.asm_portable.specs.declared.port.Port.TheVariants as ports
use Rattle.asm_portable.specs.declared.port.Port.TheViews.{out-Port}
use Rattle.asm_portable.specs.declared.port.Field.{Field}
use Rattle.asm_portable.specs.Ascending.{put_by, AscendsBy}

abbrev pub text : List ℕ → Port
text bytes = ports.Text bytes

abbrev pub number : ℕ → Port
number n = ports.Int (pos n)

abbrev pub list : List Port → Port
list trees = ports.List trees

abbrev pub field : List ℕ → Port → Field
field key tree = record { key = key; tree = tree }

abbrev pub fields : List Field → Port
fields fs = ports.Fields fs

abbrev pub fields_level : {A B : Type 0} → Port-F A B → List B
fields_level (Port-F.Fields fs) = fs
fields_level _ = []

-- the fields of a tree, none where it is no object
abbrev pub fields_of : Port → List Field
fields_of tree = fields_level (out-Port tree)

abbrev pub list_level : {A B : Type 0} → Port-F A B → Option (List A)
list_level (Port-F.List trees) = Some trees
list_level _ = None

-- the items of a tree that is a list
abbrev pub as_list : Port → Option (List Port)
as_list tree = list_level (out-Port tree)

abbrev pub text_level : {A B : Type 0} → Port-F A B → Option (List ℕ)
text_level (Port-F.Text bytes) = Some bytes
text_level _ = None

-- the bytes of a tree that is a text
abbrev pub as_text : Port → Option (List ℕ)
as_text tree = text_level (out-Port tree)

abbrev pub null_level : {A B : Type 0} → Port-F A B → Bool
null_level Port-F.Null = true
null_level _ = false

-- the tree stands for undef
abbrev pub is_null : Port → Bool
is_null tree = null_level (out-Port tree)

-- a field before those of greater keys, in place of one with its key
abbrev pub put_field : Field → List Field → List Field
put_field f fs = put_by (λ g. g.key) f fs

-- the fields, ascending by key; of equal keys the first counts
abbrev pub ascending : List Field → List Field
ascending [] = []
ascending (f ∷ fs) = put_field f (ascending fs)

-- each key is below those after it
abbrev pub AscendByKey : List Field → Type 0
AscendByKey fs = AscendsBy (λ f. f.key) fs
