-- The weight of a portable tree, which is this project's own.
use Rattle.std.specs.Prelude.{ℕ, ◌+◌, ◌^◌, ◌-◌, min, List, sum, sum_by}
use Rattle.asm_base.specs.Weight.{text_weight}
use Rattle.asm_portable.specs.declared.port.Port.{Port}
use Rattle.asm_portable.specs.declared.port.Port.TheOpen.{Port-F}
use Rattle.asm_portable.specs.declared.port.Port.TheFolds.{fold-Port}
use Rattle.asm_portable.specs.declared.port.Field.{Field}

-- one level of a tree, with the weight of each part in its place
abbrev pub weight_level : Port-F ℕ ℕ → ℕ
weight_level Port-F.Null = 1
weight_level (Port-F.Bool b) = 1
weight_level (Port-F.Int n) = 1
weight_level (Port-F.Text bytes) = text_weight bytes
weight_level (Port-F.List trees) = 1 + sum trees
weight_level (Port-F.Fields fields) = 1 + sum fields

-- a field weighs its key and its tree
unfoldable pub whole_weight : Port → ℕ
whole_weight = fold-Port ℕ ℕ weight_level (λ f. text_weight f.key + f.tree)

-- the sum over fields
abbrev pub fields_weight : List Field → ℕ
fields_weight fs = sum_by (λ f. text_weight f.key + whole_weight f.tree) fs

-- The weight: a weight of 2^64 or more counts as 2^64 - 1.
abbrev pub weight : Port → ℕ
weight tree = min (whole_weight tree) (2 ^ 64 - 1)
