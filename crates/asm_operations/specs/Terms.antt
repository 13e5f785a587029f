-- What the terms for tuples, sequences, sets and intervals give of their parts' values. An undef
-- part makes them undef, before any limit is looked at.
use Rattle.std.specs.Prelude.{ℕ, ◌+◌, ℤ, pos, ◌+ℤ◌, ◌-ℤ◌, ◌≤ℤ◌, int_lt, unsigned_abs, List, [], map}
use Rattle.std.specs.Prelude.{if◌then◌else◌}
use Rattle.std.specs.List.{range_with_len}
use Rattle.asm_value.specs.declared.value.Value.{Value}
use Rattle.asm_value.specs.declared.value.Value.TheVariants.{Int, Tuple, Seq, Set}
use Rattle.asm_operations.specs.declared.applied.Applied.{Applied}
use Rattle.asm_operations.specs.Results.{undefined}
use Rattle.asm_operations.specs.Limits.{limited}
use Rattle.asm_operations.specs.Readers.{any_undef, of_ints}
use Rattle.asm_operations.specs.Sets.{set_items}

abbrev pub of_defined : List Value → Applied → Applied
of_defined vs outcome = if any_undef vs then undefined else outcome

abbrev pub tuple_of : List Value → Applied
tuple_of vs = of_defined vs (limited (Tuple vs))

abbrev pub sequence_of : List Value → Applied
sequence_of vs = of_defined vs (limited (Seq vs))

-- the limit counts the different items
abbrev pub limited_set : List Value → Applied
limited_set vs = limited (Set (set_items vs))

abbrev pub set_of : List Value → Applied
set_of vs = of_defined vs (limited_set vs)

-- so many integers from one on
abbrev pub ints_from : ℤ → ℕ → List Value
ints_from first n = map (λ k. Int (first +ℤ pos k)) (range_with_len 0 n)

-- the integers from one to another, none where the first is above
abbrev pub interval : ℤ → ℤ → List Value
interval first last =
    if int_lt last first then [] else ints_from first (unsigned_abs (last -ℤ first) + 1)

-- so many integers from the first on go no further than the last
abbrev pub EndsBy : ℤ → ℤ → ℕ → Type 0
EndsBy first last n = (first +ℤ pos n) ≤ℤ (last +ℤ pos 1)

abbrev pub limited_interval : ℤ → ℤ → Applied
limited_interval first last = limited (Set (interval first last))

-- undef where an end isn't an integer
abbrev pub interval_of : Value → Value → Applied
interval_of = of_ints limited_interval
