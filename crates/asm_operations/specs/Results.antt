-- What an operation gives: the plain results.
use Rattle.std.specs.Prelude.{ℕ, ◌^◌, ℤ, pos, negsuc, Bool, nat_lt, if◌then◌else◌, Option}
use Rattle.std.specs.Option.{option_map_or}
use Rattle.asm_value.specs.declared.value.Value.TheVariants.{Undef, Truth, Int}
use Rattle.asm_operations.specs.declared.applied.Applied.{Applied}
use Rattle.asm_operations.specs.declared.applied.Applied.TheVariants as applied

abbrev pub undefined : Applied
undefined = applied.Value Undef

abbrev pub truth : Bool → Applied
truth b = applied.Value (Truth b)

abbrev pub int : ℤ → Applied
int z = applied.Value (Int z)

abbrev pub count : ℕ → Applied
count n = int (pos n)

-- the integers of the language are those from -2^127 to 2^127 - 1
abbrev pub in_range : ℤ → Bool
in_range (pos n) = nat_lt n (2 ^ 127)
in_range (negsuc n) = nat_lt n (2 ^ 127)

-- the integer, Overflow where there is none
abbrev pub checked : Option ℤ → Applied
checked o = option_map_or int o applied.Overflow

-- the integer, Overflow outside the range
abbrev pub bounded : ℤ → Applied
bounded z = if in_range z then int z else applied.Overflow
