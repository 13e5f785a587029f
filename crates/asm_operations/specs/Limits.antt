-- The limits on values: at most 1,024 bytes in a string, 256 items in a sequence or a set, and a
-- weight of 4,096. They are this project's own.
use Rattle.std.specs.Prelude.{Bool, true, ◌&&◌, nat_le, length, if◌then◌else◌}
use Rattle.asm_value.specs.declared.value.Value.{Value}
use Rattle.asm_value.specs.declared.value.Value.TheOpen.{Value-F}
use Rattle.asm_value.specs.declared.value.Value.TheViews.{out-Value}
use Rattle.asm_value.specs.Value.{whole_weight}
use Rattle.asm_operations.specs.declared.applied.Applied.{Applied}
use Rattle.asm_operations.specs.declared.applied.Applied.TheVariants as applied

abbrev pub is_short_level : {A : Type 0} → Value-F A → Bool
is_short_level Value-F.Undef = true
is_short_level (Value-F.Truth b) = true
is_short_level (Value-F.Int n) = true
is_short_level (Value-F.Chars t) = nat_le (length t) 1024
is_short_level (Value-F.Member d i) = true
is_short_level (Value-F.Tuple xs) = true
is_short_level (Value-F.Seq xs) = nat_le (length xs) 256
is_short_level (Value-F.Set xs) = nat_le (length xs) 256

-- a string has at most 1,024 bytes, a sequence or a set at most 256 items
abbrev pub is_short : Value → Bool
is_short v = is_short_level (out-Value v)

abbrev pub keeps_limits : Value → Bool
keeps_limits v = is_short v && nat_le (whole_weight v) 4096

-- the value if it keeps its limits, else TooLarge
abbrev pub limited : Value → Applied
limited v = if keeps_limits v then applied.Value v else applied.TooLarge

-- the same of what an operation gives
abbrev pub within_limits : Applied → Applied
within_limits (applied.Value v) = limited v
within_limits applied.Overflow = applied.Overflow
within_limits applied.TooLarge = applied.TooLarge
