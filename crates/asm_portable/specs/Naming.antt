-- Declared names that tell members apart, and values that keep the limits.
use Rattle.std.specs.Prelude.{◌≡◌, ℕ, ◌<◌, ◌≤◌, ◌==◌, Bool, true, false, Option, Some, None, List, [], length, slice_get}
use Rattle.std.specs.List.{list_any}
use Rattle.asm_value.specs.declared.value.Value.{Value}
use Rattle.asm_value.specs.declared.value.Value.TheOpen.{Value-F}
use Rattle.asm_value.specs.declared.value.Value.TheFolds.{every-Value}
use Rattle.asm_value.specs.Value.{whole_weight}
use Rattle.asm_value.specs.declared.domain.DomainInfo.{DomainInfo}
use Rattle.asm_value.specs.declared.domain.DomainKind.{DomainKind}
use Rattle.asm_value.specs.declared.domain.DomainKind.TheVariants as kind
use Rattle.asm_value.specs.declared.domain.Live.{Live}
use Rattle.asm_value.specs.Domain.{is_live}
use Rattle.asm_value.specs.Living.{is_abstract}
use Rattle.asm_operations.specs.Limits.{is_short_level}
use Rattle.asm_portable.specs.Reading.{is_integer}

-- ---- names

-- the literals or the constants of a domain
abbrev pub names_of : DomainKind → List (List ℕ)
names_of (kind.Enum names) = names
names_of (kind.Abstract names) = names
names_of (kind.Subset numbers) = []

abbrev pub names_if : Option DomainInfo → List (List ℕ)
names_if None = []
names_if (Some info) = names_of info.kind

-- those of the declared domain with this number
abbrev pub names_at : List DomainInfo → ℕ → List (List ℕ)
names_at domains d = names_if (slice_get domains d)

-- the name holds `!`, which the name of a new member does and no identifier
abbrev pub has_mark : List ℕ → Bool
has_mark name = list_any (λ c. c == 33) name

-- The literals or constants of each domain are identifiers that differ, at most 256; and only
-- abstract domains have members, of indexes below 256. So it is in a text's model.
pub record TellsApart (domains : List DomainInfo) (live : Live) : Type 0 where
  pub differ : (d i j : ℕ) (name : List ℕ) → slice_get (names_at domains d) i ≡ Some name
      → slice_get (names_at domains d) j ≡ Some name → i ≡ j
  pub unmarked : (d i : ℕ) (name : List ℕ) → slice_get (names_at domains d) i ≡ Some name
      → has_mark name ≡ false
  pub few : (d : ℕ) → length (names_at domains d) ≤ 256
  pub abstract : (d i : ℕ) → is_live live d i ≡ true → is_abstract domains d ≡ true
  pub small : (d i : ℕ) → is_live live d i ≡ true → i < 256

-- ---- limits

-- an integer has 128 bits
abbrev pub is_whole_level : {A : Type 0} → Value-F A → Bool
is_whole_level Value-F.Undef = true
is_whole_level (Value-F.Truth b) = true
is_whole_level (Value-F.Int n) = is_integer n
is_whole_level (Value-F.Chars t) = true
is_whole_level (Value-F.Member d i) = true
is_whole_level (Value-F.Tuple xs) = true
is_whole_level (Value-F.Seq xs) = true
is_whole_level (Value-F.Set xs) = true

-- each integer of the value has 128 bits
abbrev pub HasIntegers : Value → Type 0
HasIntegers = every-Value (λ a. is_whole_level a ≡ true)

-- at each level a string has at most 1,024 bytes, and a sequence or a set at most 256 items
abbrev pub IsShort : Value → Type 0
IsShort = every-Value (λ a. is_short_level a ≡ true)

-- these, and a weight of at most 4,096
pub record KeepsLimits (value : Value) : Type 0 where
  pub short : IsShort value
  pub light : whole_weight value ≤ 4096
