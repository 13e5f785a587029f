-- The portable tree of a value.
use Rattle.std.specs.Prelude.{ℕ, ◌^◌, ℤ, pos, negsuc, Bool, nat_lt, if◌then◌else◌, List, [], ◌++◌, slice_get, codes}
use Rattle.std.specs.Option.{option_map_or}
use Rattle.std.specs.Fmt.{decimal, signed_decimal}
use Rattle.asm_value.specs.declared.value.Value.{Value}
use Rattle.asm_value.specs.declared.value.Value.TheOpen.{Value-F}
use Rattle.asm_value.specs.declared.value.Value.TheFolds.{fold-Value}
use Rattle.asm_value.specs.declared.domain.DomainInfo.{DomainInfo}
use Rattle.asm_value.specs.declared.domain.DomainKind.{DomainKind}
use Rattle.asm_value.specs.declared.domain.DomainKind.TheVariants as kinds
use Rattle.asm_portable.specs.declared.port.Port.{Port}
use Rattle.asm_portable.specs.declared.port.Port.TheVariants as ports

-- from -2^63 to 2^63 - 1
abbrev pub is_short : ℤ → Bool
is_short (pos n) = nat_lt n (2 ^ 63)
is_short (negsuc n) = nat_lt n (2 ^ 63)

-- an integer of 64 bits is a number, any other the string of its digits
abbrev pub integer_port : ℤ → Port
integer_port n = if is_short n then ports.Int n else ports.Text (signed_decimal n)

-- a new member's name: its domain, `!` and its index
abbrev pub numbered : List ℕ → ℕ → List ℕ
numbered domain index = domain ++ codes "!" ++ decimal index

-- a literal or a constant goes by its name
abbrev pub member_of_kind : List ℕ → ℕ → DomainKind → List ℕ
member_of_kind domain index (kinds.Enum names) =
    option_map_or (λ name. name) (slice_get names index) []
member_of_kind domain index (kinds.Abstract names) =
    option_map_or (λ name. name) (slice_get names index) (numbered domain index)
member_of_kind domain index (kinds.Subset numbers) = []

abbrev pub member_name : List DomainInfo → ℕ → ℕ → List ℕ
member_name domains domain index =
    option_map_or (λ info. member_of_kind info.name index info.kind) (slice_get domains domain) []

-- one level of a value, with the tree of each part in its place
abbrev pub port_level : List DomainInfo → Value-F Port → Port
port_level domains Value-F.Undef = ports.Null
port_level domains (Value-F.Truth b) = ports.Bool b
port_level domains (Value-F.Int n) = integer_port n
port_level domains (Value-F.Chars bytes) = ports.Text bytes
port_level domains (Value-F.Member domain index) = ports.Text (member_name domains domain index)
port_level domains (Value-F.Tuple parts) = ports.List parts
port_level domains (Value-F.Seq parts) = ports.List parts
port_level domains (Value-F.Set parts) = ports.List parts

unfoldable pub port_of : List DomainInfo → Value → Port
port_of domains = fold-Value Port (port_level domains)
