-- The members of a program's domains in a state.
use Rattle.std.specs.Prelude.{ℕ, Bool, ◌&&◌, nat_le, List, [], length, map}
use Rattle.std.specs.List.{list_all, range_with_len}
use Rattle.asm_value.specs.declared.value.Value.{Value}
use Rattle.asm_value.specs.declared.domain.Domain.{Domain}
use Rattle.asm_value.specs.declared.domain.DomainInfo.{DomainInfo}
use Rattle.asm_value.specs.declared.domain.DomainKind.{DomainKind}
use Rattle.asm_value.specs.declared.domain.DomainKind.TheVariants as kind
use Rattle.asm_value.specs.declared.domain.Live.{Live}
use Rattle.asm_value.specs.State.{StateMap}
use Rattle.asm_value.specs.Living.{live_of}
use Rattle.asm_value.specs.Members.{members}
use Rattle.asm_value.specs.Ranges.{tuples}

-- how many constants the declared domain has: the members that it has from the start
abbrev pub constants_of : DomainKind → ℕ
constants_of (kind.Enum names) = 0
constants_of (kind.Abstract names) = length names
constants_of (kind.Subset numbers) = 0

-- at most 256 declared domains, each with at most 256 constants
abbrev pub domains_are_few : List DomainInfo → Bool
domains_are_few domains =
    nat_le (length domains) 256 && list_all (λ info. nat_le (constants_of info.kind) 256) domains

-- all indexes that members of the declared domain can have
abbrev pub indexes_of : DomainKind → List ℕ
indexes_of (kind.Enum names) = []
indexes_of (kind.Abstract names) = range_with_len 0 256
indexes_of (kind.Subset numbers) = []

-- each abstract domain with all its 256 members
abbrev pub everyone_of : List DomainInfo → Live
everyone_of domains = record { members = map (λ info. indexes_of info.kind) domains }

-- the members of the domain in a state, ascending
abbrev pub range : List DomainInfo → StateMap → Domain → List Value
range domains state = members domains (live_of state domains)

-- one member of each domain, the first slowest
abbrev pub combinations : List DomainInfo → StateMap → List Domain → List (List Value)
combinations domains state ranges = tuples (map (range domains state) ranges)
