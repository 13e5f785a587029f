-- Which values a type has.
use Rattle.std.specs.Prelude.{◌≡◌, Bool, true, false, ◌==◌, List}
use Rattle.std.specs.List.{list_all}
use Rattle.asm_value.specs.declared.value.Value.{Value}
use Rattle.asm_value.specs.declared.value.Value.TheOpen.{Value-F}
use Rattle.asm_value.specs.declared.value.Value.TheViews.{out-Value}
use Rattle.asm_value.specs.declared.domain.Domain.{Domain}
use Rattle.asm_value.specs.declared.domain.DomainInfo.{DomainInfo}
use Rattle.asm_value.specs.declared.domain.Live.{Live}
use Rattle.asm_value.specs.Domain.{each_passes, fits as is_in}
use Rattle.asm_typing.specs.declared.types.Type.{«Type» as TermType}
use Rattle.asm_typing.specs.declared.types.Type.TheOpen.{Type-F}
use Rattle.asm_typing.specs.declared.types.Type.TheVariants as type
use Rattle.asm_typing.specs.declared.types.Type.TheFolds.{fold-Type}
use Rattle.asm_typing.specs.Domains.{type_of}
use Rattle.asm_typing.specs.Fits.{fits}

-- one level of the type, with the test of each part in its place, against one level of the value:
-- what is untyped has no value, and a member of a declared domain counts whichever there are
abbrev pub has_level : Type-F (Value → Bool) → Value-F Value → Bool
has_level Type-F.Truth (Value-F.Truth b) = true
has_level Type-F.Int (Value-F.Int n) = true
has_level Type-F.Chars (Value-F.Chars t) = true
has_level (Type-F.Enum d) (Value-F.Member e i) = e == d
has_level (Type-F.Abstract d) (Value-F.Member e i) = e == d
has_level (Type-F.Prod tests) (Value-F.Tuple xs) = each_passes tests xs
has_level (Type-F.Seq test) (Value-F.Seq xs) = list_all test xs
has_level (Type-F.Set test) (Value-F.Set xs) = list_all test xs
has_level _ _ = false

-- the type has the value
unfoldable pub has : TermType → Value → Bool
has = fold-Type (Value → Bool) (λ a v. has_level a (out-Value v))

abbrev pub UntypedHasNone : Type 0
UntypedHasNone = (v : Value) → has type.Untyped v ≡ false

-- what fits a type has no other values
abbrev pub FitsWithItsValues : Type 0
FitsWithItsValues =
    (s t : TermType) (v : Value) → fits s t ≡ true → has s v ≡ true → has t v ≡ true

-- a domain's type has the domain's values, whichever members there are in the state
abbrev pub HasValuesOfItsDomain : Type 0
HasValuesOfItsDomain = (domains : List DomainInfo) (live : Live) (d : Domain) (v : Value)
    → is_in domains live d v ≡ true → has (type_of d) v ≡ true
