-- The type of a domain's values, and a domain whose values are of a type.
use Rattle.std.specs.Prelude.{Bool, true, false}
use Rattle.std.specs.List.{list_all}
use Rattle.asm_value.specs.declared.domain.Domain.{Domain}
use Rattle.asm_value.specs.declared.domain.Domain.TheOpen.{Domain-F}
use Rattle.asm_value.specs.declared.domain.Domain.TheVariants as domain
use Rattle.asm_value.specs.declared.domain.Domain.TheFolds.{fold-Domain}
use Rattle.asm_typing.specs.declared.types.Type.{«Type» as TermType}
use Rattle.asm_typing.specs.declared.types.Type.TheOpen.{Type-F}
use Rattle.asm_typing.specs.declared.types.Type.TheVariants as type
use Rattle.asm_typing.specs.declared.types.Type.TheFolds.{fold-Type}

-- one level of the domain, with the type of each part in its place: the naturals and the subsets
-- count as integers
abbrev pub type_level : Domain-F TermType → TermType
type_level Domain-F.Truth = type.Truth
type_level Domain-F.Int = type.Int
type_level Domain-F.Nat = type.Int
type_level Domain-F.Chars = type.Chars
type_level (Domain-F.Enum d) = type.Enum d
type_level (Domain-F.Abstract d) = type.Abstract d
type_level (Domain-F.Subset d) = type.Int
type_level (Domain-F.Prod ts) = type.Prod ts
type_level (Domain-F.Seq t) = type.Seq t
type_level (Domain-F.Power t) = type.Set t

unfoldable pub type_of : Domain → TermType
type_of = fold-Domain TermType type_level

-- one level of the type, with the domain of each part in its place; what has no value has no domain
-- of its own, and gets that of the truth values
abbrev pub domain_level : Type-F Domain → Domain
domain_level Type-F.Untyped = domain.Truth
domain_level Type-F.Truth = domain.Truth
domain_level Type-F.Int = domain.Int
domain_level Type-F.Chars = domain.Chars
domain_level (Type-F.Enum d) = domain.Enum d
domain_level (Type-F.Abstract d) = domain.Abstract d
domain_level (Type-F.Prod ds) = domain.Prod ds
domain_level (Type-F.Seq d) = domain.Seq d
domain_level (Type-F.Set d) = domain.Power d

unfoldable pub domain_of : TermType → Domain
domain_of = fold-Type Domain domain_level

-- no part of the type is untyped
abbrev pub typed_level : Type-F Bool → Bool
typed_level Type-F.Untyped = false
typed_level (Type-F.Prod parts) = list_all (λ b. b) parts
typed_level (Type-F.Seq item) = item
typed_level (Type-F.Set item) = item
typed_level _ = true

unfoldable pub is_typed : TermType → Bool
is_typed = fold-Type Bool typed_level
