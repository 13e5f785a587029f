-- What types keep: they are ordered by `fits`, and the join is the least type that both fit.
use Rattle.std.specs.Prelude.{◌≡◌, Bool, true, false, Some, List, ◌↔◌}
use Rattle.std.specs.List.{list_all}
use Rattle.std.specs.Option.{option_and_then, option_map_or}
use Rattle.asm_value.specs.declared.domain.Domain.{Domain}
use Rattle.asm_typing.specs.declared.types.Type.{«Type» as TermType}
use Rattle.asm_typing.specs.declared.types.Type.TheViews.{out-Type}
use Rattle.asm_typing.specs.Domains.{type_of, domain_of, is_typed}
use Rattle.asm_typing.specs.Fits.{fits}
use Rattle.asm_typing.specs.Joins.{join, join_of, join_all}

abbrev pub FitsItself : Type 0
FitsItself = (t : TermType) → fits t t ≡ true

abbrev pub FitsOnward : Type 0
FitsOnward = (s t u : TermType) → fits s t ≡ true → fits t u ≡ true → fits s u ≡ true

abbrev pub FitBothWays : Type 0
FitBothWays = (s t : TermType) → fits s t ≡ true → fits t s ≡ true → s ≡ t

-- both types fit what they join to
abbrev pub BothFitTheJoin : Type 0
BothFitTheJoin = (s t u : TermType) → join s t ≡ Some u → (fits s u ≡ true) × (fits t u ≡ true)

-- there is a join, and it fits the type
abbrev pub joins_within : TermType → TermType → TermType → Bool
joins_within s t u = option_map_or (λ v. fits v u) (join s t) false

-- whatever type both fit, their join is there and fits it too
abbrev pub TheJoinIsLeast : Type 0
TheJoinIsLeast =
    (s t u : TermType) → fits s u ≡ true → fits t u ≡ true → joins_within s t u ≡ true

abbrev pub JoinsEitherWay : Type 0
JoinsEitherWay = (s t : TermType) → join s t ≡ join t s

-- three types join to one, or to none, whichever two are joined first
abbrev pub JoinsInAnyOrder : Type 0
JoinsInAnyOrder = (s t u : TermType)
    → option_and_then (λ v. join v u) (join s t) ≡ option_and_then (λ v. join s v) (join t u)

-- the join of several types is the least that all fit
abbrev pub all_fit : List TermType → TermType → Bool
all_fit ts u = list_all (λ t. fits t u) ts

abbrev pub AllFitTheirJoin : Type 0
AllFitTheirJoin = (ts : List TermType) (u : TermType) → join_all ts ≡ Some u → all_fit ts u ≡ true

abbrev pub joined_within : List TermType → TermType → Bool
joined_within ts u = option_map_or (λ v. fits v u) (join_all ts) false

abbrev pub TheirJoinIsLeast : Type 0
TheirJoinIsLeast =
    (ts : List TermType) (u : TermType) → all_fit ts u ≡ true → joined_within ts u ≡ true

abbrev pub FitsWhatItJoinsTo : Type 0
FitsWhatItJoinsTo = (s t : TermType) → (fits s t ≡ true) ↔ (join s t ≡ Some t)

abbrev pub JoinsByParts : Type 0
JoinsByParts = (s t : TermType) → join s t ≡ join_of (out-Type s) (out-Type t)

-- a type without an untyped part is that of its domain, and each domain's type has no such part
abbrev pub IsTypeOfItsDomain : Type 0
IsTypeOfItsDomain = (t : TermType) → is_typed t ≡ true → type_of (domain_of t) ≡ t

abbrev pub DomainsAreTyped : Type 0
DomainsAreTyped = (d : Domain) → is_typed (type_of d) ≡ true
