-- The members of a domain that is finite, at the members that the abstract domains have in a state.
use Rattle.std.specs.Prelude.{◌≡◌, ℕ, ℤ, ◌≤◌, min, Bool, true, false, List, [], ◌∷◌, map, length}
use Rattle.std.specs.Prelude.{Some, None, slice_get}
use Rattle.std.specs.List.{AllByRecursion, list_all, range_with_len}
use Rattle.std.specs.List.Sorted.{IsStrictlySortedBy}
use Rattle.std.specs.Ordering.{nat_cmp, int_cmp}
use Rattle.asm_value.specs.declared.value.Value.{Value}
use Rattle.asm_value.specs.declared.value.Value.TheVariants.{Undef, Truth, Int, Member, Tuple, Set}
use Rattle.asm_value.specs.declared.domain.Domain.{Domain}
use Rattle.asm_value.specs.declared.domain.Domain.TheOpen.{Domain-F}
use Rattle.asm_value.specs.declared.domain.Domain.TheFolds.{fold-Domain}
use Rattle.asm_value.specs.declared.domain.DomainInfo.{DomainInfo}
use Rattle.asm_value.specs.declared.domain.DomainKind.{DomainKind}
use Rattle.asm_value.specs.declared.domain.DomainKind.TheVariants as kind
use Rattle.asm_value.specs.declared.domain.Live.{Live}
use Rattle.asm_value.specs.Value.{compare}
use Rattle.asm_value.specs.Proper.{IsProper}
use Rattle.asm_value.specs.Ranges.{Mem, tuples, sets_of}

-- how many literals, and which integers, the declared domain with this number has
abbrev pub literals_of : DomainKind → ℕ
literals_of (kind.Enum names) = length names
literals_of (kind.Abstract names) = 0
literals_of (kind.Subset numbers) = 0

abbrev pub numbers_of : DomainKind → List ℤ
numbers_of (kind.Enum names) = []
numbers_of (kind.Abstract names) = []
numbers_of (kind.Subset numbers) = numbers

abbrev pub literal_count : List DomainInfo → ℕ → ℕ
literal_count domains d =
    elim (slice_get domains d) as (λ _. ℕ) [ None ↦ 0 | Some info ↦ literals_of info.kind ]

abbrev pub subset_numbers : List DomainInfo → ℕ → List ℤ
subset_numbers domains d =
    elim (slice_get domains d) as (λ _. List ℤ) [ None ↦ [] | Some info ↦ numbers_of info.kind ]

-- the indexes of the members that the declared domain has in the state
abbrev pub live_indexes : Live → ℕ → List ℕ
live_indexes live d =
    elim (slice_get live.members d) as (λ _. List ℕ) [ None ↦ [] | Some indexes ↦ indexes ]

abbrev pub members_at : ℕ → List ℕ → List Value
members_at d indexes = map (λ i. Member d i) indexes

-- the literals of an enumeration, of which at most 65,535 are listed
abbrev pub listed_literals : List DomainInfo → ℕ → List Value
listed_literals domains d = members_at d (range_with_len 0 (min (literal_count domains d) 65535))

module _ (domains : List DomainInfo) (live : Live) where
  -- one level of the domain, with the members of each part in its place
  abbrev pub members_level : Domain-F (List Value) → List Value
  members_level Domain-F.Truth = Truth false ∷ Truth true ∷ []
  members_level (Domain-F.Enum d) = listed_literals domains d
  members_level (Domain-F.Abstract d) = members_at d (live_indexes live d)
  members_level (Domain-F.Subset d) = map (λ n. Int n) (subset_numbers domains d)
  members_level (Domain-F.Prod ranges) = map (λ xs. Tuple xs) (tuples ranges)
  members_level (Domain-F.Power items) = map (λ xs. Set xs) (sets_of items)
  members_level _ = []

  -- the members, ascending; none are listed of a domain that is not finite
  unfoldable pub members : Domain → List Value
  members = fold-Domain (List Value) members_level

-- built of Boolean and declared domains by products and powersets
abbrev pub is_finite_level : Domain-F Bool → Bool
is_finite_level Domain-F.Truth = true
is_finite_level (Domain-F.Enum d) = true
is_finite_level (Domain-F.Abstract d) = true
is_finite_level (Domain-F.Subset d) = true
is_finite_level (Domain-F.Prod parts) = list_all (λ b. b) parts
is_finite_level (Domain-F.Power part) = part
is_finite_level _ = false

unfoldable pub is_finite : Domain → Bool
is_finite = fold-Domain Bool is_finite_level

-- the integers of each subset and the indexes of members ascend, and no enumeration has over 65,535
-- literals
pub record AreListed (domains : List DomainInfo) (live : Live) : Type 0 where
  pub literals : (d : ℕ) → literal_count domains d ≤ 65535
  pub numbers : (d : ℕ) → IsStrictlySortedBy int_cmp (subset_numbers domains d)
  pub indexes : (d : ℕ) → IsStrictlySortedBy nat_cmp (live_indexes live d)

-- the list ascends and has exactly the values that pass the test, which undef does not
pub record Lists (test : Value → Bool) (vs : List Value) : Type 0 where
  pub ascends : IsStrictlySortedBy compare vs
  pub fit : AllByRecursion (λ v. IsProper v × (test v ≡ true)) vs
  pub complete : (v : Value) → IsProper v → test v ≡ true → Mem v vs
  pub defined : test Undef ≡ false
