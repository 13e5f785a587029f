-- Which domains are enumerable: those whose members a range may take one by one.
use Rattle.std.specs.Prelude.{ℕ, ◌*◌, ◌^◌, ◌==◌, Bool, true, cond, nat_le}
use Rattle.std.specs.Prelude.{Option, Some, None, is_some, List, [], ◌∷◌, length}
use Rattle.std.specs.List.{list_all}
use Rattle.asm_value.specs.declared.domain.Domain.{Domain}
use Rattle.asm_value.specs.declared.domain.Domain.TheOpen.{Domain-F}
use Rattle.asm_value.specs.declared.domain.Domain.TheFolds.{fold-Domain}
use Rattle.asm_value.specs.declared.domain.DomainInfo.{DomainInfo}
use Rattle.asm_value.specs.declared.domain.Live.{Live}
use Rattle.asm_value.specs.Members.{literal_count, subset_numbers, live_indexes}

-- the product, where each size is there
abbrev pub times : Option ℕ → Option ℕ → Option ℕ
times (Some m) (Some n) = Some (m * n)
times _ _ = None

abbrev pub product : List (Option ℕ) → Option ℕ
product [] = Some 1
product (s ∷ ss) = times s (product ss)

-- the size, where it is at most the limit
abbrev pub at_most : ℕ → Option ℕ → Option ℕ
at_most limit (Some n) = cond (nat_le n limit) (Some n) None
at_most limit None = None

-- the number of sets over this many items
abbrev pub sets_over : Option ℕ → Option ℕ
sets_over (Some n) = Some (2 ^ n)
sets_over None = None

module _ (domains : List DomainInfo) where
  -- one level of the domain, with the size of each part in its place
  abbrev pub size_level : Domain-F (Option ℕ) → Option ℕ
  size_level Domain-F.Truth = Some 2
  size_level (Domain-F.Enum d) = Some (literal_count domains d)
  size_level (Domain-F.Abstract d) = Some 256
  size_level (Domain-F.Subset d) = Some (length (subset_numbers domains d))
  size_level (Domain-F.Prod sizes) = at_most 65536 (product sizes)
  size_level (Domain-F.Power size) = sets_over (at_most 12 size)
  size_level _ = None

  -- the number of members of an enumerable domain, where an abstract domain counts 256; none for
  -- any other domain
  unfoldable pub size : Domain → Option ℕ
  size = fold-Domain (Option ℕ) size_level

  abbrev pub is_enumerable : Domain → Bool
  is_enumerable d = is_some (size d)

-- each abstract domain that the domain is built of passes the test
abbrev pub each_abstract_level : (ℕ → Bool) → Domain-F Bool → Bool
each_abstract_level test (Domain-F.Abstract d) = test d
each_abstract_level test (Domain-F.Prod parts) = list_all (λ b. b) parts
each_abstract_level test (Domain-F.Power part) = part
each_abstract_level test _ = true

unfoldable pub each_abstract : (ℕ → Bool) → Domain → Bool
each_abstract test = fold-Domain Bool (each_abstract_level test)

-- the domain with this number has the 256 members that an abstract domain counts, or no more
abbrev pub has_256 : Live → ℕ → Bool
has_256 live d = length (live_indexes live d) == 256

abbrev pub has_at_most_256 : Live → ℕ → Bool
has_at_most_256 live d = nat_le (length (live_indexes live d)) 256
