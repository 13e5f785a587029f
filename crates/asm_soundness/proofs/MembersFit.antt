-- The members that a domain has in a state fit it, and so do combinations of them.
use Rattle.std.proofs.Common.{◌≡◌, ℕ, ℤ, ◌+◌, ◌<◌, ◌==◌, min, Bool, true, false, List, [], ◌∷◌, map}
use Rattle.std.proofs.Common.{slice_get, refl, sym, ap, subst, ◌∙◌, arith}
use Rattle.std.specs.List.{AllByRecursion, list_all, range_with_len}
use Rattle.std.specs.Ordering.{int_eq}
use Rattle.std.proofs.lemmas.Bool.Decides.{Decides-int_eq, Decides-eqb}
use Rattle.asm_value.specs.declared.value.Value.{Value}
use Rattle.asm_value.specs.declared.value.Value.TheOpen.{Value-F}
use Rattle.asm_value.specs.declared.value.Value.TheVariants.{Truth, Int, Member, Tuple, Set}
use Rattle.asm_value.specs.declared.value.Value.TheViews.{out-Value}
use Rattle.asm_value.specs.declared.domain.Domain.{Domain}
use Rattle.asm_value.specs.declared.domain.Domain.TheOpen.{Domain-F}
use Rattle.asm_value.specs.declared.domain.Domain.TheFolds.{map-Domain, ind-Domain}
use Rattle.asm_value.specs.declared.domain.Domain.TheViews.{roll-Domain}
use Rattle.asm_value.specs.declared.domain.DomainInfo.{DomainInfo}
use Rattle.asm_value.specs.declared.domain.Live.{Live}
use Rattle.asm_value.specs.Domain.{fits, fits_level, is_literal, is_live, each_passes}
use Rattle.asm_value.specs.Members.{members, members_level, literal_count, subset_numbers}
use Rattle.asm_value.specs.Members.{live_indexes}
use Rattle.asm_value.specs.Ranges.{Mem, tuples, sets_of}
use Rattle.asm_value.proofs.Listing.{both_true, found-mem, numbers_below, all_each_first, all_sets}
use Rattle.asm_value.proofs.Listing.{all_of}
use Rattle.asm_value.proofs.MemberLists.{out_truth, out_int, out_member, out_tuple, out_set}
use Rattle.asm_value.proofs.MemberLists.{literal_is, number_is, live_is}
use Rattle.asm_value.proofs.MembersLaws.{members-out, out_roll_domain}
use Rattle.asm_value.proofs.RangeLaws.{all_map, all_weaker}
use Rattle.asm_soundness.proofs.Fits.{tests_of, fits-roll}

module _ (domains : List DomainInfo) (live : Live) where
  abbrev Fit : Domain → List Value → Type 0
  Fit d vs = AllByRecursion (λ v. fits domains live d v ≡ true) vs

  abbrev MembersFit : Domain → Type 0
  MembersFit d = Fit d (members domains live d)

  abbrev Held : Type 0
  Held = (d : Domain) × MembersFit d

  abbrev whole : Domain-F Held → Domain-F Domain
  whole y = map-Domain Held Domain (λ e. e.0) y

  abbrev lists_of : Domain-F Domain → Domain-F (List Value)
  lists_of a = map-Domain Domain (List Value) (members domains live) a

  members-roll : (a : Domain-F Domain)
      → members domains live (roll-Domain a) ≡ members_level domains live (lists_of a)
  members-roll a =
      members-out domains live (roll-Domain a)
      ∙ ap (λ b. members_level domains live (lists_of b)) (out_roll_domain a)

  -- what one level of a domain tests
  abbrev test : Domain-F (Value → Bool) → Value → Bool
  test a v = fits_level domains live a (out-Value v)

  abbrev Tested : Domain-F (Value → Bool) → Value → Type 0
  Tested a v = test a v ≡ true

  as_level : (a : Domain-F (Value → Bool)) (v : Value) (b : Value-F Value) → out-Value v ≡ b
      → fits_level domains live a b ≡ true → Tested a v
  as_level a v b o h = ap (fits_level domains live a) o ∙ h

  same_number : (d : ℕ) → (d == d) ≡ true
  same_number d = (Decides-eqb d d).1 refl

  literal_fits : (d i : ℕ) → i < 0 + min (literal_count domains d) 65535
      → Tested (Domain-F.Enum d) (Member d i)
  literal_fits d i h =
      as_level (Domain-F.Enum d) (Member d i) (Value-F.Member d i) (out_member d i)
      (both_true (d == d) (is_literal domains d i) (same_number d)
      (literal_is (slice_get domains d) i (omega (arith, h))))

  live_fits : (d i : ℕ) → Mem i (live_indexes live d) → Tested (Domain-F.Abstract d) (Member d i)
  live_fits d i m =
      as_level (Domain-F.Abstract d) (Member d i) (Value-F.Member d i) (out_member d i)
      (both_true (d == d) (is_live live d i) (same_number d)
      (live_is (slice_get live.members d) i
      ∙ found-mem (λ j k. j == k) Decides-eqb i (live_indexes live d) m))

  number_fits : (d : ℕ) (n : ℤ) → Mem n (subset_numbers domains d)
      → Tested (Domain-F.Subset d) (Int n)
  number_fits d n m =
      as_level (Domain-F.Subset d) (Int n) (Value-F.Int n) (out_int n)
      (number_is (slice_get domains d) n
      ∙ found-mem int_eq Decides-int_eq n (subset_numbers domains d) m)

  -- ---- products and powersets

  abbrev pub EachFits : List Domain → List Value → Type 0
  EachFits ds vs = each_passes (map (fits domains live) ds) vs ≡ true

  tuples_of_held : (es : List Held)
      → AllByRecursion (EachFits (map (λ e. e.0) es))
      (tuples (map (members domains live) (map (λ e. e.0) es)))
  tuples_of_held [] = (refl, tt)
  tuples_of_held (e ∷ es) =
      let rest = map (λ e. e.0) es in
      all_each_first (λ x. fits domains live e.0 x ≡ true) (EachFits rest) (EachFits (e.0 ∷ rest))
      (λ x zs q s. both_true (fits domains live e.0 x) _ q s)
      (members domains live e.0) (tuples (map (members domains live) rest)) e.1
      (tuples_of_held es)

  tuple_fits : (ts : List (Value → Bool)) (xs : List Value) → each_passes ts xs ≡ true
      → Tested (Domain-F.Prod ts) (Tuple xs)
  tuple_fits ts xs h = as_level (Domain-F.Prod ts) (Tuple xs) (Value-F.Tuple xs) (out_tuple xs) h

  items_fit : (t : Value → Bool) (xs : List Value) → AllByRecursion (λ x. t x ≡ true) xs
      → list_all t xs ≡ true
  items_fit t [] h = refl
  items_fit t (x ∷ xs) h = both_true (t x) (list_all t xs) h.0 (items_fit t xs h.1)

  set_fits : (t : Value → Bool) (xs : List Value) → AllByRecursion (λ x. t x ≡ true) xs
      → Tested (Domain-F.Power t) (Set xs)
  set_fits t xs h =
      as_level (Domain-F.Power t) (Set xs) (Value-F.Set xs) (out_set xs) (items_fit t xs h)

  -- ---- by the domain

  level_fits : (y : Domain-F Held)
      → AllByRecursion (Tested (tests_of domains live (whole y)))
      (members_level domains live (lists_of (whole y)))
  level_fits Domain-F.Truth = (
    as_level Domain-F.Truth (Truth false) (Value-F.Truth false) (out_truth false) refl,
    (as_level Domain-F.Truth (Truth true) (Value-F.Truth true) (out_truth true) refl, tt),
  )
  level_fits Domain-F.Int = tt
  level_fits Domain-F.Nat = tt
  level_fits Domain-F.Chars = tt
  level_fits (Domain-F.Enum d) =
      let indexes = range_with_len 0 (min (literal_count domains d) 65535) in
      all_map (λ i. Member d i) (Tested (Domain-F.Enum d)) indexes
      (all_weaker (λ i. i < 0 + min (literal_count domains d) 65535) _ (literal_fits d)
      indexes (numbers_below 0 _))
  level_fits (Domain-F.Abstract d) =
      all_map (λ i. Member d i) (Tested (Domain-F.Abstract d)) (live_indexes live d)
      (all_of _ (live_indexes live d) (live_fits d))
  level_fits (Domain-F.Subset d) =
      all_map (λ n. Int n) (Tested (Domain-F.Subset d)) (subset_numbers domains d)
      (all_of _ (subset_numbers domains d) (number_fits d))
  level_fits (Domain-F.Prod es) =
      let ds = map (λ e. e.0) es in
      let ts = map (fits domains live) ds in
      let tuples_there = tuples (map (members domains live) ds) in
      all_map (λ xs. Tuple xs) (Tested (Domain-F.Prod ts)) tuples_there
      (all_weaker (EachFits ds) _ (tuple_fits ts) tuples_there (tuples_of_held es))
  level_fits (Domain-F.Seq e) = tt
  level_fits (Domain-F.Power e) =
      let sets_there = sets_of (members domains live e.0) in
      all_map (λ xs. Set xs) (Tested (Domain-F.Power (fits domains live e.0))) sets_there
      (all_weaker (λ xs. AllByRecursion (λ x. fits domains live e.0 x ≡ true) xs) _
      (set_fits (fits domains live e.0)) sets_there
      (all_sets (λ x. fits domains live e.0 x ≡ true) (members domains live e.0) e.1))

  held_roll : (y : Domain-F Held) → MembersFit (roll-Domain (whole y))
  held_roll y =
      subst (Fit (roll-Domain (whole y))) (sym (members-roll (whole y)))
      (all_weaker (Tested (tests_of domains live (whole y)))
      (λ v. fits domains live (roll-Domain (whole y)) v ≡ true)
      (λ v h. fits-roll domains live (whole y) (whole y) v refl ∙ h) _ (level_fits y))

  pub members_fit : (d : Domain) → MembersFit d
  members_fit = ind-Domain MembersFit (λ x y is. subst (λ a. MembersFit (roll-Domain a)) is
      (held_roll y))

  -- each combination of members
  pub combinations_fit : (ds : List Domain)
      → AllByRecursion (EachFits ds) (tuples (map (members domains live) ds))
  combinations_fit [] = (refl, tt)
  combinations_fit (d ∷ ds) =
      all_each_first (λ x. fits domains live d x ≡ true) (EachFits ds) (EachFits (d ∷ ds))
      (λ x zs q s. both_true (fits domains live d x) _ q s)
      (members domains live d) (tuples (map (members domains live) ds)) (members_fit d)
      (combinations_fit ds)
