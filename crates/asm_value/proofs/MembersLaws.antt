-- What `members` lists: the values that fit, ascending.
use Rattle.std.proofs.Common.{◌≡◌, inl, inr, ℕ, ℤ, ◌<◌, ◌==◌, min, Bool, true, false, List, [], ◌∷◌}
use Rattle.std.proofs.Common.{map, ◌+◌, slice_get, refl, sym, ap, subst, ◌∙◌, rules, arith}
use Rattle.std.proofs.Math.Nat.{min-eq_left}
use Rattle.std.specs.List.{list_all, range_with_len}
use Rattle.std.specs.List.Sorted.{IsStrictlySortedBy}
use Rattle.std.specs.Ordering.{nat_cmp, int_cmp, int_eq}
use Rattle.std.specs.Cmp.Lexicographic.{slice_cmp}
use Rattle.std.proofs.lemmas.Bool.Decides.{Decides-int_eq, Decides-eqb}
use Rattle.asm_value.specs.declared.value.Value.{Value}
use Rattle.asm_value.specs.declared.value.Value.TheOpen.{Value-F}
use Rattle.asm_value.specs.declared.value.Value.TheVariants.{Undef, Truth, Int, Member, Tuple, Set}
use Rattle.asm_value.specs.declared.value.Value.TheViews.{out-Value}
use Rattle.asm_value.specs.declared.domain.Domain.{Domain}
use Rattle.asm_value.specs.declared.domain.Domain.TheOpen.{Domain-F}
use Rattle.asm_value.specs.declared.domain.Domain.TheFolds.{fold_out-Domain, map-Domain, ind-Domain}
use Rattle.asm_value.specs.declared.domain.Domain.TheViews.{out-Domain, roll-Domain, the_lemmas}
use Rattle.asm_value.specs.declared.domain.DomainInfo.{DomainInfo}
use Rattle.asm_value.specs.declared.domain.Live.{Live}
use Rattle.std.specs.List.{AllByRecursion}
use Rattle.asm_value.specs.Value.{items, compare}
use Rattle.asm_value.specs.TotalOrders.{compare_total}
use Rattle.asm_value.specs.Proper.{IsProper, IsProperLevel}
use Rattle.asm_value.proofs.ProperLaws.{IsProper-level, IsProper-parts}
use Rattle.asm_value.specs.Domain.{fits, fits_level, is_literal, is_live}
use Rattle.asm_value.proofs.DomainLaws.{fits-out}
use Rattle.asm_value.specs.Ranges.{Mem, tuples, sets_of}
use Rattle.asm_value.proofs.RangeLaws.{all_weaker, all_map, mem_map, sorted_tuples, sorted_sets}
use Rattle.asm_value.proofs.RangeLaws.{sets_complete}
use Rattle.asm_value.proofs.Listing.{first_true, second_true, both_true, all_of, mem-found}
use Rattle.asm_value.proofs.Listing.{found-mem, sorted_map, sorted_numbers, mem_number}
use Rattle.asm_value.proofs.Listing.{numbers_below}
use Rattle.asm_value.specs.Members.{AreListed, Lists, is_finite, is_finite_level, members}
use Rattle.asm_value.specs.Members.{members_level, members_at, literal_count, subset_numbers}
use Rattle.asm_value.specs.Members.{live_indexes}
use Rattle.asm_value.proofs.MemberLists.{out_undef, out_truth, out_int, out_member, out_tuple}
use Rattle.asm_value.proofs.MemberLists.{out_set, same_out, proper_as, truth_less, member_less}
use Rattle.asm_value.proofs.MemberLists.{int_less, tuple_less, set_less, literal_below, literal_is}
use Rattle.asm_value.proofs.MemberLists.{number_is, live_is, EachLists, FitsEach, ranges_ascend}
use Rattle.asm_value.proofs.MemberLists.{tuples_fit, tuples_complete, FitsSet, sets_fit}
use Rattle.asm_value.proofs.MemberLists.{items_proper, items_defined, items_pass, items_listed}

pub members-out : (domains : List DomainInfo) (live : Live) (d : Domain)
    → members domains live d ≡ members_level domains live
    (map-Domain Domain (List Value) (members domains live) (out-Domain d))
unfolding members
members-out domains live d = fold_out-Domain (List Value) _ d

pub ruleset member_steps = (members-out, the_lemmas)

pub out_roll_domain : (a : Domain-F Domain) → out-Domain (roll-Domain a) ≡ a
out_roll_domain a = search (rules, the_lemmas)

abbrev pub finite_of : Domain-F Domain → Domain-F Bool
finite_of a = map-Domain Domain Bool is_finite a

pub is_finite-roll : (a : Domain-F Domain)
    → is_finite (roll-Domain a) ≡ is_finite_level (finite_of a)
unfolding is_finite
is_finite-roll a =
    fold_out-Domain Bool is_finite_level (roll-Domain a)
    ∙ ap (λ b. is_finite_level (finite_of b)) (out_roll_domain a)

module _ (domains : List DomainInfo) (live : Live) where
  -- what a domain of this level tests a value for
  abbrev test : Domain-F (Value → Bool) → Value → Bool
  test a v = fits_level domains live a (out-Value v)

  abbrev list : Domain-F (List Value) → List Value
  list a = members_level domains live a

  -- a value of this level passes
  passes : (a : Domain-F (Value → Bool)) (v : Value) (b : Value-F Value) → out-Value v ≡ b
      → fits_level domains live a b ≡ true → test a v ≡ true
  passes a v b e h = ap (fits_level domains live a) e ∙ h

  undef_fits_not : (a : Domain-F (Value → Bool)) → fits_level domains live a Value-F.Undef ≡ false
  undef_fits_not Domain-F.Truth = refl
  undef_fits_not Domain-F.Int = refl
  undef_fits_not Domain-F.Nat = refl
  undef_fits_not Domain-F.Chars = refl
  undef_fits_not (Domain-F.Enum d) = refl
  undef_fits_not (Domain-F.Abstract d) = refl
  undef_fits_not (Domain-F.Subset d) = refl
  undef_fits_not (Domain-F.Prod tests) = refl
  undef_fits_not (Domain-F.Seq t) = refl
  undef_fits_not (Domain-F.Power t) = refl

  not_undef : (a : Domain-F (Value → Bool)) → test a Undef ≡ false
  not_undef a = ap (fits_level domains live a) out_undef ∙ undef_fits_not a

  -- ---- one level of a domain

  truth_complete : (v : Value) (a : Value-F Value) → out-Value v ≡ a
      → fits_level domains live Domain-F.Truth a ≡ true → Mem v (list Domain-F.Truth)
  truth_complete v (Value-F.Truth false) e t =
      inl (same_out v (Truth false) (e ∙ sym (out_truth false)))
  truth_complete v (Value-F.Truth true) e t =
      inr (inl (same_out v (Truth true) (e ∙ sym (out_truth true))))
  truth_complete v a e t = absurd (cc)

  truth_member : (b : Bool) → IsProper (Truth b) × (test Domain-F.Truth (Truth b) ≡ true)
  truth_member b = (
    proper_as (Truth b) (Value-F.Truth b) (out_truth b) tt tt,
    passes Domain-F.Truth (Truth b)
        (Value-F.Truth b) (out_truth b) refl,
  )

  truth_lists : Lists (test Domain-F.Truth) (list Domain-F.Truth)
  unfolding IsStrictlySortedBy
  truth_lists = record {
    ascends = ((truth_less, tt), (tt, tt));
    fit = (truth_member false, (truth_member true, tt));
    complete = λ v p e. truth_complete v (out-Value v) refl e;
    defined = not_undef Domain-F.Truth;
  }

  -- members of one declared domain
  member_is : (v : Value) (d e i : ℕ) → out-Value v ≡ Value-F.Member e i → (e == d) ≡ true
      → Member d i ≡ v
  member_is v d e i o h =
      sym (same_out v (Member d i)
      (o ∙ ap (λ k. Value-F.Member k i) ((Decides-eqb e d).0 h) ∙ sym (out_member d i)))

  member_proper : (d i : ℕ) → IsProper (Member d i)
  member_proper d i = proper_as (Member d i) (Value-F.Member d i) (out_member d i) tt tt

  mem_at : (v : Value) (d i : ℕ) (indexes : List ℕ) → Member d i ≡ v → Mem i indexes
      → Mem v (members_at d indexes)
  mem_at v d i indexes e m =
      subst (λ w. Mem w (members_at d indexes)) e (mem_map (λ j. Member d j) i indexes m)

  module _ (are : AreListed domains live) where
    -- all indexes of literals
    abbrev below_count : ℕ → List ℕ
    below_count d = range_with_len 0 (min (literal_count domains d) 65535)

    index_below : (d i : ℕ) → i < literal_count domains d → Mem i (below_count d)
    index_below d i h =
        mem_number i 0 _ (omega arith)
        (subst (λ n. i < 0 + n) (sym (min-eq_left (are.literals d))) (omega (arith, h)))

    literal_member : (d i : ℕ) → i < 0 + min (literal_count domains d) 65535
        → IsProper (Member d i) × (test (Domain-F.Enum d) (Member d i) ≡ true)
    literal_member d i h = (
      member_proper d i,
      passes (Domain-F.Enum d) (Member d i) (Value-F.Member d i) (out_member d i)
          (both_true (d == d) (is_literal domains d i) ((Decides-eqb d d).1 refl)
          (literal_is (slice_get domains d) i
          (subst (λ n. i < n) (min-eq_left (are.literals d)) (omega (arith, h))))),
    )

    enum_complete : (d : ℕ) (v : Value) (a : Value-F Value) → out-Value v ≡ a
        → fits_level domains live (Domain-F.Enum d) a ≡ true → Mem v (list (Domain-F.Enum d))
    enum_complete d v (Value-F.Member e i) o t =
        mem_at v d i (below_count d) (member_is v d e i o (first_true (e == d) _ t))
        (index_below d i (literal_below (slice_get domains d) i (second_true (e == d) _ t)))
    enum_complete d v a o t = absurd (cc)

    enum_lists : (d : ℕ) → Lists (test (Domain-F.Enum d)) (list (Domain-F.Enum d))
    enum_lists d = record {
      ascends =
          sorted_map nat_cmp compare (λ i. Member d i) (member_less d) (below_count d)
          (sorted_numbers 0 _);
      fit =
          all_map (λ i. Member d i) (λ v. IsProper v × (test (Domain-F.Enum d) v ≡ true))
          (below_count d)
          (all_weaker (λ i. i < 0 + min (literal_count domains d) 65535) _ (literal_member d)
          (below_count d) (numbers_below 0 _));
      complete = λ v p e. enum_complete d v (out-Value v) refl e;
      defined = not_undef (Domain-F.Enum d);
    }

    live_member : (d i : ℕ) → Mem i (live_indexes live d)
        → IsProper (Member d i) × (test (Domain-F.Abstract d) (Member d i) ≡ true)
    live_member d i m = (
      member_proper d i,
      passes (Domain-F.Abstract d) (Member d i) (Value-F.Member d i) (out_member d i)
          (both_true (d == d) (is_live live d i) ((Decides-eqb d d).1 refl)
          (live_is (slice_get live.members d) i
          ∙ found-mem (λ j k. j == k) Decides-eqb i (live_indexes live d) m)),
    )

    abstract_complete : (d : ℕ) (v : Value) (a : Value-F Value) → out-Value v ≡ a
        → fits_level domains live (Domain-F.Abstract d) a ≡ true
        → Mem v (list (Domain-F.Abstract d))
    abstract_complete d v (Value-F.Member e i) o t =
        mem_at v d i (live_indexes live d) (member_is v d e i o (first_true (e == d) _ t))
        (mem-found (λ j k. j == k) Decides-eqb i (live_indexes live d)
        (sym (live_is (slice_get live.members d) i) ∙ second_true (e == d) _ t))
    abstract_complete d v a o t = absurd (cc)

    abstract_lists : (d : ℕ) → Lists (test (Domain-F.Abstract d)) (list (Domain-F.Abstract d))
    abstract_lists d = record {
      ascends =
          sorted_map nat_cmp compare (λ i. Member d i) (member_less d) (live_indexes live d)
          (are.indexes d);
      fit =
          all_map (λ i. Member d i) (λ v. IsProper v × (test (Domain-F.Abstract d) v ≡ true))
          (live_indexes live d) (all_of _ (live_indexes live d) (live_member d));
      complete = λ v p e. abstract_complete d v (out-Value v) refl e;
      defined = not_undef (Domain-F.Abstract d);
    }

    number_member : (d : ℕ) (n : ℤ) → Mem n (subset_numbers domains d)
        → IsProper (Int n) × (test (Domain-F.Subset d) (Int n) ≡ true)
    number_member d n m = (
      proper_as (Int n) (Value-F.Int n) (out_int n) tt tt,
      passes (Domain-F.Subset d) (Int n) (Value-F.Int n) (out_int n)
          (number_is (slice_get domains d) n
          ∙ found-mem int_eq Decides-int_eq n (subset_numbers domains d) m),
    )

    subset_complete : (d : ℕ) (v : Value) (a : Value-F Value) → out-Value v ≡ a
        → fits_level domains live (Domain-F.Subset d) a ≡ true → Mem v (list (Domain-F.Subset d))
    subset_complete d v (Value-F.Int n) o t =
        subst (λ w. Mem w (list (Domain-F.Subset d)))
        (sym (same_out v (Int n) (o ∙ sym (out_int n))))
        (mem_map (λ m. Int m) n (subset_numbers domains d)
        (mem-found int_eq Decides-int_eq n (subset_numbers domains d)
        (sym (number_is (slice_get domains d) n) ∙ t)))
    subset_complete d v a o t = absurd (cc)

    subset_lists : (d : ℕ) → Lists (test (Domain-F.Subset d)) (list (Domain-F.Subset d))
    subset_lists d = record {
      ascends =
          sorted_map int_cmp compare (λ n. Int n) int_less (subset_numbers domains d)
          (are.numbers d);
      fit =
          all_map (λ n. Int n) (λ v. IsProper v × (test (Domain-F.Subset d) v ≡ true))
          (subset_numbers domains d) (all_of _ (subset_numbers domains d) (number_member d));
      complete = λ v p e. subset_complete d v (out-Value v) refl e;
      defined = not_undef (Domain-F.Subset d);
    }

  tuple_member : (ts : List (Value → Bool)) (xs : List Value) → FitsEach ts xs
      → IsProper (Tuple xs) × (test (Domain-F.Prod ts) (Tuple xs) ≡ true)
  tuple_member ts xs h = (
    proper_as (Tuple xs) (Value-F.Tuple xs) (out_tuple xs) h.1.0 h.0,
    passes (Domain-F.Prod ts) (Tuple xs) (Value-F.Tuple xs) (out_tuple xs) h.1.1,
  )

  parts_as : (v : Value) (a : Value-F Value) → out-Value v ≡ a → IsProper v
      → AllByRecursion IsProper (items a)
  parts_as v a e p = subst (λ b. AllByRecursion IsProper (items b)) e (IsProper-parts v p)

  prod_complete : (ts : List (Value → Bool)) (rs : List (List Value)) → EachLists ts rs
      → (v : Value) (a : Value-F Value) → out-Value v ≡ a → IsProper v
      → fits_level domains live (Domain-F.Prod ts) a ≡ true → Mem v (list (Domain-F.Prod rs))
  prod_complete ts rs h v (Value-F.Tuple xs) o p t =
      subst (λ w. Mem w (list (Domain-F.Prod rs)))
      (sym (same_out v (Tuple xs) (o ∙ sym (out_tuple xs))))
      (mem_map (λ ys. Tuple ys) xs (tuples rs)
      (tuples_complete ts rs h xs (parts_as v (Value-F.Tuple xs) o p) t))
  prod_complete ts rs h v a o p t = absurd (cc)

  prod_lists : (ts : List (Value → Bool)) (rs : List (List Value)) → EachLists ts rs
      → Lists (test (Domain-F.Prod ts)) (list (Domain-F.Prod rs))
  prod_lists ts rs h = record {
    ascends =
        sorted_map (slice_cmp compare) compare (λ xs. Tuple xs) tuple_less (tuples rs)
        (sorted_tuples compare compare_total rs (ranges_ascend ts rs h));
    fit =
        all_map (λ xs. Tuple xs) (λ v. IsProper v × (test (Domain-F.Prod ts) v ≡ true)) (tuples rs)
        (all_weaker (FitsEach ts) _ (tuple_member ts) (tuples rs) (tuples_fit ts rs h));
    complete = λ v p e. prod_complete ts rs h v (out-Value v) refl p e;
    defined = not_undef (Domain-F.Prod ts);
  }

  set_member : (t : Value → Bool) → t Undef ≡ false → (xs : List Value) → FitsSet t xs
      → IsProper (Set xs) × (test (Domain-F.Power t) (Set xs) ≡ true)
  set_member t d xs h = (
    proper_as (Set xs) (Value-F.Set xs) (out_set xs) (items_defined t d xs h.1, h.0)
        (items_proper t xs h.1),
    passes (Domain-F.Power t) (Set xs) (Value-F.Set xs) (out_set xs) (items_pass t xs h.1),
  )

  set_ascends : (v : Value) (xs : List Value) → out-Value v ≡ Value-F.Set xs → IsProper v
      → IsStrictlySortedBy compare xs
  set_ascends v xs e p = (subst IsProperLevel e (IsProper-level v p)).1

  power_complete : (t : Value → Bool) (vs : List Value) → Lists t vs
      → (v : Value) (a : Value-F Value) → out-Value v ≡ a → IsProper v
      → fits_level domains live (Domain-F.Power t) a ≡ true → Mem v (list (Domain-F.Power vs))
  power_complete t vs h v (Value-F.Set xs) o p e =
      subst (λ w. Mem w (list (Domain-F.Power vs)))
      (sym (same_out v (Set xs) (o ∙ sym (out_set xs))))
      (mem_map (λ ys. Set ys) xs (sets_of vs)
      (sets_complete compare compare_total vs h.ascends xs (set_ascends v xs o p)
      (items_listed t vs h xs (parts_as v (Value-F.Set xs) o p) e)))
  power_complete t vs h v a o p e = absurd (cc)

  power_lists : (t : Value → Bool) (vs : List Value) → Lists t vs
      → Lists (test (Domain-F.Power t)) (list (Domain-F.Power vs))
  power_lists t vs h = record {
    ascends =
        sorted_map (slice_cmp compare) compare (λ xs. Set xs) set_less (sets_of vs)
        (sorted_sets compare compare_total vs h.ascends);
    fit =
        all_map (λ xs. Set xs) (λ v. IsProper v × (test (Domain-F.Power t) v ≡ true)) (sets_of vs)
        (all_weaker (FitsSet t) _ (set_member t h.defined) (sets_of vs) (sets_fit t vs h));
    complete = λ v p e. power_complete t vs h v (out-Value v) refl p e;
    defined = not_undef (Domain-F.Power t);
  }

  -- ---- a domain

  abbrev tests_of : Domain-F Domain → Domain-F (Value → Bool)
  tests_of a = map-Domain Domain (Value → Bool) (fits domains live) a

  abbrev lists_of : Domain-F Domain → Domain-F (List Value)
  lists_of a = map-Domain Domain (List Value) (members domains live) a

  fits_roll : (a : Domain-F Domain) → test (tests_of a) ≡ fits domains live (roll-Domain a)
  fits_roll a =
      λ i v. sym (fits-out domains live (roll-Domain a) v
      ∙ ap (λ b. fits_level domains live (tests_of b) (out-Value v)) (out_roll_domain a)) i

  members_roll : (a : Domain-F Domain) → list (lists_of a) ≡ members domains live (roll-Domain a)
  members_roll a =
      sym (members-out domains live (roll-Domain a)
      ∙ ap (λ b. list (lists_of b)) (out_roll_domain a))

  lists_roll : (a : Domain-F Domain) → Lists (test (tests_of a)) (list (lists_of a))
      → Lists (fits domains live (roll-Domain a)) (members domains live (roll-Domain a))
  lists_roll a h =
      subst (λ vs. Lists (fits domains live (roll-Domain a)) vs) (members_roll a)
      (subst (λ (t : Value → Bool). Lists t (list (lists_of a))) (fits_roll a) h)

  abbrev Listed : Domain → Type 0
  Listed d = is_finite d ≡ true → Lists (fits domains live d) (members domains live d)

  abbrev whole : Domain-F ((d : Domain) × Listed d) → Domain-F Domain
  whole y = map-Domain ((d : Domain) × Listed d) Domain (λ e. e.0) y

  each_lists : (es : List ((d : Domain) × Listed d))
      → list_all (λ b. b) (map is_finite (map (λ e. e.0) es)) ≡ true
      → EachLists (map (fits domains live) (map (λ e. e.0) es))
      (map (members domains live) (map (λ e. e.0) es))
  each_lists [] h = tt
  each_lists (e ∷ es) h =
      (e.1 (first_true (is_finite e.0) _ h), each_lists es (second_true (is_finite e.0) _ h))

  level_lists : AreListed domains live → (y : Domain-F ((d : Domain) × Listed d))
      → is_finite_level (finite_of (whole y)) ≡ true
      → Lists (test (tests_of (whole y))) (list (lists_of (whole y)))
  level_lists are Domain-F.Truth e = truth_lists
  level_lists are Domain-F.Int e = absurd (cc)
  level_lists are Domain-F.Nat e = absurd (cc)
  level_lists are Domain-F.Chars e = absurd (cc)
  level_lists are (Domain-F.Enum d) e = enum_lists are d
  level_lists are (Domain-F.Abstract d) e = abstract_lists are d
  level_lists are (Domain-F.Subset d) e = subset_lists are d
  level_lists are (Domain-F.Prod es) e = prod_lists _ _ (each_lists es e)
  level_lists are (Domain-F.Seq p) e = absurd (cc)
  level_lists are (Domain-F.Power p) e = power_lists _ _ (p.1 e)

  -- the list of a finite domain's members ascends and has exactly the values that fit it
  pub members_listed : AreListed domains live → (d : Domain) → is_finite d ≡ true
      → Lists (fits domains live d) (members domains live d)
  members_listed are = ind-Domain Listed (λ x y is. subst (λ a. Listed (roll-Domain a)) is
      (λ e. lists_roll (whole y) (level_lists are y (sym (is_finite-roll (whole y)) ∙ e))))
