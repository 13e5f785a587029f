-- What a tree is read as is a value of the domain that may be, and keeps the limits.
use Rattle.std.proofs.Common.{◌≡◌, ◌≢◌, ℕ, ◌+◌, ◌≤◌, ◌==◌, ◌&&◌, nat_le, ℤ, Bool, true, false, cond, Ok, Err, Option, Some, None, List, [], ◌∷◌, length, map, sum_by, refl, sym, ap, subst, ◌∙◌, arith}
use Rattle.std.specs.List.{AllByRecursion, list_all}
use Rattle.std.specs.List.Sorted.{IsStrictlySortedBy}
use Rattle.std.proofs.lemmas.Bool.Decides.{Decides-eqb}
use Rattle.std.proofs.lemmas.Bool.{leb-true}
use Rattle.asm_value.specs.declared.value.Value.{Value}
use Rattle.asm_value.specs.declared.value.Value.TheOpen.{Value-F}
use Rattle.asm_value.specs.declared.value.Value.TheVariants.{Undef, Truth, Int, Chars, Member, Tuple, Seq, Set}
use Rattle.asm_value.specs.declared.value.Value.TheViews.{out-Value}
use Rattle.asm_value.specs.declared.domain.Domain.{Domain}
use Rattle.asm_value.specs.declared.domain.Domain.TheOpen.{Domain-F}
use Rattle.asm_value.specs.declared.domain.Domain.TheFolds.{map-Domain, ind-Domain}
use Rattle.asm_value.specs.declared.domain.Domain.TheViews.{out-Domain, roll-Domain}
use Rattle.asm_value.specs.declared.domain.DomainInfo.{DomainInfo}
use Rattle.asm_value.specs.declared.domain.Live.{Live}
use Rattle.asm_value.specs.Value.{compare, items, own_weight, whole_weight}
use Rattle.asm_value.specs.Proper.{IsProper, IsProperLevel, AreDefined}
use Rattle.asm_value.specs.Domain.{fits, fits_level, each_passes, is_literal, is_live, is_in_subset, is_natural}
use Rattle.asm_value.specs.Members.{live_indexes}
use Rattle.asm_value.specs.Ranges.{Mem}
use Rattle.asm_value.proofs.DomainLaws.{fits-out}
use Rattle.asm_value.proofs.MembersLaws.{out_roll_domain}
use Rattle.asm_value.proofs.ValueLaws.{whole_weight-out}
use Rattle.asm_value.proofs.Listing.{first_true, second_true, both_true}
use Rattle.asm_value.proofs.MemberLists.{out_undef, out_truth, out_int, out_member, out_tuple, out_set, proper_as}
use Rattle.asm_operations.specs.declared.applied.Applied.TheVariants as applied
use Rattle.asm_operations.specs.Limits.{is_short, is_short_level, keeps_limits, limited}
use Rattle.asm_operations.specs.Readers.{any_undef}
use Rattle.asm_operations.specs.Results.{undefined}
use Rattle.asm_operations.specs.Sets.{set_items}
use Rattle.asm_operations.specs.Operations.{tuple_of, sequence_of, set_of}
use Rattle.asm_operations.proofs.SetLaws.{all-with_items, sorted-with_items}
use Rattle.asm_portable.specs.declared.port.Port.{Port}
use Rattle.asm_portable.specs.declared.port.Port.TheOpen.{Port-F}
use Rattle.asm_portable.specs.declared.port.Port.TheViews.{out-Port}
use Rattle.asm_portable.specs.declared.port.Field.{Field}
use Rattle.asm_portable.specs.Ports.{as_list, as_text}
use Rattle.asm_portable.specs.Reading.{Read, misfit, on_read, of_part, with_first, items_read, parts_read, kept, listed_read, truth_level, string_if, integer_if, integer_of, literals_in, member_read, read_level, value_of}
use Rattle.asm_portable.specs.Naming.{IsShort, KeepsLimits}
use Rattle.asm_portable.proofs.ReadingLaws.{value_of-out}
use Rattle.asm_portable.proofs.Levels.{out_chars, out_seq, every-made}
use Rattle.asm_portable.proofs.Members.{member_from, literal_there, live_there}
use Rattle.asm_portable.proofs.PartsBack.{all_defined}

same_ok : {A : Type 0} (x y : A) → ◌≡◌ {A = Read A} (Ok x) (Ok y) → x ≡ y
same_ok x y e = cc

-- ---- what was read of lists

module _ (read : Port → Read Value) where
  -- the value was read from some tree
  abbrev pub IsRead : Value → Type 0
  IsRead v = (t : Port) × (read t ≡ Ok v)

part_ok : {A : Type 0} (at : ℕ) (r : Read A) (x : A) → of_part at r ≡ Ok x → r ≡ Ok x
part_ok at (Ok y) x e = e
part_ok at (Err path) x e = absurd (cc)

record First (r : Read Value) (rs : Read (List Value)) (vs : List Value) : Type 0 where
  pub first : Value
  pub others : List Value
  pub is_first : r ≡ Ok first
  pub are_others : rs ≡ Ok others
  pub whole : first ∷ others ≡ vs

first_ok : (r : Read Value) (rs : Read (List Value)) (vs : List Value) → with_first r rs ≡ Ok vs
    → First r rs vs
first_ok (Ok v) (Ok ws) vs e = record {
  first = v;
  others = ws;
  is_first = refl;
  are_others = refl;
  whole = same_ok (v ∷ ws) vs e;
}
first_ok (Ok v) (Err path) vs e = absurd (cc)
first_ok (Err path) rs vs e = absurd (cc)

pub items_from : (read : Port → Read Value) (at : ℕ) (ts : List Port) (vs : List Value)
    → items_read read at ts ≡ Ok vs → AllByRecursion (IsRead read) vs
items_from read at [] vs e = subst (AllByRecursion (IsRead read)) (same_ok [] vs e) tt
items_from read at (t ∷ ts) vs e =
    let cut = first_ok (of_part at (read t)) (items_read read (at + 1) ts) vs e in
    subst (AllByRecursion (IsRead read)) cut.whole
    ((t, part_ok at (read t) cut.first cut.is_first), items_from read (at + 1) ts cut.others cut.are_others)

-- each part was read by its own reading, and there are as many
abbrev EachRead : List (Port → Read Value) → List Value → Type 0
EachRead [] [] = Unit {0}
EachRead [] (v ∷ vs) = ⊥
EachRead (f ∷ fs) [] = ⊥
EachRead (f ∷ fs) (v ∷ vs) = IsRead f v × EachRead fs vs

parts_from : (fs : List (Port → Read Value)) (at : ℕ) (ts : List Port) (vs : List Value)
    → parts_read fs at ts ≡ Ok vs → EachRead fs vs
parts_from [] at [] vs e = subst (EachRead []) (same_ok [] vs e) tt
parts_from [] at (t ∷ ts) vs e = absurd (cc)
parts_from (f ∷ fs) at [] vs e = absurd (cc)
parts_from (f ∷ fs) at (t ∷ ts) vs e =
    let cut = first_ok (of_part at (f t)) (parts_read fs (at + 1) ts) vs e in
    subst (EachRead (f ∷ fs)) cut.whole
    ((t, part_ok at (f t) cut.first cut.is_first), parts_from fs (at + 1) ts cut.others cut.are_others)

-- what was read of a list of trees
listed_ok : (go : List Port → Read Value) (o : Option (List Port)) (v : Value) → listed_read go o ≡ Ok v
    → (ts : List Port) × (go ts ≡ Ok v)
listed_ok go None v e = absurd (cc)
listed_ok go (Some ts) v e = (ts, e)

then_ok : (r : Read (List Value)) (go : List Value → Read Value) (v : Value) → on_read r go ≡ Ok v
    → (vs : List Value) × (r ≡ Ok vs) × (go vs ≡ Ok v)
then_ok (Ok vs) go v e = (vs, refl, e)
then_ok (Err path) go v e = absurd (cc)

-- what is given keeps its limits
limited_ok : (b : Bool) (w v : Value) → keeps_limits w ≡ b
    → kept (cond b (applied.Value w) applied.TooLarge) ≡ Ok v → (keeps_limits w ≡ true) × (w ≡ v)
limited_ok true w v k e = (k, same_ok w v e)
limited_ok false w v k e = absurd (cc)

given_ok : (vs : List Value) (w v : Value) → AreDefined vs
    → kept (cond (any_undef vs) undefined (limited w)) ≡ Ok v → (keeps_limits w ≡ true) × (w ≡ v)
given_ok vs w v h e =
    limited_ok (keeps_limits w) w v refl
    (ap (λ b. kept (cond b undefined (limited w))) (sym (all_defined vs h)) ∙ e)

-- ---- one level

module _ (domains : List DomainInfo) (live : Live) where
  abbrev tests : Domain-F Domain → Domain-F (Value → Bool)
  tests a = map-Domain Domain (Value → Bool) (fits domains live) a

  abbrev reads : Domain-F Domain → Domain-F (Port → Read Value)
  reads a = map-Domain Domain (Port → Read Value) (value_of domains live) a

  -- a value of a domain of this level
  record IsGoodAt (a : Domain-F Domain) (v : Value) : Type 0 where
    pub fits_it : fits_level domains live (tests a) (out-Value v) ≡ true
    pub proper : IsProper v
    pub short : IsShort v
    pub light : whole_weight v ≤ 4096

  -- a value of a domain
  pub record IsGood (d : Domain) (v : Value) : Type 0 where
    pub fits_it : fits domains live d v ≡ true
    pub proper : IsProper v
    pub limits : KeepsLimits v

  undef_fits_not : (a : Domain-F (Value → Bool)) → fits_level domains live a Value-F.Undef ≡ false
  undef_fits_not Domain-F.Truth = refl
  undef_fits_not Domain-F.Int = refl
  undef_fits_not Domain-F.Nat = refl
  undef_fits_not Domain-F.Chars = refl
  undef_fits_not (Domain-F.Enum d) = refl
  undef_fits_not (Domain-F.Abstract d) = refl
  undef_fits_not (Domain-F.Subset d) = refl
  undef_fits_not (Domain-F.Prod ts) = refl
  undef_fits_not (Domain-F.Seq t) = refl
  undef_fits_not (Domain-F.Power t) = refl

  good_is_defined : (d : Domain) (v : Value) → IsGood d v → v ≢ Undef
  good_is_defined d v h u =
      let a = map-Domain Domain (Value → Bool) (fits domains live) (out-Domain d) in
      let none : fits domains live d Undef ≡ false =
      fits-out domains live d Undef ∙ ap (fits_level domains live a) out_undef ∙ undef_fits_not a in
      let unlike : true ≡ false = sym h.fits_it ∙ ap (fits domains live d) u ∙ none in cc

  -- a value without parts
  leaf_good : (a : Domain-F Domain) (v w : Value) (b : Value-F Value) → w ≡ v → out-Value w ≡ b
      → items b ≡ [] → fits_level domains live (tests a) b ≡ true → IsProperLevel b
      → is_short_level b ≡ true → own_weight b ≤ 4096 → IsGoodAt a v
  leaf_good a v w b is o none fit proper short light = subst (IsGoodAt a) is (record {
    fits_it = ap (fits_level domains live (tests a)) o ∙ fit;
    proper = proper_as w b o proper (subst (AllByRecursion IsProper) (sym none) tt);
    short = every-made (λ c. is_short_level c ≡ true) w b o short
        (subst (AllByRecursion IsShort) (sym none) tt);
    light = (let weighs = whole_weight-out w ∙ (λ i. own_weight (o i) + sum_by whole_weight ((ap (λ c. items c) o ∙ none) i)) in
        omega (arith, weighs, light));
  })

  -- a value with parts
  node_good : (a : Domain-F Domain) (v w : Value) (b : Value-F Value) → (keeps_limits w ≡ true) × (w ≡ v)
      → out-Value w ≡ b → fits_level domains live (tests a) b ≡ true → IsProperLevel b
      → AllByRecursion IsProper (items b) → AllByRecursion IsShort (items b) → IsGoodAt a v
  node_good a v w b is o fit level proper short = subst (IsGoodAt a) is.1 (record {
    fits_it = ap (fits_level domains live (tests a)) o ∙ fit;
    proper = proper_as w b o level proper;
    short = every-made (λ c. is_short_level c ≡ true) w b o
        (ap (λ c. is_short_level c) (sym o) ∙ first_true (is_short w) _ is.0) short;
    light = leb-true (whole_weight w) 4096 (second_true (is_short w) _ is.0);
  })

  -- ---- leaves

  truth_good : (a : Port-F Port Field) (v : Value) → truth_level a ≡ Ok v → IsGoodAt Domain-F.Truth v
  truth_good (Port-F.Bool b) v e =
      leaf_good Domain-F.Truth v (Truth b) (Value-F.Truth b) (same_ok (Truth b) v e) (out_truth b) refl refl tt refl (omega arith)
  truth_good a v e = absurd (cc)

  string_if_good : (b : Bool) (t : List ℕ) (v : Value) → nat_le (length t) 1024 ≡ b
      → cond b (Ok (Chars t)) misfit ≡ Ok v → IsGoodAt Domain-F.Chars v
  string_if_good true t v short e =
      let few : length t ≤ 1024 = leb-true (length t) 1024 short in
      leaf_good Domain-F.Chars v (Chars t) (Value-F.Chars t) (same_ok (Chars t) v e) (out_chars t) refl refl tt short
      (omega (arith, few))
  string_if_good false t v short e = absurd (cc)

  string_good : (o : Option (List ℕ)) (v : Value) → string_if o ≡ Ok v → IsGoodAt Domain-F.Chars v
  string_good None v e = absurd (cc)
  string_good (Some t) v e = string_if_good (nat_le (length t) 1024) t v refl e

  integer_if_ok : (b : Bool) (n : ℤ) (v : Value) → cond b (Ok (Int n)) misfit ≡ Ok v
      → (b ≡ true) × (Int n ≡ v)
  integer_if_ok true n v e = (refl, same_ok (Int n) v e)
  integer_if_ok false n v e = absurd (cc)

  integer_good : (a : Domain-F Domain) (test : ℤ → Bool)
      → ((n : ℤ) → fits_level domains live (tests a) (Value-F.Int n) ≡ test n)
      → (o : Option ℤ) (v : Value) → integer_if test o ≡ Ok v → IsGoodAt a v
  integer_good a test is None v e = absurd (cc)
  integer_good a test is (Some n) v e =
      let ok = integer_if_ok (test n) n v e in
      leaf_good a v (Int n) (Value-F.Int n) ok.1 (out_int n) refl (is n ∙ ok.0) tt refl (omega arith)

  member_good : (a : Domain-F Domain) (d : ℕ) (test : ℕ → Bool)
      → ((i : ℕ) → fits_level domains live (tests a) (Value-F.Member d i) ≡ ((d == d) && test i))
      → (indexes : List ℕ) → ((i : ℕ) → Mem i indexes → test i ≡ true)
      → (t : Port) (v : Value) → member_read domains d indexes t ≡ Ok v → IsGoodAt a v
  member_good a d test is indexes there t v e =
      let m = member_from domains d indexes t v e in
      leaf_good a v (Member d m.0) (Value-F.Member d m.0) (sym m.1) (out_member d m.0) refl
      (is m.0 ∙ both_true (d == d) (test m.0) ((Decides-eqb d d).1 refl) (there m.0 m.2)) tt refl (omega arith)

  -- ---- nodes

  all_proper : (d : Domain) (vs : List Value) → AllByRecursion (IsGood d) vs → AllByRecursion IsProper vs
  all_proper d [] h = tt
  all_proper d (v ∷ vs) h = (h.0.proper, all_proper d vs h.1)

  all_short : (d : Domain) (vs : List Value) → AllByRecursion (IsGood d) vs → AllByRecursion IsShort vs
  all_short d [] h = tt
  all_short d (v ∷ vs) h = (h.0.limits.short, all_short d vs h.1)

  pub all_there : (d : Domain) (vs : List Value) → AllByRecursion (IsGood d) vs → AreDefined vs
  all_there d [] h = tt
  all_there d (v ∷ vs) h = (good_is_defined d v h.0, all_there d vs h.1)

  all_fit : (d : Domain) (vs : List Value) → AllByRecursion (IsGood d) vs
      → list_all (fits domains live d) vs ≡ true
  all_fit d [] h = refl
  all_fit d (v ∷ vs) h = both_true _ _ h.0.fits_it (all_fit d vs h.1)

  -- each part is a value of its own domain
  abbrev EachGood : List Domain → List Value → Type 0
  EachGood [] [] = Unit {0}
  EachGood [] (v ∷ vs) = ⊥
  EachGood (d ∷ ds) [] = ⊥
  EachGood (d ∷ ds) (v ∷ vs) = IsGood d v × EachGood ds vs

  each_proper : (ds : List Domain) (vs : List Value) → EachGood ds vs → AllByRecursion IsProper vs
  each_proper [] [] h = tt
  each_proper [] (v ∷ vs) h = absurd h
  each_proper (d ∷ ds) [] h = absurd h
  each_proper (d ∷ ds) (v ∷ vs) h = (h.0.proper, each_proper ds vs h.1)

  each_short : (ds : List Domain) (vs : List Value) → EachGood ds vs → AllByRecursion IsShort vs
  each_short [] [] h = tt
  each_short [] (v ∷ vs) h = absurd h
  each_short (d ∷ ds) [] h = absurd h
  each_short (d ∷ ds) (v ∷ vs) h = (h.0.limits.short, each_short ds vs h.1)

  each_there : (ds : List Domain) (vs : List Value) → EachGood ds vs → AreDefined vs
  each_there [] [] h = tt
  each_there [] (v ∷ vs) h = absurd h
  each_there (d ∷ ds) [] h = absurd h
  each_there (d ∷ ds) (v ∷ vs) h = (good_is_defined d v h.0, each_there ds vs h.1)

  each_fits : (ds : List Domain) (vs : List Value) → EachGood ds vs
      → each_passes (map (fits domains live) ds) vs ≡ true
  each_fits [] [] h = refl
  each_fits [] (v ∷ vs) h = absurd h
  each_fits (d ∷ ds) [] h = absurd h
  each_fits (d ∷ ds) (v ∷ vs) h = both_true _ _ h.0.fits_it (each_fits ds vs h.1)

  -- what each tree of a domain is read as is a value of it
  abbrev pub Finds : Domain → Type 0
  Finds d = (t : Port) (v : Value) → value_of domains live d t ≡ Ok v → IsGood d v

  pub all_good : (d : Domain) → Finds d → (vs : List Value) → AllByRecursion (IsRead (value_of domains live d)) vs
      → AllByRecursion (IsGood d) vs
  all_good d f [] h = tt
  all_good d f (v ∷ vs) h = (f h.0.0 v h.0.1, all_good d f vs h.1)

  each_good : (es : List ((d : Domain) × Finds d)) (vs : List Value)
      → EachRead (map (value_of domains live) (map (λ e. e.0) es)) vs
      → EachGood (map (λ e. e.0) es) vs
  each_good [] [] h = tt
  each_good [] (v ∷ vs) h = absurd h
  each_good (e ∷ es) [] h = absurd h
  each_good (e ∷ es) (v ∷ vs) h = (e.1 h.0.0 v h.0.1, each_good es vs h.1)

  abbrev whole : Domain-F ((d : Domain) × Finds d) → Domain-F Domain
  whole y = map-Domain ((d : Domain) × Finds d) Domain (λ e. e.0) y

  prod_good : (es : List ((d : Domain) × Finds d)) (t : Port) (v : Value)
      → read_level domains live (reads (whole (Domain-F.Prod es))) t ≡ Ok v
      → IsGoodAt (whole (Domain-F.Prod es)) v
  prod_good es t v e =
      let ds = map (λ (e : (d : Domain) × Finds d). e.0) es in
      let listed = listed_ok _ (as_list t) v e in
      let read = then_ok (parts_read (map (value_of domains live) ds) 0 listed.0) (λ vs. kept (tuple_of vs)) v listed.1 in
      let vs = read.0 in
      let good = each_good es vs (parts_from (map (value_of domains live) ds) 0 listed.0 vs read.1) in
      node_good (Domain-F.Prod ds) v (Tuple vs) (Value-F.Tuple vs) (given_ok vs (Tuple vs) v (each_there ds vs good) read.2)
      (out_tuple vs) (each_fits ds vs good) (each_there ds vs good) (each_proper ds vs good) (each_short ds vs good)

  seq_good : (d : Domain) → Finds d → (t : Port) (v : Value)
      → read_level domains live (reads (Domain-F.Seq d)) t ≡ Ok v → IsGoodAt (Domain-F.Seq d) v
  seq_good d f t v e =
      let listed = listed_ok _ (as_list t) v e in
      let read = then_ok (items_read (value_of domains live d) 0 listed.0) (λ vs. kept (sequence_of vs)) v listed.1 in
      let vs = read.0 in
      let good = all_good d f vs (items_from (value_of domains live d) 0 listed.0 vs read.1) in
      node_good (Domain-F.Seq d) v (Seq vs) (Value-F.Seq vs) (given_ok vs (Seq vs) v (all_there d vs good) read.2)
      (out_seq vs) (all_fit d vs good) (all_there d vs good) (all_proper d vs good) (all_short d vs good)

  ascends : (vs : List Value) → IsStrictlySortedBy compare (set_items vs)
  unfolding IsStrictlySortedBy
  ascends vs = sorted-with_items [] vs tt

  power_good : (d : Domain) → Finds d → (t : Port) (v : Value)
      → read_level domains live (reads (Domain-F.Power d)) t ≡ Ok v → IsGoodAt (Domain-F.Power d) v
  power_good d f t v e =
      let listed = listed_ok _ (as_list t) v e in
      let read = then_ok (items_read (value_of domains live d) 0 listed.0) (λ vs. kept (set_of vs)) v listed.1 in
      let vs = read.0 in
      let good = all_good d f vs (items_from (value_of domains live d) 0 listed.0 vs read.1) in
      let xs = set_items vs in
      let are = all-with_items (IsGood d) [] vs tt good in
      node_good (Domain-F.Power d) v (Set xs) (Value-F.Set xs) (given_ok vs (Set xs) v (all_there d vs good) read.2)
      (out_set xs) (all_fit d xs are) (all_there d xs are, ascends vs) (all_proper d xs are) (all_short d xs are)

  level_good : (y : Domain-F ((d : Domain) × Finds d)) (t : Port) (v : Value)
      → read_level domains live (reads (whole y)) t ≡ Ok v → IsGoodAt (whole y) v
  level_good Domain-F.Truth t v e = truth_good (out-Port t) v e
  level_good Domain-F.Int t v e = integer_good Domain-F.Int (λ n. true) (λ n. refl) (integer_of t) v e
  level_good Domain-F.Nat t v e = integer_good Domain-F.Nat is_natural (λ n. refl) (integer_of t) v e
  level_good Domain-F.Chars t v e = string_good (as_text t) v e
  level_good (Domain-F.Enum d) t v e =
      member_good (Domain-F.Enum d) d (is_literal domains d) (λ i. refl) (literals_in domains d)
      (literal_there domains d) t v e
  level_good (Domain-F.Abstract d) t v e =
      member_good (Domain-F.Abstract d) d (is_live live d) (λ i. refl) (live_indexes live d)
      (live_there live d) t v e
  level_good (Domain-F.Subset d) t v e =
      integer_good (Domain-F.Subset d) (is_in_subset domains d) (λ n. refl) (integer_of t) v e
  level_good (Domain-F.Prod es) t v e = prod_good es t v e
  level_good (Domain-F.Seq p) t v e = seq_good p.0 p.1 t v e
  level_good (Domain-F.Power p) t v e = power_good p.0 p.1 t v e

  -- ---- a domain

  rolled : (a : Domain-F Domain) (v : Value) → IsGoodAt a v → IsGood (roll-Domain a) v
  rolled a v h = record {
    fits_it =
        fits-out domains live (roll-Domain a) v
        ∙ ap (λ b. fits_level domains live (tests b) (out-Value v)) (out_roll_domain a) ∙ h.fits_it;
    proper = h.proper;
    limits = record { short = h.short; light = h.light };
  }

  pub finds_good : (d : Domain) → Finds d
  finds_good = ind-Domain Finds (λ x y is. subst (λ a. Finds (roll-Domain a)) is
      (λ t v e. rolled (whole y) v (level_good y t v
      (sym (value_of-out domains live (roll-Domain (whole y)) t
      ∙ ap (λ b. read_level domains live (reads b) t) (out_roll_domain (whole y))) ∙ e))))
