-- The members that a domain has in a state ascend, and are those whose location has the value true.
use Rattle.std.proofs.Common.{◌≡◌, ◌↔◌, ◌⊎◌, inl, inr, ℕ, zero, suc, pos, ◌+◌, ◌==◌, ◌&&◌, Bool}
use Rattle.std.proofs.Common.{true, false, T, cond, Option, Some, None, unwrap_or, List, [], ◌∷◌}
use Rattle.std.proofs.Common.{length, slice_get, refl, sym, ap, subst, ◌∙◌, arith}
use Rattle.std.specs.List.{AllByRecursion, filter_map, cons_option}
use Rattle.std.specs.List.Sorted.{IsStrictlySortedBy}
use Rattle.std.specs.FinMap as finite
use Rattle.std.specs.FinMap.Entries.{below_all}
use Rattle.std.specs.declared.cmp.Ordering.{Ordering}
use Rattle.std.specs.declared.cmp.Ordering.TheVariants.{Less, Equal, Greater}
use Rattle.std.specs.Ordering.{ordering_then, nat_cmp, eq_by_cmp, is_lt, is_eq}
use Rattle.std.specs.Cmp.{int_cmp_total, nat_cmp_total, Equal-is}
use Rattle.std.proofs.lemmas.Cmp.{tied_itself}
use Rattle.std.proofs.lemmas.Bool.{true≢false}
use Rattle.std.proofs.lemmas.Bool.Decides.{Decides-eqb}
use Rattle.asm_value.specs.declared.value.Value.{Value}
use Rattle.asm_value.specs.declared.value.Value.TheOpen.{Value-F}
use Rattle.asm_value.specs.declared.value.Value.TheVariants.{Undef, Truth, Member}
use Rattle.asm_value.specs.declared.value.Value.TheViews.{out-Value}
use Rattle.asm_value.specs.declared.location.Subject.{Subject}
use Rattle.asm_value.specs.declared.location.Subject.TheVariants.{Function, Domain}
use Rattle.asm_value.specs.declared.location.Location.{Location}
use Rattle.asm_value.specs.declared.domain.DomainInfo.{DomainInfo}
use Rattle.asm_value.specs.declared.domain.DomainKind.{DomainKind}
use Rattle.asm_value.specs.declared.domain.DomainKind.TheVariants as kind
use Rattle.asm_value.specs.Value.{as_truth_level, as_member_level, compare}
use Rattle.asm_value.specs.Location.{location_cmp}
use Rattle.asm_value.specs.TotalOrders.{location_cmp_total, compare_total, compare-IsAntisymmetric}
use Rattle.asm_value.specs.State.{StateMap}
use Rattle.asm_value.proofs.StateLaws.{location_is, location_itself, false_by}
use Rattle.asm_value.specs.Ranges.{Mem}
use Rattle.asm_value.proofs.Listing.{first_true, second_true, both_true}
use Rattle.asm_value.proofs.MemberLists.{same_out, out_undef, out_truth, out_member, compare_as}
use Rattle.asm_value.specs.Members.{live_indexes}
use Rattle.asm_value.specs.Living.{member_location, HasMember, index_in, only_index, is_true}
use Rattle.asm_value.specs.Living.{said_at, member_said, members_in, members_of_kind, members_from}
use Rattle.asm_value.specs.Living.{live_of}
use Rattle.asm_value.specs.Living.{is_abstract_kind, is_abstract, ListsMembers}

-- ---- what an entry says

cond_some : (b : Bool) (o : Option ℕ) (i : ℕ) → cond b o None ≡ Some i → (b ≡ true) × (o ≡ Some i)
cond_some true o i e = (refl, e)
cond_some false o i e = absurd (cc)

some_is : (i j : ℕ) → Some i ≡ Some j → i ≡ j
some_is i j e = ap (λ o. unwrap_or o i) e

index_is : (d i : ℕ) (v : Value) (a : Value-F Value) → out-Value v ≡ a
    → index_in d (as_member_level a) ≡ Some i → v ≡ Member d i
index_is d i v (Value-F.Member e j) o h =
    let found = cond_some (e == d) (Some j) i h in
    same_out v (Member d i) (o
    ∙ (λ k. Value-F.Member ((Decides-eqb e d).0 found.0 k) (some_is j i found.1 k))
    ∙ sym (out_member d i))
index_is d i v a o h = absurd (cc)

truth_is : (v : Value) (a : Value-F Value) → out-Value v ≡ a
    → unwrap_or (as_truth_level a) false ≡ true → v ≡ Truth true
truth_is v (Value-F.Truth b) o h =
    same_out v (Truth true) (o ∙ ap (λ c. Value-F.Truth c) h ∙ sym (out_truth true))
truth_is v a o h = absurd (cc)

only_is : (d i : ℕ) (args : List Value) → only_index d args ≡ Some i → args ≡ Member d i ∷ []
only_is d i [] h = absurd (cc)
only_is d i (v ∷ []) h = ap (λ w. w ∷ []) (index_is d i v (out-Value v) refl h)
only_is d i (v ∷ w ∷ vs) h = absurd (cc)

said_is : (d i : ℕ) (p : Subject) (holds : Bool) (args : List Value)
    → said_at d p holds args ≡ Some i → (p ≡ Domain d) × ((holds ≡ true) × (args ≡ Member d i ∷ []))
said_is d i (Function f) holds args h = absurd (cc)
said_is d i (Domain e) holds args h =
    let found = cond_some ((e == d) && holds) (only_index d args) i h in (
      ap (λ n. Domain n) ((Decides-eqb e d).0 (first_true (e == d) holds found.0)),
      (second_true (e == d) holds found.0, only_is d i args found.1),
    )

Says : ℕ → ℕ → Location × Value → Type 0
Says d i e = (e.0 ≡ member_location d i) × (e.1 ≡ Truth true)

says : (d i : ℕ) (e : Location × Value) → member_said d e ≡ Some i → Says d i e
unfolding Says
says d i e h =
    let is = said_is d i e.0.subject (is_true e.1) e.0.args h in
    ((λ k. record { subject = is.0 k; args = is.1.1 k }), truth_is e.1 (out-Value e.1) refl is.1.0)

said : (d i : ℕ) → member_said d (member_location d i, Truth true) ≡ Some i
said d i =
    (λ k. cond ((d == d) && unwrap_or (as_truth_level (out_truth true k)) false)
    (index_in d (as_member_level (out_member d i k))) None)
    ∙ (λ k. cond (both_true (d == d) true ((Decides-eqb d d).1 refl) refl k)
    (cond ((Decides-eqb d d).1 refl k) (Some i) None) None)

-- only the truth value true is true, and a comparison with it says so too
pub is_true-Truth : is_true (Truth true) ≡ true
is_true-Truth = ap (λ a. unwrap_or (as_truth_level a) false) (out_truth true)

pub is_true-only : (v : Value) → is_true v ≡ true → v ≡ Truth true
is_true-only v h = truth_is v (out-Value v) refl h

pub is_true-compare : (v : Value) → eq_by_cmp compare v (Truth true) ≡ is_true v
is_true-compare v =
    elim (is_true v) as (λ b. is_true v ≡ b → eq_by_cmp compare v (Truth true) ≡ b) [
      | true ↦ λ holds.
          subst (λ x. eq_by_cmp compare v x ≡ true) (is_true-only v holds)
          (ap is_eq (tied_itself compare_total v))
      | false ↦ λ fails. false_by _ (λ tie.
          let e = compare-IsAntisymmetric v (Truth true) ((Equal-is (compare v (Truth true))).0 tie) in
          true≢false (sym is_true-Truth ∙ ap is_true (sym e) ∙ fails))
    ] refl

-- ---- ascending

then_nothing : (o : Ordering) → ordering_then o Equal ≡ o
then_nothing Less = refl
then_nothing Equal = refl
then_nothing Greater = refl

member_cmp : (d i j : ℕ) → compare (Member d i) (Member d j) ≡ nat_cmp i j
member_cmp d i j = compare_as _ _ _ _ (out_member d i) (out_member d j)
    ∙ (λ k. ordering_then (ordering_then (tied_itself int_cmp_total (pos d) k)
    (ordering_then (nat_cmp i j) Equal)) Equal)
    ∙ then_nothing (ordering_then (nat_cmp i j) Equal) ∙ then_nothing (nat_cmp i j)

location_order : (d i j : ℕ)
    → location_cmp (member_location d i) (member_location d j) ≡ nat_cmp i j
location_order d i j =
    (λ k. ordering_then (tied_itself nat_cmp_total d k)
    (ordering_then (member_cmp d i j k) Equal)) ∙ then_nothing (nat_cmp i j)

less_is : (o : Ordering) → T (is_lt o) → o ≡ Less
less_is Less h = refl
less_is Equal h = absurd h
less_is Greater h = absurd h

left_holds : (a b : Bool) → T (a && b) → T a
left_holds true b h = tt
left_holds false b h = absurd h

right_holds : (a b : Bool) → T (a && b) → T b
right_holds true b h = h
right_holds false b h = absurd h

said_above : (d i j : ℕ) (l : Location) (e : Location × Value) → l ≡ member_location d i
    → member_said d e ≡ Some j → T (is_lt (location_cmp l e.0)) → nat_cmp i j ≡ Less
unfolding Says
said_above d i j l e at h below =
    sym (location_order d i j) ∙ (λ k. location_cmp (sym at k) (sym (says d j e h).0 k))
    ∙ less_is (location_cmp l e.0) below

cons_all : (i : ℕ) (o : Option ℕ) (is : List ℕ) → ((j : ℕ) → o ≡ Some j → nat_cmp i j ≡ Less)
    → AllByRecursion (λ j. nat_cmp i j ≡ Less) is
    → AllByRecursion (λ j. nat_cmp i j ≡ Less) (cons_option o is)
cons_all i None is f h = h
cons_all i (Some j) is f h = (f j refl, h)

all_above : (d i : ℕ) (l : Location) → l ≡ member_location d i → (es : List (Location × Value))
    → T (below_all location_cmp l es)
    → AllByRecursion (λ j. nat_cmp i j ≡ Less) (filter_map (member_said d) es)
all_above d i l at [] h = tt
all_above d i l at (e ∷ es) h = cons_all i (member_said d e) (filter_map (member_said d) es)
    (λ j s. said_above d i j l e at s (left_holds (is_lt (location_cmp l e.0)) _ h))
    (all_above d i l at es (right_holds (is_lt (location_cmp l e.0)) _ h))

cons_sorted : (o : Option ℕ) (is : List ℕ)
    → ((i : ℕ) → o ≡ Some i → AllByRecursion (λ j. nat_cmp i j ≡ Less) is)
    → IsStrictlySortedBy nat_cmp is → IsStrictlySortedBy nat_cmp (cons_option o is)
unfolding IsStrictlySortedBy
cons_sorted None is f h = h
cons_sorted (Some i) is f h = (f i refl, h)

nothing_ascends : IsStrictlySortedBy nat_cmp []
unfolding IsStrictlySortedBy
nothing_ascends = tt

says_at : (d i : ℕ) (e : Location × Value) → member_said d e ≡ Some i → e.0 ≡ member_location d i
unfolding Says
says_at d i e h = (says d i e h).0

said_ascend : (d : ℕ) (es : List (Location × Value)) → T (finite.is_sorted location_cmp es)
    → IsStrictlySortedBy nat_cmp (filter_map (member_said d) es)
said_ascend d [] h = nothing_ascends
said_ascend d (e ∷ es) h = cons_sorted (member_said d e) (filter_map (member_said d) es)
    (λ i s. all_above d i e.0 (says_at d i e s) es (left_holds (below_all location_cmp e.0 es) _ h))
    (said_ascend d es (right_holds (below_all location_cmp e.0 es) _ h))

pub members_in_ascend : (state : StateMap) (d : ℕ) → IsStrictlySortedBy nat_cmp (members_in state d)
members_in_ascend state d = said_ascend d (finite.entries state) (finite.entries_sorted state)

-- ---- the locations that are true

cons_mem : (i : ℕ) (o : Option ℕ) (is : List ℕ) → Mem i (cons_option o is) → (o ≡ Some i) ⊎ Mem i is
cons_mem i None is m = inr m
cons_mem i (Some j) is m = elim m [ inl e ↦ inl (ap (λ k. Some k) (sym e)) | inr l ↦ inr l ]

mem_cons : (i : ℕ) (o : Option ℕ) (is : List ℕ) → (o ≡ Some i) ⊎ Mem i is → Mem i (cons_option o is)
mem_cons i None is m = elim m [ inl e ↦ absurd (cc) | inr l ↦ l ]
mem_cons i (Some j) is m = elim m [ inl e ↦ inl (sym (some_is j i e)) | inr l ↦ inr l ]

-- an entry below all others is found at its key alone
later_differs : (l : Location) (e : Location × Value) → T (is_lt (location_cmp e.0 l))
    → eq_by_cmp location_cmp l e.0 ≡ true → ⊥
later_differs l e below tie =
    let at = location_is l e.0 tie in
    let unlike : Less ≡ Equal = sym (less_is (location_cmp e.0 l) below) ∙ ap (location_cmp e.0) at
    ∙ tied_itself location_cmp_total e.0 in
    absurd (cc)

either_way : (b : Bool) → (b ≡ true) ⊎ (b ≡ false)
either_way true = inl refl
either_way false = inr refl

not_true : Undef ≡ Truth true → ⊥
not_true e =
    let unlike : Value-F.Undef ≡ Value-F.Truth true = sym out_undef ∙ ap out-Value e
    ∙ out_truth true in absurd (cc)

abbrev found : Location → List (Location × Value) → Value
found l es = unwrap_or (finite.find location_cmp l es) Undef

tied_found : (l : Location) (e : Location × Value) (es : List (Location × Value))
    → eq_by_cmp location_cmp l e.0 ≡ true → found l (e ∷ es) ≡ e.1
tied_found l e es tie =
    λ k. unwrap_or (cond (tie k) (Some e.1) (finite.find location_cmp l es)) Undef

passed_found : (l : Location) (e : Location × Value) (es : List (Location × Value))
    → eq_by_cmp location_cmp l e.0 ≡ false → found l (e ∷ es) ≡ found l es
passed_found l e es apart =
    λ k. unwrap_or (cond (apart k) (Some e.1) (finite.find location_cmp l es)) Undef

said_where_true : (d i : ℕ) (e : Location × Value) → e.0 ≡ member_location d i → e.1 ≡ Truth true
    → member_said d e ≡ Some i
said_where_true d i e at holds = (λ k. member_said d (at k, holds k)) ∙ said d i

true_listed : (d i : ℕ) (es : List (Location × Value)) → found (member_location d i) es ≡ Truth true
    → Mem i (filter_map (member_said d) es)
true_listed d i [] h = absurd (not_true h)
true_listed d i (e ∷ es) h =
    let l = member_location d i in
    elim (either_way (eq_by_cmp location_cmp l e.0)) [
      | inl tie ↦ mem_cons i (member_said d e) _
          (inl (said_where_true d i e (sym (location_is l e.0 tie))
          (sym (tied_found l e es tie) ∙ h)))
      | inr apart ↦ mem_cons i (member_said d e) _
          (inr (true_listed d i es (sym (passed_found l e es apart) ∙ h)))
    ]

listed_above : (d i : ℕ) (x : Location) (es : List (Location × Value))
    → T (below_all location_cmp x es) → Mem i (filter_map (member_said d) es)
    → T (is_lt (location_cmp x (member_location d i)))
listed_above d i x [] h m = absurd m
listed_above d i x (e ∷ es) h m =
    elim (cons_mem i (member_said d e) (filter_map (member_said d) es) m) [
      | inl s ↦ subst (λ k. T (is_lt (location_cmp x k))) (says_at d i e s)
          (left_holds (is_lt (location_cmp x e.0)) _ h)
      | inr l ↦ listed_above d i x es (right_holds (is_lt (location_cmp x e.0)) _ h) l
    ]

says_true : (d i : ℕ) (e : Location × Value) → member_said d e ≡ Some i → e.1 ≡ Truth true
unfolding Says
says_true d i e h = (says d i e h).1

listed_true : (d i : ℕ) (es : List (Location × Value)) → T (finite.is_sorted location_cmp es)
    → Mem i (filter_map (member_said d) es) → found (member_location d i) es ≡ Truth true
listed_true d i [] h m = absurd m
listed_true d i (e ∷ es) h m =
    let l = member_location d i in
    elim (cons_mem i (member_said d e) (filter_map (member_said d) es) m) [
      | inl s ↦ tied_found l e es (location_itself l e.0 (sym (says_at d i e s)))
          ∙ says_true d i e s
      | inr k ↦ elim (either_way (eq_by_cmp location_cmp l e.0)) [
        | inl tie ↦ absurd (later_differs l e
            (listed_above d i e.0 es (left_holds (below_all location_cmp e.0 es) _ h) k) tie)
        | inr apart ↦ passed_found l e es apart
            ∙ listed_true d i es (right_holds (below_all location_cmp e.0 es) _ h) k
      ]
    ]

-- the members listed are those that the state has
pub members_in-has : (state : StateMap) (d i : ℕ) → Mem i (members_in state d) → HasMember state d i
members_in-has state d i m =
    ap (λ o. unwrap_or o Undef) (finite.get-entries state (member_location d i))
    ∙ listed_true d i (finite.entries state) (finite.entries_sorted state) m

pub has-members_in : (state : StateMap) (d i : ℕ) → HasMember state d i → Mem i (members_in state d)
has-members_in state d i h =
    true_listed d i (finite.entries state)
    (sym (ap (λ o. unwrap_or o Undef) (finite.get-entries state (member_location d i))) ∙ h)

-- ---- of declared domains

abbrev pub of_declared : StateMap → ℕ → Option DomainInfo → List ℕ
of_declared state d o =
    elim o as (λ _. List ℕ) [ None ↦ [] | Some info ↦ members_of_kind state d info.kind ]

live_at : (state : StateMap) (k : ℕ) (domains : List DomainInfo) (d : ℕ)
    → elim (slice_get (members_from state k domains) d) as (λ _. List ℕ)
    [ None ↦ [] | Some indexes ↦ indexes ] ≡ of_declared state (k + d) (slice_get domains d)
live_at state k [] d = refl
live_at state k (info ∷ infos) zero = ap (λ n. members_of_kind state n info.kind) (omega arith)
live_at state k (info ∷ infos) (suc d) =
    live_at state (k + 1) infos d ∙ ap (λ n. of_declared state n (slice_get infos d)) (omega arith)

-- the members of the declared domain with number d, none where it is not abstract
pub live_indexes-live_of : (state : StateMap) (domains : List DomainInfo) (d : ℕ)
    → live_indexes (live_of state domains) d ≡ of_declared state d (slice_get domains d)
live_indexes-live_of state domains d =
    live_at state 0 domains d ∙ ap (λ n. of_declared state n (slice_get domains d)) (omega arith)

kind_ascends : (state : StateMap) (d : ℕ) (k : DomainKind)
    → IsStrictlySortedBy nat_cmp (members_of_kind state d k)
kind_ascends state d (kind.Enum names) = nothing_ascends
kind_ascends state d (kind.Abstract names) = members_in_ascend state d
kind_ascends state d (kind.Subset numbers) = nothing_ascends

declared_ascends : (state : StateMap) (d : ℕ) (o : Option DomainInfo)
    → IsStrictlySortedBy nat_cmp (of_declared state d o)
declared_ascends state d None = nothing_ascends
declared_ascends state d (Some info) = kind_ascends state d info.kind

-- the indexes of each domain ascend
pub live_ascends : (state : StateMap) (domains : List DomainInfo) (d : ℕ)
    → IsStrictlySortedBy nat_cmp (live_indexes (live_of state domains) d)
live_ascends state domains d =
    subst (IsStrictlySortedBy nat_cmp) (sym (live_indexes-live_of state domains d))
    (declared_ascends state d (slice_get domains d))

kind_members : (state : StateMap) (d i : ℕ) (k : DomainKind)
    → Mem i (members_of_kind state d k) ↔ ((is_abstract_kind k ≡ true) × HasMember state d i)
kind_members state d i (kind.Enum names) = (λ m. absurd m, λ h. absurd (true≢false (sym h.0)))
kind_members state d i (kind.Abstract names) =
    (λ m. (refl, members_in-has state d i m), λ h. has-members_in state d i h.1)
kind_members state d i (kind.Subset numbers) = (λ m. absurd m, λ h. absurd (true≢false (sym h.0)))

abbrev abstract_at : Option DomainInfo → Bool
abstract_at o = elim o as (λ _. Bool) [ None ↦ false | Some info ↦ is_abstract_kind info.kind ]

declared_members : (state : StateMap) (d i : ℕ) (o : Option DomainInfo)
    → Mem i (of_declared state d o) ↔ ((abstract_at o ≡ true) × HasMember state d i)
declared_members state d i None = (λ m. absurd m, λ h. absurd (true≢false (sym h.0)))
declared_members state d i (Some info) = kind_members state d i info.kind

one_each : (state : StateMap) (d : ℕ) (domains : List DomainInfo)
    → length (members_from state d domains) ≡ length domains
one_each state d [] = refl
one_each state d (info ∷ infos) = ap (λ n. suc n) (one_each state (d + 1) infos)

-- the lists are those of the members, ascending
pub live_of-ListsMembers : (state : StateMap) (domains : List DomainInfo)
    → ListsMembers state domains (live_of state domains)
live_of-ListsMembers state domains = record {
  one_each = one_each state 0 domains;
  ascends = live_ascends state domains;
  members = λ d i.
      subst (λ is. Mem i is ↔ ((is_abstract domains d ≡ true) × HasMember state d i))
      (sym (live_indexes-live_of state domains d))
      (declared_members state d i (slice_get domains d));
}
