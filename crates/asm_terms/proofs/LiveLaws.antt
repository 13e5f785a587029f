-- The members of abstract domains after an update are those of the state that it leads to.
use Rattle.std.proofs.Common.{◌≡◌, ◌≢◌, ◌⊎◌, inl, inr, ℕ, zero, suc, ◌+◌, ◌<◌, ◌==◌, ◌&&◌}
use Rattle.std.proofs.Common.{Bool, true, false, cond, if◌then◌else◌, nat_lt, Option, Some, None}
use Rattle.std.proofs.Common.{unwrap_or, List, [], ◌∷◌, ◌++◌, filter, slice_get, length}
use Rattle.std.proofs.Common.{append_assoc, refl, sym, ap}
use Rattle.std.proofs.Common.{subst, ◌∙◌, arith}
use Rattle.std.specs.List.{AllByRecursion}
use Rattle.std.specs.List.Sorted.{IsStrictlySortedBy}
use Rattle.std.specs.declared.cmp.Ordering.TheVariants.{Less}
use Rattle.std.specs.Ordering.{nat_cmp}
use Rattle.std.specs.Cmp.{nat_cmp_is, ranked}
use Rattle.std.proofs.lemmas.Bool.{true≢false}
use Rattle.std.proofs.lemmas.Bool.Decides.{Decides-eqb, nat_tests}
use Rattle.asm_value.proofs.Listing.{first_true}
use Rattle.std.proofs.lemmas.List.Kept.{IsStrictlySortedBy-filter}
use Rattle.asm_value.specs.declared.value.Value.{Value}
use Rattle.asm_value.specs.declared.value.Value.TheOpen.{Value-F}
use Rattle.asm_value.specs.declared.value.Value.TheVariants.{Member}
use Rattle.asm_value.specs.declared.value.Value.TheViews.{out-Value}
use Rattle.asm_value.specs.declared.location.Subject.{Subject}
use Rattle.asm_value.specs.declared.location.Subject.TheVariants.{Function, Domain}
use Rattle.asm_value.specs.declared.location.Location.{Location}
use Rattle.asm_value.specs.declared.location.Update.{Update}
use Rattle.asm_value.specs.declared.domain.DomainInfo.{DomainInfo}
use Rattle.asm_value.specs.declared.domain.DomainKind.{DomainKind}
use Rattle.asm_value.specs.declared.domain.DomainKind.TheVariants as kind
use Rattle.asm_value.specs.declared.domain.Live.{Live}
use Rattle.asm_value.specs.Value.{as_member_level}
use Rattle.asm_value.specs.Ranges.{Mem}
use Rattle.asm_value.specs.State.{StateMap, value_at, fire_one}
use Rattle.asm_value.specs.Members.{live_indexes}
use Rattle.asm_value.specs.Living.{member_location, HasMember, index_in, only_index, is_true}
use Rattle.asm_value.specs.Living.{said_at, members_in, members_of_kind, members_from, live_of}
use Rattle.asm_value.proofs.StateLaws.{location_is, false_by}
use Rattle.asm_value.proofs.LivingLaws.{is_true-Truth, is_true-only, members_in_ascend}
use Rattle.asm_value.proofs.LivingLaws.{members_in-has, has-members_in, of_declared}
use Rattle.asm_value.proofs.LivingLaws.{live_indexes-live_of}
use Rattle.asm_value.proofs.MemberLists.{same_out, out_member}
use Rattle.asm_terms.specs.Lives.{placed, placed_at, after, lists_after, live_after}
use Rattle.asm_terms.proofs.OverlayLaws.{value_at-fire_one, value_at-other}

-- ---- ascending lists of numbers

less_below : (x y : ℕ) → nat_cmp x y ≡ Less → x < y
less_below x y h = ranked x y Less (sym h)

below_less : (x y : ℕ) → x < y → nat_cmp x y ≡ Less
below_less x y h = sym (nat_cmp_is x y Less h)

module _ (P : ℕ → Type 0) where
  at_each : (xs : List ℕ) (j : ℕ) → AllByRecursion P xs → Mem j xs → P j
  at_each [] j all m = absurd m
  at_each (x ∷ xs) j all m =
      elim m [ inl e ↦ subst P (sym e) all.0 | inr later ↦ at_each xs j all.1 later ]

  of_each : (xs : List ℕ) → ((j : ℕ) → Mem j xs → P j) → AllByRecursion P xs
  of_each [] h = tt
  of_each (x ∷ xs) h = (h x (inl refl), of_each xs (λ j m. h j (inr m)))

sorted_head : (x : ℕ) (xs : List ℕ) (j : ℕ) → IsStrictlySortedBy nat_cmp (x ∷ xs) → Mem j xs
    → x < j
unfolding IsStrictlySortedBy
sorted_head x xs j s m = less_below x j (at_each (λ y. nat_cmp x y ≡ Less) xs j s.0 m)

sorted_tail : (x : ℕ) (xs : List ℕ) → IsStrictlySortedBy nat_cmp (x ∷ xs)
    → IsStrictlySortedBy nat_cmp xs
unfolding IsStrictlySortedBy
sorted_tail x xs s = s.1

sorted_none : IsStrictlySortedBy nat_cmp []
unfolding IsStrictlySortedBy
sorted_none = tt

sorted_cons : (x : ℕ) (xs : List ℕ) → ((j : ℕ) → Mem j xs → x < j)
    → IsStrictlySortedBy nat_cmp xs → IsStrictlySortedBy nat_cmp (x ∷ xs)
unfolding IsStrictlySortedBy
sorted_cons x xs low s = (of_each (λ y. nat_cmp x y ≡ Less) xs (λ j m. below_less x j (low j m)), s)

apart : {x y : ℕ} → x < y → y < x → ⊥
apart a b = omega arith

unlike : {x y : ℕ} → x < y → x ≡ y → ⊥
unlike a e = omega arith

-- of two ascending lists with the same members the first ones are equal
heads : (x y : ℕ) (xs ys : List ℕ) → IsStrictlySortedBy nat_cmp (x ∷ xs)
    → IsStrictlySortedBy nat_cmp (y ∷ ys) → Mem x (y ∷ ys) → Mem y (x ∷ xs) → x ≡ y
heads x y xs ys s t m k =
    elim m [
      | inl e ↦ e
      | inr later ↦ elim k [
        | inl e ↦ sym e
        | inr last ↦ absurd (apart (sorted_head x xs y s last) (sorted_head y ys x t later))
      ]
    ]

mem_tail : (x j : ℕ) (ys : List ℕ) → x < j → Mem j (x ∷ ys) → Mem j ys
mem_tail x j ys low m =
    elim m [ inl e ↦ absurd (unlike low (sym e)) | inr later ↦ later ]

same_members : (xs ys : List ℕ) → IsStrictlySortedBy nat_cmp xs → IsStrictlySortedBy nat_cmp ys
    → ((j : ℕ) → Mem j xs → Mem j ys) → ((j : ℕ) → Mem j ys → Mem j xs) → xs ≡ ys
same_members [] [] s t f g = refl
same_members [] (y ∷ ys) s t f g = absurd (g y (inl refl))
same_members (x ∷ xs) [] s t f g = absurd (f x (inl refl))
same_members (x ∷ xs) (y ∷ ys) s t f g =
    let e = heads x y xs ys s t (f x (inl refl)) (g y (inl refl)) in
    let rest = same_members xs ys (sorted_tail x xs s) (sorted_tail y ys t)
    (λ j m. mem_tail y j ys (subst (λ z. z < j) e (sorted_head x xs j s m)) (f j (inr m)))
    (λ j m. mem_tail x j xs (subst (λ z. z < j) (sym e) (sorted_head y ys j t m))
    (g j (inr m))) in
    λ i. e i ∷ rest i

-- ---- members of parts

mem_left : (j : ℕ) (xs ys : List ℕ) → Mem j xs → Mem j (xs ++ ys)
mem_left j [] ys m = absurd m
mem_left j (x ∷ xs) ys m = elim m [ inl e ↦ inl e | inr later ↦ inr (mem_left j xs ys later) ]

mem_right : (j : ℕ) (xs ys : List ℕ) → Mem j ys → Mem j (xs ++ ys)
mem_right j [] ys m = m
mem_right j (x ∷ xs) ys m = inr (mem_right j xs ys m)

mem_either : (j : ℕ) (xs ys : List ℕ) → Mem j (xs ++ ys) → Mem j xs ⊎ Mem j ys
mem_either j [] ys m = inr m
mem_either j (x ∷ xs) ys m =
    elim m [
      | inl e ↦ inl (inl e)
      | inr later ↦ elim (mem_either j xs ys later) [ inl l ↦ inl (inr l) | inr r ↦ inr r ]
    ]

module _ (q : ℕ → Bool) where
  kept_cons : (j x : ℕ) (b : Bool) (rest : List ℕ) → Mem j (cond b (x ∷ rest) rest)
      → ((j ≡ x) × (b ≡ true)) ⊎ Mem j rest
  kept_cons j x true rest m = elim m [ inl e ↦ inl (e, refl) | inr later ↦ inr later ]
  kept_cons j x false rest m = inr m

  kept_here : (j x : ℕ) (b : Bool) (rest : List ℕ) → j ≡ x → b ≡ true
      → Mem j (cond b (x ∷ rest) rest)
  kept_here j x true rest e h = inl e
  kept_here j x false rest e h = absurd (true≢false (sym h))

  kept_later : (j x : ℕ) (b : Bool) (rest : List ℕ) → Mem j rest
      → Mem j (cond b (x ∷ rest) rest)
  kept_later j x true rest m = inr m
  kept_later j x false rest m = m

  mem_filter : (j : ℕ) (xs : List ℕ) → Mem j xs → q j ≡ true → Mem j (filter q xs)
  mem_filter j [] m h = absurd m
  mem_filter j (x ∷ xs) m h =
      elim m [
        | inl e ↦ kept_here j x (q x) (filter q xs) e (ap q (sym e) ∙ h)
        | inr later ↦ kept_later j x (q x) (filter q xs) (mem_filter j xs later h)
      ]

  filter_mem : (j : ℕ) (xs : List ℕ) → Mem j (filter q xs) → Mem j xs × (q j ≡ true)
  filter_mem j [] m = absurd m
  filter_mem j (x ∷ xs) m =
      elim (kept_cons j x (q x) (filter q xs) m) [
        | inl here ↦ (inl here.0, ap q here.0 ∙ here.1)
        | inr later ↦ let f = filter_mem j xs later in (inr f.0, f.1)
      ]

sorted_append : (xs ys : List ℕ) → IsStrictlySortedBy nat_cmp xs → IsStrictlySortedBy nat_cmp ys
    → ((x y : ℕ) → Mem x xs → Mem y ys → x < y) → IsStrictlySortedBy nat_cmp (xs ++ ys)
sorted_append [] ys s t low = t
sorted_append (x ∷ xs) ys s t low =
    sorted_cons x (xs ++ ys)
    (λ j m. elim (mem_either j xs ys m) [
      | inl l ↦ sorted_head x xs j s l
      | inr r ↦ low x j (inl refl) r
    ])
    (sorted_append xs ys (sorted_tail x xs s) t (λ a b m n. low a b (inr m) n))

-- ---- an index in its place

less_or_more : (j i : ℕ) → j ≢ i → (j < i) ⊎ (i < j)
less_or_more zero zero n = absurd (n refl)
less_or_more zero (suc i) n = inl (omega arith)
less_or_more (suc j) zero n = inr (omega arith)
less_or_more (suc j) (suc i) n =
    elim (less_or_more j i (λ e. n (ap (λ k. suc k) e))) [
      | inl l ↦ inl (omega (arith, l))
      | inr g ↦ inr (omega (arith, g))
    ]

same_or_not : (j i : ℕ) → (j ≡ i) ⊎ (j ≢ i)
same_or_not zero zero = inl refl
same_or_not zero (suc i) = inr (λ e. omega (arith, e))
same_or_not (suc j) zero = inr (λ e. omega (arith, e))
same_or_not (suc j) (suc i) =
    elim (same_or_not j i) [
      | inl e ↦ inl (ap (λ k. suc k) e)
      | inr n ↦ inr (λ e. n (omega (arith, e)))
    ]

lt_true : (m n : ℕ) → nat_lt m n ≡ true → m < n
lt_true m n h = grind (arith, nat_tests)

lt_holds : (m n : ℕ) → m < n → nat_lt m n ≡ true
lt_holds m n h = grind (arith, nat_tests)

module _ (i : ℕ) (is : List ℕ) (sorted : IsStrictlySortedBy nat_cmp is) where
  abbrev lesser : List ℕ
  lesser = filter (λ j. nat_lt j i) is

  abbrev greater : List ℕ
  greater = filter (λ j. nat_lt i j) is

  abbrev middle : Bool → List ℕ
  middle present = if present then i ∷ [] else []

  abbrev spread : Bool → List ℕ
  spread present = lesser ++ (middle present ++ greater)

  placed_spread : (present : Bool) → placed i present is ≡ spread present
  placed_spread present = append_assoc lesser (middle present) greater

  middle_sorted : (present : Bool) → IsStrictlySortedBy nat_cmp (middle present)
  middle_sorted true = sorted_cons i [] (λ j m. absurd m) sorted_none
  middle_sorted false = sorted_none

  middle_is : (present : Bool) (j : ℕ) → Mem j (middle present) → (j ≡ i) × (present ≡ true)
  middle_is true j m = elim m [ inl e ↦ (e, refl) | inr later ↦ absurd later ]
  middle_is false j m = absurd m

  middle_has : (present : Bool) → present ≡ true → Mem i (middle present)
  middle_has true h = inl refl
  middle_has false h = absurd (true≢false (sym h))

  lesser_below : (j : ℕ) → Mem j lesser → j < i
  lesser_below j m = lt_true j i (filter_mem (λ k. nat_lt k i) j is m).1

  greater_above : (j : ℕ) → Mem j greater → i < j
  greater_above j m = lt_true i j (filter_mem (λ k. nat_lt i k) j is m).1

  upper_above : (present : Bool) (x y : ℕ) → x < i → Mem y (middle present ++ greater) → x < y
  upper_above present x y low m =
      elim (mem_either y (middle present) greater m) [
        | inl here ↦ subst (λ z. x < z) (sym (middle_is present y here).0) low
        | inr above ↦ let g = greater_above y above in omega (arith, g, low)
      ]

  placed_sorted : (present : Bool) → IsStrictlySortedBy nat_cmp (spread present)
  placed_sorted present =
      sorted_append lesser (middle present ++ greater)
      (IsStrictlySortedBy-filter nat_cmp (λ j. nat_lt j i) is sorted)
      (sorted_append (middle present) greater (middle_sorted present)
      (IsStrictlySortedBy-filter nat_cmp (λ j. nat_lt i j) is sorted)
      (λ x y m n. subst (λ z. z < y) (sym (middle_is present x m).0) (greater_above y n)))
      (λ x y m n. upper_above present x y (lesser_below x m) n)

  placed_mem : (present : Bool) (j : ℕ) → Mem j (spread present)
      → ((j ≡ i) × (present ≡ true)) ⊎ ((j ≢ i) × Mem j is)
  placed_mem present j m =
      elim (mem_either j lesser (middle present ++ greater) m) [
        | inl l ↦ inr (
          (λ e. unlike (lesser_below j l) e),
          (filter_mem (λ k. nat_lt k i) j is l).0,
        )
        | inr r ↦ elim (mem_either j (middle present) greater r) [
          | inl here ↦ inl (middle_is present j here)
          | inr g ↦ inr (
            (λ e. unlike (greater_above j g) (sym e)),
            (filter_mem (λ k. nat_lt i k) j is g).0,
          )
        ]
      ]

  placed_here : (present : Bool) → present ≡ true → Mem i (spread present)
  placed_here present h =
      mem_right i lesser (middle present ++ greater)
      (mem_left i (middle present) greater (middle_has present h))

  placed_other : (present : Bool) (j : ℕ) → j ≢ i → Mem j is → Mem j (spread present)
  placed_other present j n m =
      elim (less_or_more j i n) [
        | inl l ↦ mem_left j lesser (middle present ++ greater)
            (mem_filter (λ k. nat_lt k i) j is m (lt_holds j i l))
        | inr g ↦ mem_right j lesser (middle present ++ greater)
            (mem_right j (middle present) greater
            (mem_filter (λ k. nat_lt i k) j is m (lt_holds i j g)))
      ]

-- ---- the location of a member

cond_some : (b : Bool) (o : Option ℕ) (i : ℕ) → cond b o None ≡ Some i → (b ≡ true) × (o ≡ Some i)
cond_some true o i e = (refl, e)
cond_some false o i e = absurd (cc)

some_is : (i j : ℕ) → Some i ≡ Some j → i ≡ j
some_is i j e = ap (λ o. unwrap_or o i) e

none_some : (i : ℕ) → None ≡ Some i → ⊥
none_some i e = absurd (cc)

itself : (d i : ℕ) → cond ((d == d) && true) (index_in d (Some (d, i))) None ≡ Some i
itself d i =
    (λ k. cond ((Decides-eqb d d).1 refl k && true) (cond ((Decides-eqb d d).1 refl k)
    (Some i) None) None)

said_here : (d i : ℕ) (l : Location) → l ≡ member_location d i
    → said_at d l.subject true l.args ≡ Some i
said_here d i l e =
    ap (λ m. said_at d m.subject true m.args) e
    ∙ (λ k. cond ((d == d) && true) (index_in d (as_member_level (out_member d i k))) None)
    ∙ itself d i

index_is : (d i : ℕ) (v : Value) (a : Value-F Value) → out-Value v ≡ a
    → index_in d (as_member_level a) ≡ Some i → v ≡ Member d i
index_is d i v (Value-F.Member e j) o h =
    let found = cond_some (e == d) (Some j) i h in
    same_out v (Member d i) (o
    ∙ (λ k. Value-F.Member ((Decides-eqb e d).0 found.0 k) (some_is j i found.1 k))
    ∙ sym (out_member d i))
index_is d i v a o h = absurd (cc)

only_is : (d i : ℕ) (args : List Value) → only_index d args ≡ Some i → args ≡ Member d i ∷ []
only_is d i [] h = absurd (cc)
only_is d i (v ∷ []) h = ap (λ w. w ∷ []) (index_is d i v (out-Value v) refl h)
only_is d i (v ∷ w ∷ vs) h = absurd (cc)

said_is : (d i : ℕ) (p : Subject) (args : List Value) → said_at d p true args ≡ Some i
    → (p ≡ Domain d) × (args ≡ Member d i ∷ [])
said_is d i (Function f) args h = absurd (cc)
said_is d i (Domain e) args h =
    let found = cond_some ((e == d) && true) (only_index d args) i h in (
      ap (λ n. Domain n) ((Decides-eqb e d).0 (first_true (e == d) true found.0)),
      only_is d i args found.1,
    )

said_location : (d i : ℕ) (l : Location) → said_at d l.subject true l.args ≡ Some i
    → l ≡ member_location d i
said_location d i l h =
    let is = said_is d i l.subject l.args h in
    λ k. record { subject = is.0 k; args = is.1 k }

-- ---- one domain

member_index : (d i j : ℕ) → member_location d j ≡ member_location d i → j ≡ i
member_index d i j e =
    some_is j i (sym (said_here d j (member_location d j) refl)
    ∙ said_here d i (member_location d j) e)

module _ (state : StateMap) (u : Update) (d : ℕ) where
  -- a member that the update isn't about is there as before
  kept : (j : ℕ) → (u.location ≡ member_location d j → ⊥)
      → value_at (fire_one state u) (member_location d j) ≡ value_at state (member_location d j)
  kept j n = value_at-other state u (member_location d j)
      (false_by _ (λ tie. n (sym (location_is (member_location d j) u.location tie))))

  about_none : said_at d u.location.subject true u.location.args ≡ None
      → members_in state d ≡ members_in (fire_one state u) d
  about_none e =
      let no : (j : ℕ) → u.location ≡ member_location d j → ⊥ =
      λ j at. none_some j (sym e ∙ said_here d j u.location at) in
      same_members _ _ (members_in_ascend state d) (members_in_ascend (fire_one state u) d)
      (λ j m. has-members_in (fire_one state u) d j (kept j (no j) ∙ members_in-has state d j m))
      (λ j m. has-members_in state d j
      (sym (kept j (no j)) ∙ members_in-has (fire_one state u) d j m))

  about_one : (i : ℕ) → said_at d u.location.subject true u.location.args ≡ Some i
      → placed i (is_true u.value) (members_in state d) ≡ members_in (fire_one state u) d
  about_one i e =
      let at = said_location d i u.location e in
      let there : value_at (fire_one state u) (member_location d i) ≡ u.value =
      subst (λ l. value_at (fire_one state u) l ≡ u.value) at (value_at-fire_one state u) in
      let other : (j : ℕ) → j ≢ i → u.location ≡ member_location d j → ⊥ =
      λ j n k. n (member_index d i j (sym k ∙ at)) in
      placed_spread i (members_in state d) (members_in_ascend state d) (is_true u.value)
      ∙ same_members _ _ (placed_sorted i (members_in state d) (members_in_ascend state d)
      (is_true u.value)) (members_in_ascend (fire_one state u) d)
      (λ j m. elim (placed_mem i (members_in state d) (members_in_ascend state d)
      (is_true u.value) j m) [
        | inl here ↦ has-members_in (fire_one state u) d j
            (subst (λ k. HasMember (fire_one state u) d k) (sym here.0)
            (there ∙ is_true-only u.value here.1))
        | inr past ↦ has-members_in (fire_one state u) d j
            (kept j (other j past.0) ∙ members_in-has state d j past.1)
      ])
      (λ j m. elim (same_or_not j i) [
        | inl s ↦ subst (λ k. Mem k (spread i (members_in state d) (members_in_ascend state d)
            (is_true u.value))) (sym s)
            (placed_here i (members_in state d) (members_in_ascend state d) (is_true u.value)
            (ap is_true (sym there ∙ subst (λ k. HasMember (fire_one state u) d k) s
            (members_in-has (fire_one state u) d j m)) ∙ is_true-Truth))
        | inr n ↦ placed_other i (members_in state d) (members_in_ascend state d)
            (is_true u.value) j n (has-members_in state d j
            (sym (kept j (other j n)) ∙ members_in-has (fire_one state u) d j m))
      ])

  about : (o : Option ℕ) → said_at d u.location.subject true u.location.args ≡ o
      → placed_at o (is_true u.value) (members_in state d) ≡ members_in (fire_one state u) d
  about None e = about_none e
  about (Some i) e = about_one i e

  after-kind : (k : DomainKind)
      → after u d k (members_of_kind state d k) ≡ members_of_kind (fire_one state u) d k
  after-kind (kind.Enum names) = refl
  after-kind (kind.Abstract names) = about _ refl
  after-kind (kind.Subset numbers) = refl

-- ---- all domains

lists_after-members : (state : StateMap) (u : Update) (live : Live) (infos : List DomainInfo)
    (d : ℕ)
    → ((k : ℕ) → live_indexes live (d + k) ≡ of_declared state (d + k) (slice_get infos k))
    → lists_after u live d infos ≡ members_from (fire_one state u) d infos
lists_after-members state u live [] d h = refl
lists_after-members state u live (info ∷ infos) d h =
    let here : live_indexes live d ≡ members_of_kind state d info.kind =
    subst (λ k. live_indexes live k ≡ members_of_kind state k info.kind) (omega arith) (h 0) in
    let head = ap (after u d info.kind) here ∙ after-kind state u d info.kind in
    let tail = lists_after-members state u live infos (d + 1)
    (λ k. subst (λ n. live_indexes live n ≡ of_declared state n (slice_get infos k))
    (omega arith) (h (suc k))) in
    λ i. head i ∷ tail i

pub live_after-live_of : (state : StateMap) (u : Update) (domains : List DomainInfo)
    → live_after u domains (live_of state domains) ≡ live_of (fire_one state u) domains
live_after-live_of state u domains =
    ap (λ lists. record { members = lists })
    (lists_after-members state u (live_of state domains) domains 0
    (λ k. subst (λ n. live_indexes (live_of state domains) n ≡ of_declared state n
    (slice_get domains k)) (omega arith) (live_indexes-live_of state domains k)))

-- the lists so far, and one more
pub lists_after-push : (u : Update) (live : Live) (d : ℕ) (infos : List DomainInfo)
    (info : DomainInfo) (n : ℕ)
    → n ≡ d + length infos
    → lists_after u live d (infos ++ info ∷ []) ≡ lists_after u live d infos
    ++ after u n info.kind (live_indexes live n) ∷ []
lists_after-push u live d [] info n e =
    ap (λ k. after u k info.kind (live_indexes live k) ∷ []) (omega (arith, e))
lists_after-push u live d (first ∷ infos) info n e =
    ap (λ lists. after u d first.kind (live_indexes live d) ∷ lists)
    (lists_after-push u live (d + 1) infos info n (omega (arith, e)))
