-- The set of a list of updates: its members, and where the list ascends, that the first two
-- neighbours with one location are the set's least clash. Where there are no such two the set is
-- consistent.
use Rattle.std.proofs.Common.{◌≡◌, ◌≢◌, true, false, ◌||◌, cond, ◌⊎◌, inl, inr, List, [], ◌∷◌}
use Rattle.std.proofs.Common.{Option, Some, None, refl, sym, ap, subst, ◌∙◌}
use Rattle.std.proofs.lemmas.Bool.{true≢false}
use Rattle.std.specs.List.{list_any, AllByRecursion}
use Rattle.std.specs.List.Sorted.{IsStrictlySortedBy}
use Rattle.std.specs.Ordering.{eq_by_cmp}
use Rattle.std.specs.declared.cmp.Ordering.{Ordering}
use Rattle.std.specs.declared.cmp.Ordering.TheVariants.{Less, Equal, Greater}
use Rattle.std.proofs.lemmas.Cmp.{tied_itself}
use Rattle.asm_value.specs.declared.location.Location.{Location}
use Rattle.asm_value.specs.declared.location.Update.{Update}
use Rattle.asm_value.specs.Value.{compare}
use Rattle.asm_value.specs.TotalOrders.{compare_total}
use Rattle.asm_base.proofs.TreeOrder.{then_less}
use Rattle.asm_value.specs.Location.{location_cmp, update_cmp}
use Rattle.asm_value.specs.TotalOrders.{location_cmp_total, location_cmp-IsAntisymmetric}
use Rattle.asm_value.specs.UpdateSet.{same, has, empty, add_all}
use Rattle.asm_value.proofs.UpdateSetLaws.{has-empty, has-add_all}
use Rattle.asm_value.specs.State.{IsConsistent, IsClash}
use Rattle.asm_value.proofs.StateLaws.{same_is, same_itself, location_is, location_itself, or_cases}
use Rattle.asm_value.proofs.StateLaws.{or_left, or_right}

-- what the list has
pub has-listed : (us : List Update) (u : Update) → has (add_all empty us) u ≡ list_any (same u) us
has-listed us u = has-add_all empty us u ∙ ap (λ b. b || list_any (same u) us) (has-empty u)

-- the first two neighbours with one location, where `before` comes before the list
abbrev pub clash_from : Option Update → List Update → Option (Update × Update)
clash_from before [] = None
clash_from None (u ∷ us) = clash_from (Some u) us
clash_from (Some p) (u ∷ us) =
    cond (eq_by_cmp location_cmp p.location u.location) (Some (p, u)) (clash_from (Some u) us)

abbrev In : Update → List Update → Type 0
In u us = list_any (same u) us ≡ true

-- a member is the first, or it is among the others
place : (x u : Update) (us : List Update) → In x (u ∷ us) → (x ≡ u) ⊎ In x us
place x u us h =
    elim (or_cases (same x u) (list_any (same x) us) h)
    [ inl e ↦ inl (same_is x u e) | inr k ↦ inr k ]

member : (P : Update → Type 0) (us : List Update) (x : Update) → AllByRecursion P us → In x us → P x
member P [] x all h = absurd (true≢false (sym h))
member P (u ∷ us) x all h =
    elim (place x u us h) [ inl e ↦ subst P (sym e) all.0 | inr k ↦ member P us x all.1 k ]

abbrev Follows : Update → Update → Type 0
Follows u x = (x ≡ u) ⊎ (update_cmp u x ≡ Less)

follows : (u : Update) (us : List Update) → IsStrictlySortedBy update_cmp (u ∷ us) → (x : Update)
    → In x (u ∷ us) → Follows u x
unfolding IsStrictlySortedBy
follows u us h x k =
    elim (place x u us k) [
      | inl e ↦ inl e
      | inr l ↦ inr
          (member (λ y. update_cmp u y ≡ Less) us x h.0 l)
    ]

tail : (u : Update) (us : List Update) → IsStrictlySortedBy update_cmp (u ∷ us)
    → IsStrictlySortedBy update_cmp us
unfolding IsStrictlySortedBy
tail u us h = h.1

next_less : (p u : Update) (us : List Update) → IsStrictlySortedBy update_cmp (p ∷ u ∷ us)
    → update_cmp p u ≡ Less
unfolding IsStrictlySortedBy
next_less p u us h = h.0.0

location_ties : (l m : Location) → l ≡ m → location_cmp l m ≡ Equal
location_ties l m e = subst (λ k. location_cmp l k ≡ Equal) e (tied_itself location_cmp_total l)

less_apart : (l m : Location) → location_cmp l m ≡ Less → l ≢ m
less_apart l m h e = let differs : Less ≡ Equal = sym h ∙ location_ties l m e in cc

-- where the next location differs, each later one does
apart : (p u y : Update) → update_cmp p u ≡ Less → p.location ≢ u.location → Follows u y
    → p.location ≢ y.location
apart p u y h differs f same_subject =
    elim (then_less (location_cmp p.location u.location) _ h) [
      | inr equal ↦ differs (location_cmp-IsAntisymmetric p.location u.location equal.0)
      | inl less ↦ elim f [
        | inl e ↦ differs (same_subject ∙ ap (λ z. z.location) e)
        | inr k ↦ elim (then_less (location_cmp u.location y.location) _ k) [
          | inl later ↦ less_apart p.location y.location
              (location_cmp_total.trans p.location u.location y.location less later) same_subject
          | inr equal ↦ differs (same_subject
              ∙ sym (location_cmp-IsAntisymmetric u.location y.location equal.0))
        ]
      ]
    ]

-- ---- no neighbours with one location

unequal : (l m : Location) → eq_by_cmp location_cmp l m ≡ false → l ≢ m
unequal l m none e = true≢false (sym (location_itself l m e) ∙ none)

abbrev AreConsistent : List Update → Type 0
AreConsistent us = (x y : Update) → In x us → In y us → x.location ≡ y.location → x ≡ y

consistent_after : (p u : Update) (us : List Update) → IsStrictlySortedBy update_cmp (p ∷ u ∷ us)
    → p.location ≢ u.location → AreConsistent (u ∷ us) → AreConsistent (p ∷ u ∷ us)
consistent_after p u us h differs rest x y hx hy e =
    let from = follows u us (tail p (u ∷ us) h) in
    let less = next_less p u us h in
    elim (place x p (u ∷ us) hx) [
      | inl xp ↦ elim (place y p (u ∷ us) hy) [
        | inl yp ↦ xp ∙ sym yp
        | inr ky ↦ absurd (apart p u y less differs (from y ky) (ap (λ z. z.location) (sym xp) ∙ e))
      ]
      | inr kx ↦ elim (place y p (u ∷ us) hy) [
        | inl yp ↦ absurd (apart p u x less differs (from x kx)
            (ap (λ z. z.location) (sym yp) ∙ sym e))
        | inr ky ↦ rest x y kx ky e
      ]
    ]

alone : (p : Update) → AreConsistent (p ∷ [])
alone p x y hx hy e =
    elim (place x p [] hx) [
      | inl xp ↦ elim (place y p [] hy)
          [ inl yp ↦ xp ∙ sym yp | inr k ↦ absurd (true≢false (sym k)) ]
      | inr k ↦ absurd (true≢false (sym k))
    ]

no_clash : (us : List Update) (p : Update) → IsStrictlySortedBy update_cmp (p ∷ us)
    → clash_from (Some p) us ≡ None → AreConsistent (p ∷ us)
no_clash [] p h none = alone p
no_clash (u ∷ us) p h none =
    elim (eq_by_cmp location_cmp p.location u.location) as
    (λ b. eq_by_cmp location_cmp p.location u.location ≡ b
    → cond b (Some (p, u)) (clash_from (Some u) us) ≡ None → AreConsistent (p ∷ u ∷ us)) [
      | true ↦ λ _ is. absurd (cc)
      | false ↦ λ at is. consistent_after p u us h (unequal p.location u.location at)
          (no_clash us u (tail p (u ∷ us) h) is)
    ] refl none

-- ---- the first two neighbours with one location

record Found (us : List Update) (c : Update × Update) : Type 0 where
  first : In c.0 us
  second : In c.1 us
  here : c.0.location ≡ c.1.location
  differ : compare c.0.value c.1.value ≡ Less
  least : (x y : Update) → In x us → In y us → x.location ≡ y.location → x ≢ y
      → location_cmp c.0.location x.location ≢ Greater
  least_first : (x : Update) → In x us → x.location ≡ c.0.location
      → compare c.0.value x.value ≢ Greater
  least_second : (x : Update) → In x us → x.location ≡ c.0.location → x ≢ c.0
      → compare c.1.value x.value ≢ Greater

less_not : (o : Ordering) → o ≡ Less → o ≢ Greater
less_not o e k = let differs : Less ≡ Greater = sym e ∙ k in cc

equal_not : (o : Ordering) → o ≡ Equal → o ≢ Greater
equal_not o e k = let differs : Equal ≡ Greater = sym e ∙ k in cc

-- at one location the order goes by value
values_less : (u x : Update) → u.location ≡ x.location → update_cmp u x ≡ Less
    → compare u.value x.value ≡ Less
values_less u x e h =
    elim (then_less (location_cmp u.location x.location) _ h)
    [ inl less ↦ absurd (less_apart _ _ less e) | inr k ↦ k.1 ]

value_not_greater : (u x : Update) → u.location ≡ x.location → Follows u x
    → compare u.value x.value ≢ Greater
value_not_greater u x e f = elim f [
  | inl is ↦ equal_not _ (subst (λ z. compare u.value z.value ≡ Equal) (sym is)
      (tied_itself compare_total u.value))
  | inr less ↦ less_not _ (values_less u x e less)
]

location_not_greater : (u x : Update) → Follows u x → location_cmp u.location x.location ≢ Greater
location_not_greater u x f = elim f [
  | inl is ↦ equal_not _ (location_ties u.location x.location (ap (λ z. z.location) (sym is)))
  | inr less ↦ elim (then_less (location_cmp u.location x.location) _ less)
      [ inl k ↦ less_not _ k | inr k ↦ equal_not _ k.0 ]
]

found_here : (p u : Update) (us : List Update) → IsStrictlySortedBy update_cmp (p ∷ u ∷ us)
    → p.location ≡ u.location → Found (p ∷ u ∷ us) (p, u)
found_here p u us h e =
    let less = next_less p u us h in
    let from = follows p (u ∷ us) h in
    let later = follows u us (tail p (u ∷ us) h) in
    record {
      first = or_left (same p p) _ (same_itself p p refl);
      second = or_right (same u p) _ (or_left (same u u) _ (same_itself u u refl));
      here = e;
      differ = values_less p u e less;
      least = λ x y hx _ _ _. location_not_greater p x (from x hx);
      least_first = λ x hx at. value_not_greater p x (sym at) (from x hx);
      least_second = λ x hx at other. elim (place x p (u ∷ us) hx) [
        | inl is ↦ absurd (other is)
        | inr k ↦ value_not_greater u x (sym e ∙ sym at) (later x k)
      ];
    }

found_after : (p u : Update) (us : List Update) (c : Update × Update)
    → IsStrictlySortedBy update_cmp (p ∷ u ∷ us) → p.location ≢ u.location → Found (u ∷ us) c
    → Found (p ∷ u ∷ us) c
found_after p u us c h differs f =
    let from = follows u us (tail p (u ∷ us) h) in
    let less = next_less p u us h in
    let far : (y : Update) → In y (u ∷ us)
    → p.location ≢ y.location = λ y k. apart p u y less differs (from y k) in
    record {
      first = or_right (same c.0 p) _ f.first;
      second = or_right (same c.1 p) _ f.second;
      here = f.here;
      differ = f.differ;
      least = λ x y hx hy e other. elim (place x p (u ∷ us) hx) [
        | inl xp ↦ elim (place y p (u ∷ us) hy) [
          | inl yp ↦ absurd (other (xp ∙ sym yp))
          | inr ky ↦ absurd (far y ky (ap (λ z. z.location) (sym xp) ∙ e))
        ]
        | inr kx ↦ elim (place y p (u ∷ us) hy) [
          | inl yp ↦ absurd (far x kx (ap (λ z. z.location) (sym yp) ∙ sym e))
          | inr ky ↦ f.least x y kx ky e other
        ]
      ];
      least_first = λ x hx at. elim (place x p (u ∷ us) hx) [
        | inl xp ↦ absurd (far c.0 f.first (ap (λ z. z.location) (sym xp) ∙ at))
        | inr k ↦ f.least_first x k at
      ];
      least_second = λ x hx at other. elim (place x p (u ∷ us) hx) [
        | inl xp ↦ absurd (far c.0 f.first (ap (λ z. z.location) (sym xp) ∙ at))
        | inr k ↦ f.least_second x k at other
      ];
    }

same_pair : (p q : Update × Update) → ◌≡◌ {A = Option (Update × Update)} (Some p) (Some q) → p ≡ q
same_pair p q e = cc

a_clash : (us : List Update) (p : Update) (c : Update × Update)
    → IsStrictlySortedBy update_cmp (p ∷ us) → clash_from (Some p) us ≡ Some c → Found (p ∷ us) c
a_clash [] p c h is = absurd (cc)
a_clash (u ∷ us) p c h some =
    elim (eq_by_cmp location_cmp p.location u.location) as
    (λ b. eq_by_cmp location_cmp p.location u.location ≡ b
    → cond b (Some (p, u)) (clash_from (Some u) us) ≡ Some c → Found (p ∷ u ∷ us) c) [
      | true ↦ λ at is. subst (Found (p ∷ u ∷ us)) (same_pair (p, u) c is)
          (found_here p u us h (location_is p.location u.location at))
      | false ↦ λ at is. found_after p u us c h (unequal p.location u.location at)
          (a_clash us u c (tail p (u ∷ us) h) is)
    ] refl some

-- ---- the set of an ascending list

pub IsConsistent-from_none : (us : List Update) → IsStrictlySortedBy update_cmp us
    → clash_from None us ≡ None → IsConsistent (add_all empty us)
IsConsistent-from_none [] h is x y hx hy e = absurd (true≢false (sym hx ∙ has-listed [] x))
IsConsistent-from_none (u ∷ us) h is x y hx hy e =
    no_clash us u h is x y (sym (has-listed (u ∷ us) x) ∙ hx) (sym (has-listed (u ∷ us) y) ∙ hy) e

found_in : (us : List Update) (c : Update × Update) → IsStrictlySortedBy update_cmp us
    → clash_from None us ≡ Some c → Found us c
found_in [] c h is = absurd (cc)
found_in (u ∷ us) c h is = a_clash us u c h is

pub IsClash-from_some : (us : List Update) (c : Update × Update) → IsStrictlySortedBy update_cmp us
    → clash_from None us ≡ Some c
    → IsClash (add_all empty us) c.0.location c.0.value c.1.value
IsClash-from_some us c h is =
    let f = found_in us c h is in
    let in_list : (x : Update) → has (add_all empty us) x ≡ true
    → In x us = λ x k. sym (has-listed us x) ∙ k in
    let l = c.0.location in
    record {
      has_first = has-listed us c.0 ∙ f.first;
      has_second =
          subst (λ k. has (add_all empty us) (record { location = k; value = c.1.value }) ≡ true)
          (sym f.here) (has-listed us c.1 ∙ f.second);
      differ = f.differ;
      least_location = λ x y hx hy e other. f.least x y (in_list x hx) (in_list y hy) e other;
      least_first = λ v hv. f.least_first (record { location = l; value = v }) (in_list _ hv) refl;
      least_second =
          λ v hv other. f.least_second (record { location = l; value = v }) (in_list _ hv) refl
          (λ e. other (ap (λ z. z.value) e));
    }

-- only a set that is not consistent has a clash
pub clash-IsConsistent : (us : List Update) (c : Update × Update) → IsStrictlySortedBy update_cmp us
    → clash_from None us ≡ Some c → IsConsistent (add_all empty us) → ⊥
clash-IsConsistent us c h is one =
    let f = found_in us c h is in
    let e = one c.0 c.1 (has-listed us c.0 ∙ f.first) (has-listed us c.1 ∙ f.second) f.here in
    let equal = subst (λ z. compare c.0.value z.value ≡ Equal) e
    (tied_itself compare_total c.0.value) in
    let differs : Less ≡ Equal = sym f.differ ∙ equal in
    cc
