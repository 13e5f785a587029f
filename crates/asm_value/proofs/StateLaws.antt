-- What firing leaves at each location, and that to fire twice is to fire the two sets, the later
-- one first.
use Rattle.std.proofs.Common.{◌≡◌, ◌≢◌, Bool, true, false, ◌||◌, ◌&&◌, cond, not, ◌⊎◌, inl, inr}
use Rattle.std.proofs.Common.{List, [], ◌∷◌, Some, None, Option, refl, sym, ap, subst, ◌∙◌}
use mathlib.Core.Bool.{true≢false}
use Rattle.std.specs.List.{list_any}
use Rattle.std.specs.Ordering.{eq_by_cmp, is_eq}
use Rattle.std.specs.Cmp.{Equal-is}
use Rattle.std.proofs.lemmas.Cmp.{tied_itself}
use Rattle.std.specs.FinMap as map
use Rattle.asm_value.specs.UpdateSet as set
use Rattle.asm_value.specs.UpdateSet.{UpdateSet, has, same}
use Rattle.asm_value.proofs.UpdateSetLaws.{has-items, has-union, has-keep}
use Rattle.asm_value.specs.declared.value.Value.{Value}
use Rattle.asm_value.specs.declared.value.Value.TheVariants.{Undef}
use Rattle.asm_value.specs.Value.{compare}
use Rattle.asm_value.specs.declared.location.Location.{Location}
use Rattle.asm_value.specs.declared.location.Update.{Update}
use Rattle.asm_value.specs.Location.{location_cmp, update_cmp}
use Rattle.asm_value.specs.TotalOrders.{location_cmp_total, location_cmp-IsAntisymmetric}
use Rattle.asm_value.specs.TotalOrders.{update_cmp_total, update_cmp-IsAntisymmetric}
use Rattle.asm_value.specs.TotalOrders.{compare_total}
use Rattle.asm_value.specs.State.{StateMap, IsState, is_undef, fire_one, fire_all, fire}
use Rattle.asm_value.specs.State.{AreConsistent, IsConsistent, updates_at, overlaid}

-- ---- tests that are orders' ties

pub or_cases : (a b : Bool) → (a || b) ≡ true → (a ≡ true) ⊎ (b ≡ true)
or_cases true b e = inl refl
or_cases false b e = inr e

pub or_right : (a b : Bool) → b ≡ true → (a || b) ≡ true
or_right true b e = refl
or_right false b e = e

pub or_left : (a b : Bool) → a ≡ true → (a || b) ≡ true
or_left true b e = refl
or_left false b e = absurd (true≢false (sym e))

and_first : (a b : Bool) → (a && b) ≡ true → a ≡ true
and_first true b e = refl
and_first false b e = e

-- the update is of the location
abbrev pub is_at : Location → Update → Bool
is_at l u = eq_by_cmp location_cmp l u.location

pub same_is : (u v : Update) → same u v ≡ true → u ≡ v
same_is u v e = update_cmp-IsAntisymmetric u v ((Equal-is (update_cmp u v)).0 e)

pub same_itself : (u v : Update) → u ≡ v → same u v ≡ true
same_itself u v e = subst (λ w. same u w ≡ true) e (ap is_eq (tied_itself update_cmp_total u))

pub location_is : (l m : Location) → eq_by_cmp location_cmp l m ≡ true → l ≡ m
location_is l m e = location_cmp-IsAntisymmetric l m ((Equal-is (location_cmp l m)).0 e)

pub location_itself : (l m : Location) → l ≡ m → eq_by_cmp location_cmp l m ≡ true
location_itself l m e =
    subst (λ k. eq_by_cmp location_cmp l k ≡ true) e (ap is_eq (tied_itself location_cmp_total l))

-- an update of the location, where there is one
found : (l : Location) (us : List Update) → list_any (is_at l) us ≡ true
    → (u : Update) × (u.location ≡ l) × (list_any (same u) us ≡ true)
found l [] e = absurd (true≢false (sym e))
found l (w ∷ ws) e =
    elim (or_cases (is_at l w) (list_any (is_at l) ws) e) [
      | inl here ↦ (
        w,
        sym (location_is l w.location here),
        or_left (same w w)
            (list_any (same w) ws) (same_itself w w refl),
      )
      | inr later ↦ let f = found l ws later in (f.0, f.1, or_right (same f.0 w) _ f.2)
    ]

-- a member is at its own location
member_at : (u : Update) (us : List Update) → list_any (same u) us ≡ true
    → list_any (is_at u.location) us ≡ true
member_at u [] e = e
member_at u (w ∷ ws) e =
    elim (or_cases (same u w) (list_any (same u) ws) e) [
      | inl here ↦ or_left (is_at u.location w) _
          (location_itself u.location w.location (ap (λ x. x.location) (same_is u w here)))
      | inr later ↦ or_right (is_at u.location w) _ (member_at u ws later)
    ]

-- ---- firing a list

-- what a value leaves at its location
abbrev pub left_by : Value → Option Value
left_by v = cond (is_undef v) None (Some v)

pub get-fire_one : (state : StateMap) (u : Update) (l : Location)
    → map.get (fire_one state u) l ≡ cond (is_at l u) (left_by u.value) (map.get state l)
get-fire_one state u l =
    elim (is_undef u.value) as
    (λ b. map.get (cond b (map.remove state u.location) (map.insert state u.location u.value)) l
    ≡ cond (is_at l u) (cond b None (Some u.value)) (map.get state l)) [
      | true ↦ map.get-remove location_cmp_total state u.location l
      | false ↦ map.get-insert location_cmp_total state u.location u.value l
    ]

at_other : {X : Type 0} (a b : Bool) (x y : X) → (a || b) ≡ false → cond a x y ≡ y
at_other true b x y e = absurd (true≢false e)
at_other false b x y e = refl

or_false_right : (a b : Bool) → (a || b) ≡ false → b ≡ false
or_false_right true b e = absurd (true≢false e)
or_false_right false b e = e

-- a location without an update keeps its value
pub fire_all-other : (us : List Update) (state : StateMap) (l : Location)
    → list_any (is_at l) us ≡ false → map.get (fire_all state us) l ≡ map.get state l
fire_all-other [] state l none = refl
fire_all-other (u ∷ us) state l none =
    fire_all-other us (fire_one state u) l (or_false_right (is_at l u) _ none)
    ∙ get-fire_one state u l ∙ at_other (is_at l u) _ _ _ none

-- the one update of a location leaves its value there
pub fire_all-member : (us : List Update) (state : StateMap) (u : Update)
    → list_any (same u) us ≡ true
    → ((v : Update) → list_any (same v) us ≡ true → v.location ≡ u.location → v ≡ u)
    → map.get (fire_all state us) u.location ≡ left_by u.value
fire_all-member [] state u here alone = absurd (true≢false (sym here))
fire_all-member (w ∷ ws) state u here alone =
    elim (list_any (is_at u.location) ws) as
    (λ b. list_any (is_at u.location) ws ≡ b
    → map.get (fire_all (fire_one state w) ws) u.location ≡ left_by u.value) [
      | true ↦ λ some.
          let f = found u.location ws some in
          let is = alone f.0 (or_right (same f.0 w) _ f.2) f.1 in
          fire_all-member ws (fire_one state w) u
          (subst (λ x. list_any (same x) ws ≡ true) is f.2)
          (λ v h. alone v (or_right (same v w) _ h))
      | false ↦ λ none.
          let now : same u w ≡ true = elim (or_cases (same u w) (list_any (same u) ws) here) [
            | inl first ↦ first
            | inr later ↦ absurd (true≢false (sym (member_at u ws later) ∙ none))
          ] in
          let is = same_is u w now in
          fire_all-other ws (fire_one state w) u.location none
          ∙ get-fire_one state w u.location
          ∙ ap (λ b. cond b (left_by w.value) (map.get state u.location))
          (location_itself u.location w.location (ap (λ x. x.location) is))
          ∙ ap (λ x. left_by x.value) (sym is)
    ] refl

-- ---- firing a set

-- each update of a consistent set leaves its value
pub get-fire-member : (state : StateMap) (s : UpdateSet) → IsConsistent s → (u : Update)
    → has s u ≡ true → map.get (fire state s) u.location ≡ left_by u.value
get-fire-member state s one u here =
    fire_all-member (set.items s) state u (sym (has-items s u) ∙ here)
    (λ v h e. one v u (has-items s v ∙ h) here e)

-- all other locations keep theirs
pub get-fire-other : (state : StateMap) (s : UpdateSet) (l : Location) → updates_at s l ≡ false
    → map.get (fire state s) l ≡ map.get state l
get-fire-other state s l none = fire_all-other (set.items s) state l none

pub updates_at-found : (s : UpdateSet) (l : Location) → updates_at s l ≡ true
    → (u : Update) × (u.location ≡ l) × (has s u ≡ true)
updates_at-found s l e = let f = found l (set.items s) e in (f.0, f.1, has-items s f.0 ∙ f.2)

pub updates_at-member : (s : UpdateSet) (u : Update) → has s u ≡ true
    → updates_at s u.location ≡ true
updates_at-member s u h = member_at u (set.items s) (sym (has-items s u) ∙ h)

pub same_state : (a b : StateMap) → ((l : Location) → map.get a l ≡ map.get b l) → a ≡ b
same_state = map.same_map location_cmp_total location_cmp-IsAntisymmetric

-- ---- one set and then another

pub has-overlaid : (s t : UpdateSet) (u : Update)
    → has (overlaid s t) u ≡ (has t u || (has s u && not (updates_at t u.location)))
has-overlaid s t u =
    has-union t _ u
    ∙ ap (λ b. has t u || b) (has-keep s _ u)

not_true : (a : Bool) → not a ≡ true → a ≡ false
not_true true e = sym e
not_true false e = refl

and_second : (a b : Bool) → (a && b) ≡ true → b ≡ true
and_second true b e = e
and_second false b e = absurd (true≢false (sym e))

both_true : (a b : Bool) → a ≡ true → b ≡ true → (a && b) ≡ true
both_true true b e f = f
both_true false b e f = e

no_longer_free : (t : UpdateSet) (u : Update) (l : Location) → has t u ≡ true → u.location ≡ l
    → updates_at t l ≡ false → ⊥
no_longer_free t u l h e free =
    true≢false (sym (subst (λ k. updates_at t k ≡ true) e (updates_at-member t u h)) ∙ free)

pub overlaid-IsConsistent : (s t : UpdateSet) → IsConsistent s → IsConsistent t
    → IsConsistent (overlaid s t)
overlaid-IsConsistent s t one two u v hu hv e =
    elim (or_cases (has t u) _ (sym (has-overlaid s t u) ∙ hu)) [
      | inl tu ↦ elim (or_cases (has t v) _ (sym (has-overlaid s t v) ∙ hv)) [
        | inl tv ↦ two u v tu tv e
        | inr sv ↦ absurd (no_longer_free t u v.location tu e
            (not_true _ (and_second (has s v) _ sv)))
      ]
      | inr su ↦ elim (or_cases (has t v) _ (sym (has-overlaid s t v) ∙ hv)) [
        | inl tv ↦ absurd (no_longer_free t v u.location tv (sym e)
            (not_true _ (and_second (has s u) _ su)))
        | inr sv ↦ one u v (and_first _ _ su) (and_first _ _ sv) e
      ]
    ]

pub false_by : (a : Bool) → (a ≡ true → ⊥) → a ≡ false
false_by true h = absurd (h refl)
false_by false h = refl

-- (A + U) + V is A + (U ⊕ V)
pub fire-overlaid : (state : StateMap) (s t : UpdateSet) → IsConsistent s → IsConsistent t
    → fire (fire state s) t ≡ fire state (overlaid s t)
fire-overlaid state s t one two = same_state _ _ (λ l.
    let all = overlaid-IsConsistent s t one two in
    elim (updates_at t l) as (λ b. updates_at t l ≡ b → map.get (fire (fire state s) t) l
    ≡ map.get (fire state (overlaid s t)) l) [
      | true ↦ λ in_t.
          let f = updates_at-found t l in_t in
          subst (λ k. map.get (fire (fire state s) t) k ≡ map.get (fire state (overlaid s t)) k) f.1
          (get-fire-member (fire state s) t two f.0 f.2
          ∙ sym (get-fire-member state (overlaid s t) all f.0
          (has-overlaid s t f.0 ∙ or_left (has t f.0) _ f.2)))
      | false ↦ λ not_in_t. get-fire-other (fire state s) t l not_in_t
          ∙ elim (updates_at s l) as
          (λ b. updates_at s l ≡ b → map.get (fire state s) l
          ≡ map.get (fire state (overlaid s t)) l) [
            | true ↦ λ in_s.
                let f = updates_at-found s l in_s in
                let kept = both_true (has s f.0) _ f.2
                (ap not (subst (λ k. updates_at t k ≡ false) (sym f.1) not_in_t)) in
                subst (λ k. map.get (fire state s) k ≡ map.get (fire state (overlaid s t)) k) f.1
                (get-fire-member state s one f.0 f.2
                ∙ sym (get-fire-member state (overlaid s t) all f.0
                (has-overlaid s t f.0 ∙ or_right (has t f.0) _ kept)))
            | false ↦ λ not_in_s. get-fire-other state s l not_in_s
                ∙ sym (get-fire-other state (overlaid s t) l (false_by _ (λ some.
                let f = updates_at-found (overlaid s t) l some in
                elim (or_cases (has t f.0) _ (sym (has-overlaid s t f.0) ∙ f.2)) [
                  | inl tu ↦ no_longer_free t f.0 l tu f.1 not_in_t
                  | inr su ↦ no_longer_free s f.0 l (and_first _ _ su) f.1 not_in_s
                ])))
          ] refl
    ] refl)

-- ---- no location has the value undef

pub not_undef : (v : Value) → is_undef v ≡ false → v ≢ Undef
not_undef v h e =
    true≢false (sym (subst (λ w. eq_by_cmp compare v w ≡ true) e
    (ap is_eq (tied_itself compare_total v))) ∙ h)

same_some : (v w : Value) → ◌≡◌ {A = Option Value} (Some v) (Some w) → v ≡ w
same_some v w e = cc

some_not : (b : Bool) (v : Value) (x : Option Value) → v ≢ Undef → x ≢ Some Undef
    → cond b (Some v) x ≢ Some Undef
some_not true v x h k e = h (same_some v Undef e)
some_not false v x h k e = k e

none_not : (b : Bool) (x : Option Value) → x ≢ Some Undef → cond b None x ≢ Some Undef
none_not true x k e = cc
none_not false x k e = k e

pub IsState-empty : IsState map.empty
IsState-empty l e = let unlike : None ≡ Some Undef = sym (map.get-empty location_cmp l) ∙ e in cc

pub IsState-insert : (m : StateMap) (k : Location) (v : Value) → IsState m → v ≢ Undef
    → IsState (map.insert m k v)
IsState-insert m k v h n l e =
    some_not (eq_by_cmp location_cmp l k) v (map.get m l) n (h l)
    (sym (map.get-insert location_cmp_total m k v l) ∙ e)

pub IsState-remove : (m : StateMap) (k : Location) → IsState m → IsState (map.remove m k)
IsState-remove m k h l e =
    none_not (eq_by_cmp location_cmp l k) (map.get m l) (h l)
    (sym (map.get-remove location_cmp_total m k l) ∙ e)

-- ---- the list of a set

-- the updates of a consistent set are consistent
pub items-AreConsistent : (s : UpdateSet) → IsConsistent s → AreConsistent (set.items s)
items-AreConsistent s one u v hu hv e = one u v (has-items s u ∙ hu) (has-items s v ∙ hv) e
