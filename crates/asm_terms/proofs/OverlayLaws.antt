-- What a state with values written over it has at each location.
use Rattle.std.proofs.Common.{◌≡◌, Bool, true, false, cond, List, [], ◌∷◌, Option, Some, None}
use Rattle.std.proofs.Common.{unwrap_or, refl, sym, ap, ◌∙◌}
use Rattle.std.specs.Ordering.{eq_by_cmp}
use Rattle.std.specs.Cmp.{Equal-is}
use Rattle.std.specs.FinMap as finite
use Rattle.asm_value.specs.declared.value.Value.{Value}
use Rattle.asm_value.specs.declared.value.Value.TheVariants.{Undef}
use Rattle.asm_value.specs.declared.location.Location.{Location}
use Rattle.asm_value.specs.declared.location.Update.{Update}
use Rattle.asm_value.specs.Value.{compare}
use Rattle.asm_value.specs.Location.{location_cmp}
use Rattle.asm_value.specs.TotalOrders.{location_cmp_total, compare-IsAntisymmetric}
use Rattle.asm_value.specs.State.{StateMap, value_at, is_undef, fire_one}
use Rattle.asm_value.proofs.StateLaws.{left_by, same_state, get-fire_one, location_itself}
use Rattle.asm_terms.specs.Overlays.{write_all, overlay}

-- what a value leaves is read as the value
pub value_of : (v : Value) → unwrap_or (left_by v) Undef ≡ v
value_of v =
    elim (is_undef v) as (λ b. is_undef v ≡ b → unwrap_or (cond b None (Some v)) Undef ≡ v) [
      | true ↦ λ is. sym (compare-IsAntisymmetric v Undef ((Equal-is (compare v Undef)).0 is))
      | false ↦ λ is. refl
    ] refl

-- what was written there, or else what was there
abbrev pub written_or : Option Value → Option Value → Option Value
written_or None old = old
written_or (Some v) old = left_by v

one_more : (b : Bool) (v : Value) (o old : Option Value)
    → cond b (left_by v) (written_or o old) ≡ written_or (cond b (Some v) o) old
one_more true v o old = refl
one_more false v o old = refl

get-write_all : (state : StateMap) (es : List (Location × Value)) (l : Location)
    → finite.get (write_all state es) l
    ≡ written_or (finite.find location_cmp l es) (finite.get state l)
get-write_all state [] l = refl
get-write_all state (e ∷ es) l =
    get-fire_one (write_all state es) (record { location = e.0; value = e.1 }) l
    ∙ ap (cond (eq_by_cmp location_cmp l e.0) (left_by e.1)) (get-write_all state es l)
    ∙ one_more (eq_by_cmp location_cmp l e.0) e.1 (finite.find location_cmp l es)
    (finite.get state l)

pub get-overlay : (state written : StateMap) (l : Location)
    → finite.get (overlay state written) l
    ≡ written_or (finite.get written l) (finite.get state l)
get-overlay state written l =
    get-write_all state (finite.entries written) l
    ∙ ap (λ o. written_or o (finite.get state l)) (sym (finite.get-entries written l))

pub value_at-written : (state written : StateMap) (l : Location) (v : Value)
    → finite.get written l ≡ Some v → value_at (overlay state written) l ≡ v
value_at-written state written l v e =
    ap (λ o. unwrap_or o Undef)
    (get-overlay state written l ∙ ap (λ o. written_or o (finite.get state l)) e) ∙ value_of v

pub value_at-kept : (state written : StateMap) (l : Location)
    → finite.get written l ≡ None → value_at (overlay state written) l ≡ value_at state l
value_at-kept state written l e =
    ap (λ o. unwrap_or o Undef)
    (get-overlay state written l ∙ ap (λ o. written_or o (finite.get state l)) e)

-- nothing written is the state
pub overlay-empty : (state : StateMap) → overlay state finite.empty ≡ state
overlay-empty state =
    same_state _ _ (λ l. get-overlay state finite.empty l
    ∙ ap (λ o. written_or o (finite.get state l)) (finite.get-empty location_cmp l))

-- one more value written is one more update fired
pub overlay-insert : (state written : StateMap) (l : Location) (v : Value)
    → overlay state (finite.insert written l v)
    ≡ fire_one (overlay state written) (record { location = l; value = v })
overlay-insert state written l v = same_state _ _ (λ q.
    get-overlay state (finite.insert written l v) q
    ∙ ap (λ o. written_or o (finite.get state q))
    (finite.get-insert location_cmp_total written l v q)
    ∙ sym (one_more (eq_by_cmp location_cmp q l) v (finite.get written q) (finite.get state q))
    ∙ ap (cond (eq_by_cmp location_cmp q l) (left_by v)) (sym (get-overlay state written q))
    ∙ sym (get-fire_one (overlay state written) (record { location = l; value = v }) q))

-- one update at another place, and at its own
pub value_at-fire_one : (state : StateMap) (u : Update)
    → value_at (fire_one state u) u.location ≡ u.value
value_at-fire_one state u =
    ap (λ o. unwrap_or o Undef)
    (get-fire_one state u u.location
    ∙ ap (λ b. cond b (left_by u.value) (finite.get state u.location))
    (location_itself u.location u.location refl))
    ∙ value_of u.value

pub value_at-other : (state : StateMap) (u : Update) (l : Location)
    → eq_by_cmp location_cmp l u.location ≡ false
    → value_at (fire_one state u) l ≡ value_at state l
value_at-other state u l e =
    ap (λ o. unwrap_or o Undef)
    (get-fire_one state u l ∙ ap (λ b. cond b (left_by u.value) (finite.get state l)) e)

-- the value of an update written is that update fired
pub written-fired : (state before later : StateMap) (l : Location) (v : Value) (u : Update)
    → later ≡ finite.insert before l v → l ≡ u.location → v ≡ u.value
    → overlay state later ≡ fire_one (overlay state before) u
written-fired state before later l v u is at of =
    ap (overlay state) is
    ∙ (λ i. overlay state (finite.insert before (at i) (of i)))
    ∙ overlay-insert state before u.location u.value
