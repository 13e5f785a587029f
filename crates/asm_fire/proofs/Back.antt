-- The inverse of a set: what it has, and that it leads back.
use Rattle.std.proofs.Common.{◌≡◌, ◌≢◌, ◌↔◌, ◌<◌, length, arith, Bool, true, false, ◌||◌, cond, inl, inr, List, [], ◌∷◌, map, Option, Some, None, unwrap_or, refl, sym, ap, ◌∙◌}
use Rattle.std.proofs.lemmas.Bool.{true≢false}
use Rattle.std.specs.List.{list_any}
use Rattle.std.specs.FinMap as finite
use Rattle.std.specs.Cmp.{Equal-is}
use Rattle.std.specs.Ordering.{is_eq}
use Rattle.std.proofs.lemmas.Cmp.{tied_itself}
use Rattle.asm_value.specs.Value.{compare}
use Rattle.asm_value.specs.TotalOrders.{compare_total, compare-IsAntisymmetric}
use Rattle.asm_value.specs.declared.value.Value.{Value}
use Rattle.asm_value.specs.declared.value.Value.TheVariants.{Undef}
use Rattle.asm_value.specs.declared.location.Location.{Location}
use Rattle.asm_value.specs.declared.location.Update.{Update}
use Rattle.asm_value.specs.UpdateSet.{UpdateSet, has, items, empty, add_all, same}
use Rattle.asm_value.specs.State.{StateMap, IsState, IsConsistent, updates_at, value_at, is_undef, fire}
use Rattle.asm_value.proofs.UpdateSetLaws.{has-empty, has-add_all}
use Rattle.asm_value.proofs.StateLaws.{or_cases, or_left, or_right, is_at, same_is, same_itself, location_is, location_itself, left_by, false_by, same_state, get-fire-member, get-fire-other, updates_at-found}
use Rattle.asm_fire.specs.Inverses.{was, inverse}

record Back (state : StateMap) (us : List Update) (u : Update) : Type 0 where
  at : list_any (is_at u.location) us ≡ true
  value : u.value ≡ value_at state u.location

listed : (state : StateMap) (us : List Update) (u : Update) → list_any (same u) (map (was state) us) ≡ true → Back state us u
listed state [] u h = absurd (true≢false (sym h))
listed state (w ∷ ws) u h =
    elim (or_cases (same u (was state w)) (list_any (same u) (map (was state) ws)) h) [
      | inl here ↦
          let is = same_is u (was state w) here in
          let at = ap (λ x. x.location) is in
          record {
            at = or_left (is_at u.location w) _ (location_itself u.location w.location at);
            value = ap (λ x. x.value) is ∙ ap (value_at state) (sym at);
          }
      | inr later ↦
          let b = listed state ws u later in
          record { at = or_right (is_at u.location w) _ b.at; value = b.value }
    ]

same_update : (u v : Update) → u.location ≡ v.location → u.value ≡ v.value → u ≡ v
same_update u v l e = λ i. record { location = l i; value = e i }

lists : (state : StateMap) (us : List Update) (u : Update) → list_any (is_at u.location) us ≡ true
    → u.value ≡ value_at state u.location → list_any (same u) (map (was state) us) ≡ true
lists state [] u h e = absurd (true≢false (sym h))
lists state (w ∷ ws) u h e =
    elim (or_cases (is_at u.location w) (list_any (is_at u.location) ws) h) [
      | inl here ↦
          let at = location_is u.location w.location here in
          or_left (same u (was state w)) _ (same_itself u (was state w) (same_update u (was state w) at (e ∙ ap (value_at state) at)))
      | inr later ↦ or_right (same u (was state w)) _ (lists state ws u later e)
    ]

has-listed : (us : List Update) (u : Update) → has (add_all empty us) u ≡ list_any (same u) us
has-listed us u = has-add_all empty us u ∙ ap (λ b. b || list_any (same u) us) (has-empty u)

pub has-inverse : (state : StateMap) (s : UpdateSet) (u : Update)
    → (has (inverse state s) u ≡ true) ↔ ((updates_at s u.location ≡ true) × (u.value ≡ value_at state u.location))
has-inverse state s u = (
  λ h. let b = listed state (items s) u (sym (has-listed (map (was state) (items s)) u) ∙ h) in (b.at, b.value),
  λ p. has-listed (map (was state) (items s)) u ∙ lists state (items s) u p.0 p.1,
)

pub inverse-IsConsistent : (state : StateMap) (s : UpdateSet) → IsConsistent (inverse state s)
inverse-IsConsistent state s u v hu hv e =
    let a = (has-inverse state s u).0 hu in
    let b = (has-inverse state s v).0 hv in
    same_update u v e (a.1 ∙ ap (value_at state) e ∙ sym b.1)

undef_is : (v : Value) → is_undef v ≡ true → v ≡ Undef
undef_is v e = compare-IsAntisymmetric v Undef ((Equal-is (compare v Undef)).0 e)

is_undef-Undef : is_undef Undef ≡ true
is_undef-Undef = ap is_eq (tied_itself compare_total Undef)

-- what the value of a state leaves is the value
kept : (v : Value) (b : Bool) → is_undef v ≡ b → v ≢ Undef → cond b None (Some v) ≡ Some v
kept v true e unlike = absurd (unlike (undef_is v e))
kept v false e unlike = refl

left_again : (o : Option Value) → o ≢ Some Undef → left_by (unwrap_or o Undef) ≡ o
left_again None h = ap (λ b. cond b None (Some Undef)) is_undef-Undef
left_again (Some v) h = kept v (is_undef v) refl (λ e. h (ap (λ w. Some w) e))

some_update : (us : List Update) (l : Location) → list_any (is_at l) us ≡ true → 0 < length us
some_update [] l h = absurd (true≢false (sym h))
some_update (u ∷ us) l h = omega arith

pub fire-inverse : (state : StateMap) (s : UpdateSet) → (0 < length (items s) → IsState state) → IsConsistent s
    → fire (fire state s) (inverse state s) ≡ state
fire-inverse state s whole one = same_state _ _ (λ l.
    elim (updates_at s l) as (λ b. updates_at s l ≡ b → finite.get (fire (fire state s) (inverse state s)) l ≡ finite.get state l) [
      | true ↦ λ at.
          let u : Update = record { location = l; value = value_at state l } in
          get-fire-member (fire state s) (inverse state s) (inverse-IsConsistent state s) u ((has-inverse state s u).1 (at, refl))
          ∙ left_again (finite.get state l) (whole (some_update (items s) l at) l)
      | false ↦ λ none.
          get-fire-other (fire state s) (inverse state s) l (false_by _ (λ some.
          let f = updates_at-found (inverse state s) l some in
          true≢false (sym (ap (updates_at s) (sym f.1) ∙ ((has-inverse state s f.0).0 f.2).0) ∙ none)))
          ∙ get-fire-other state s l none
    ] refl)
