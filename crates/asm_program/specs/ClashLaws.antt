-- Some location has two values exactly where a set isn't consistent.
use Rattle.std.proofs.Common.{◌≡◌, Bool, true, false, not, ◌||◌, ◌&&◌, List, [], ◌∷◌, refl, sym, ap, subst, ◌∙◌}
use Rattle.std.specs.List.{list_any}
use Rattle.std.specs.Ordering.{eq_by_cmp}
use Rattle.std.proofs.lemmas.Bool.{true≢false}
use Rattle.asm_value.specs.declared.location.Location.{Location}
use Rattle.asm_value.specs.declared.location.Update.{Update}
use Rattle.asm_value.specs.Location.{location_cmp}
use Rattle.asm_value.specs.UpdateSet.{UpdateSet, has, items, same}
use Rattle.asm_value.specs.State.{IsConsistent, overlaid}
use Rattle.asm_value.proofs.UpdateSetLaws.{has-items}
use Rattle.asm_value.proofs.StateLaws.{or_left, or_right, same_is, same_itself, location_is, location_itself, has-overlaid, false_by}
use Rattle.asm_program.specs.Yields.{clashes}

-- a test that no update passes
later : (a b : Bool) → (a || b) ≡ false → b ≡ false
later true b h = absurd (true≢false h)
later false b h = h

passed_by : (q : Update → Bool) (us : List Update) (u : Update) → list_any q us ≡ false
    → list_any (same u) us ≡ true → q u ≡ false
passed_by q [] u none here = absurd (true≢false (sym here))
passed_by q (w ∷ ws) u none here = false_by (q u) (λ yes.
    elim (same u w) as (λ b. same u w ≡ b → ⊥) [
      | true ↦ λ is. true≢false (sym (or_left (q w) (list_any q ws) (ap q (sym (same_is u w is))
          ∙ yes)) ∙ none)
      | false ↦ λ is. true≢false (sym yes ∙ passed_by q ws u (later (q w) (list_any q ws) none)
          (sym (ap (λ b. b || list_any (same u) ws) is) ∙ here))
    ] refl)

none_passes : (q : Update → Bool) (us : List Update)
    → ((u : Update) → list_any (same u) us ≡ true → q u ≡ false) → list_any q us ≡ false
none_passes q [] none = refl
none_passes q (w ∷ ws) none =
    ap (λ b. b || list_any q ws) (none w (or_left (same w w) _ (same_itself w w refl)))
    ∙ none_passes q ws (λ u here. none u (or_right (same u w) _ here))

abbrev clash_with : Update → Update → Bool
clash_with u v = eq_by_cmp location_cmp u.location v.location && not (same u v)

is_one : (a b : Bool) → a ≡ true → (a && not b) ≡ false → b ≡ true
is_one true true e h = refl
is_one true false e h = absurd (true≢false h)
is_one false b e h = absurd (true≢false (sym e))

no_two : (a b : Bool) → (a ≡ true → b ≡ true) → (a && not b) ≡ false
no_two true b h = ap not (h refl)
no_two false b h = refl

pub clashes-false : (s : UpdateSet) → clashes s ≡ false → IsConsistent s
clashes-false s none u v hu hv e =
    same_is u v (is_one _ _ (location_itself u.location v.location e)
    (passed_by (clash_with u) (items s) v
    (passed_by (λ w. list_any (clash_with w) (items s)) (items s) u none (sym (has-items s u) ∙ hu))
    (sym (has-items s v) ∙ hv)))

pub clashes-IsConsistent : (s : UpdateSet) → IsConsistent s → clashes s ≡ false
clashes-IsConsistent s one =
    none_passes (λ w. list_any (clash_with w) (items s)) (items s) (λ u hu.
    none_passes (clash_with u) (items s) (λ v hv.
    no_two _ _ (λ e. same_itself u v (one u v (has-items s u ∙ hu) (has-items s v
    ∙ hv) (location_is u.location v.location e)))))

-- a clash of the later updates is one of the whole
pub overlaid-later : (s t : UpdateSet) → IsConsistent (overlaid s t) → IsConsistent t
overlaid-later s t one u v hu hv e =
    one u v (has-overlaid s t u ∙ or_left (has t u) _ hu) (has-overlaid s t v
    ∙ or_left (has t v) _ hv) e

pub clashes-overlaid : (s t : UpdateSet) → (IsConsistent t → ⊥) → clashes (overlaid s t) ≡ true
clashes-overlaid s t two =
    elim (clashes (overlaid s t)) as (λ b. clashes (overlaid s t) ≡ b → b ≡ true) [
      | true ↦ λ is. refl
      | false ↦ λ is. absurd (two (overlaid-later s t (clashes-false (overlaid s t) is)))
    ] refl
