-- What firing leaves: each update's value at its location, and all other values as they were.
use Rattle.std.proofs.Common.{◌≡◌, true, false, cond, List, Some, None, unwrap_or, refl, sym, ap}
use Rattle.std.proofs.Common.{◌∙◌}
use Rattle.std.proofs.lemmas.Bool.{true≢false}
use Rattle.std.specs.List.{list_any}
use Rattle.std.specs.Cmp.{Equal-is}
use Rattle.asm_value.specs.declared.value.Value.{Value}
use Rattle.asm_value.specs.declared.value.Value.TheVariants.{Undef}
use Rattle.asm_value.specs.declared.location.Location.{Location}
use Rattle.asm_value.specs.declared.location.Update.{Update}
use Rattle.asm_value.specs.Value.{compare}
use Rattle.asm_value.specs.TotalOrders.{compare-IsAntisymmetric}
use Rattle.asm_value.specs.UpdateSet.{UpdateSet, has, empty, same}
use Rattle.asm_value.proofs.UpdateSetLaws.{has-empty}
use Rattle.asm_value.specs.State.{StateMap, value_at, is_undef, fire, fire_all, IsConsistent}
use Rattle.asm_value.specs.State.{AreConsistent, updates_at}
use Rattle.asm_value.proofs.StateLaws.{is_at, left_by, false_by, same_state, updates_at-found}
use Rattle.asm_value.proofs.StateLaws.{fire_all-member, fire_all-other, get-fire-member}
use Rattle.asm_value.proofs.StateLaws.{get-fire-other}

-- what a value leaves is read as the value
value_of : (v : Value) → unwrap_or (left_by v) Undef ≡ v
value_of v =
    elim (is_undef v) as (λ b. is_undef v ≡ b → unwrap_or (cond b None (Some v)) Undef ≡ v) [
      | true ↦ λ is. sym (compare-IsAntisymmetric v Undef ((Equal-is (compare v Undef)).0 is))
      | false ↦ λ is. refl
    ] refl

updates_at-empty : (l : Location) → updates_at empty l ≡ false
updates_at-empty l =
    false_by _ (λ some. let f = updates_at-found empty l some in true≢false
    (sym f.2 ∙ has-empty f.0))

-- `A + ∅` is `A`
pub fire-empty : (state : StateMap) → fire state empty ≡ state
fire-empty state = same_state _ _ (λ l. get-fire-other state empty l (updates_at-empty l))

pub value_at-fire-member : (state : StateMap) (updates : UpdateSet) (u : Update)
    → IsConsistent updates → has updates u ≡ true
    → value_at (fire state updates) u.location ≡ u.value
value_at-fire-member state updates u one here =
    ap (λ o. unwrap_or o Undef) (get-fire-member state updates one u here) ∙ value_of u.value

pub value_at-fire-other : (state : StateMap) (updates : UpdateSet) (l : Location)
    → updates_at updates l ≡ false → value_at (fire state updates) l ≡ value_at state l
value_at-fire-other state updates l none =
    ap (λ o. unwrap_or o Undef) (get-fire-other state updates l none)

pub value_at-fire_all-member : (state : StateMap) (us : List Update) (u : Update) → AreConsistent us
    → list_any (same u) us ≡ true → value_at (fire_all state us) u.location ≡ u.value
value_at-fire_all-member state us u one here =
    ap (λ o. unwrap_or o Undef) (fire_all-member us state u here (λ v h e. one v u h here e))
    ∙ value_of u.value

pub value_at-fire_all-other : (state : StateMap) (us : List Update) (l : Location)
    → list_any (is_at l) us ≡ false → value_at (fire_all state us) l ≡ value_at state l
value_at-fire_all-other state us l none =
    ap (λ o. unwrap_or o Undef) (fire_all-other us state l none)
