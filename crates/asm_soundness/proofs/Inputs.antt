-- Inputs leave a state well formed: they set functions alone, so its members stay.
use Rattle.std.proofs.Common.{◌≡◌, ℕ, ◌<◌, ◌≤◌, inl, inr, Bool, true, false, ◌||◌, cond, Option}
use Rattle.std.proofs.Common.{Some, None, unwrap_or, List, [], ◌∷◌, length, map, refl}
use Rattle.std.proofs.Common.{sym, ap, subst, ◌∙◌}
use Rattle.std.specs.Prelude.{slice_index}
use Rattle.std.specs.List.{AllByRecursion, list_any}
use Rattle.std.specs.FinMap as finite
use Rattle.asm_value.specs.declared.value.Value.{Value}
use Rattle.asm_value.specs.declared.value.Value.TheVariants.{Undef}
use Rattle.asm_value.specs.declared.domain.Live.{Live}
use Rattle.asm_value.specs.declared.location.Location.{Location}
use Rattle.asm_value.specs.declared.location.Update.{Update}
use Rattle.asm_value.specs.Domain.{fits}
use Rattle.asm_value.specs.Living.{member_location, live_of}
use Rattle.asm_value.specs.State.{StateMap, is_undef, value_at, fire_all}
use Rattle.asm_value.specs.TotalOrders.{location_cmp-IsAntisymmetric}
use Rattle.asm_value.proofs.RangeLaws.{all_mem}
use Rattle.asm_value.proofs.StateLaws.{is_at, location_is, false_by, fire_all-other}
use Rattle.asm_program.specs.declared.program.Program.{Program}
use Rattle.asm_program.specs.Yields.{counts_in}
use Rattle.asm_soundness.specs.WellFormed.{IsOfFunction, Belongs, IsWellFormed}
use Rattle.asm_soundness.specs.Keeping.{IsInput, KeepsMembers, InputsKeepWellFormed}
use Rattle.asm_soundness.proofs.Updates.{IsWritten, fired_from, no_function}
use Rattle.asm_soundness.proofs.Belonging.{same_live}

-- ---- what stays

kept_is : (b : Bool) (o : Option Value) (v : Value) → cond b o None ≡ Some v → o ≡ Some v
kept_is true o v e = e
kept_is false o v e = absurd (cc)

module _ (p : Program) (state : StateMap) (stays : Location → Bool) (keeps : KeepsMembers stays)
    (inputs : List Update) (each : AllByRecursion (IsInput p state) inputs) where
  abbrev kept : StateMap
  kept = finite.retain_keys state stays

  abbrev then_state : StateMap
  then_state = fire_all kept inputs

  get_kept : (l : Location) → finite.get kept l ≡ cond (stays l) (finite.get state l) None
  get_kept l =
      finite.get-retain_keys state stays l
      (λ x e. ap stays (sym (location_cmp-IsAntisymmetric l x e)))

  was_there : (l : Location) (v : Value) → finite.get kept l ≡ Some v
      → finite.get state l ≡ Some v
  was_there l v e = kept_is (stays l) (finite.get state l) v (sym (get_kept l) ∙ e)

  -- no input is of a member
  not_at : (d i : ℕ) (u : Update) → IsInput p state u → is_at (member_location d i) u ≡ false
  not_at d i u input = false_by (is_at (member_location d i) u) (λ at.
      no_function input.function d (sym input.subject
      ∙ ap (λ l. l.subject) (sym (location_is (member_location d i) u.location at))))

  none_at : (d i : ℕ) (us : List Update) → AllByRecursion (IsInput p state) us
      → list_any (is_at (member_location d i)) us ≡ false
  none_at d i [] h = refl
  none_at d i (u ∷ us) h = λ k. (not_at d i u h.0 k || none_at d i us h.1 k)

  member_same : (d i : ℕ)
      → value_at then_state (member_location d i) ≡ value_at state (member_location d i)
  member_same d i =
      let l = member_location d i in
      ap (λ o. unwrap_or o Undef)
      (fire_all-other inputs kept l (none_at d i inputs each) ∙ get_kept l
      ∙ ap (λ b. cond b (finite.get state l) None) (keeps d l.args))

  live_same : live_of then_state p.domains ≡ live_of state p.domains
  live_same =
      same_live then_state state (λ d i h. sym (member_same d i) ∙ h) (λ d i h. member_same d i ∙ h)
      p.domains

  counts_same : counts_in p then_state ≡ counts_in p state
  counts_same = ap (λ (live : Live). map length live.members) live_same

  -- ---- what is set

  abbrev live : Live
  live = live_of state p.domains

  fits_by : (a b : Bool) → a ≡ false → (a || b) ≡ true → b ≡ true
  fits_by a b e h = subst (λ c. (c || b) ≡ true) e h

  input_belongs : (u : Update) → IsInput p state u → is_undef u.value ≡ false
      → Belongs p live u.location.subject u.location.args u.value
  input_belongs u input defined =
      let b : IsOfFunction p live input.function u.location.args u.value = record {
        info = input.info;
        declared = input.declared;
        dynamic = input.dynamic;
        arguments = input.arguments;
        value = fits_by (is_undef u.value) (fits p.domains live input.info.result u.value) defined
            input.value;
      } in
      subst (λ k. Belongs p live k u.location.args u.value) (sym input.subject) b

  written_belongs : (l : Location) (v : Value) → IsWritten inputs l v
      → Belongs p live l.subject l.args v
  written_belongs l v w =
      let input = all_mem (IsInput p state) inputs w.update each w.listed in
      let defined = subst (λ x. is_undef x ≡ false) (sym w.holds) w.defined in
      let b = input_belongs w.update input defined in
      subst (λ x. Belongs p live l.subject l.args x) w.holds
      (subst (λ k. Belongs p live k.subject k.args w.update.value) w.at b)

  module _ (well : IsWellFormed p state) where
    location_belongs : (l : Location) (v : Value) → finite.get then_state l ≡ Some v
        → Belongs p live l.subject l.args v
    location_belongs l v e = elim (fired_from inputs kept l v e) [
      | inl w ↦ written_belongs l v w
      | inr k ↦ well.locations l v (was_there l v k)
    ]

    pub stays_well : IsWellFormed p then_state
    stays_well = record {
      locations = λ l v e. subst (λ (x : Live). Belongs p x l.subject l.args v) (sym live_same)
          (location_belongs l v e);
      numbered = λ d i h. subst (λ ns. i < slice_index ns d) (sym counts_same)
          (well.numbered d i (sym (member_same d i) ∙ h));
      few = λ d. subst (λ ns. slice_index ns d ≤ 256) (sym counts_same) (well.few d);
      constants = λ d i info g h. member_same d i ∙ well.constants d i info g h;
    }

pub inputs_keep : (p : Program) → InputsKeepWellFormed p
inputs_keep p state stays inputs keeps each well =
    stays_well p state stays keeps inputs each well
