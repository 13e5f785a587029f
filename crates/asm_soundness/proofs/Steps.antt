-- A step leads from a well-formed state to a well-formed state.
use Rattle.std.proofs.Common.{◌≡◌, ℕ, ◌<◌, ◌≤◌, ◌⊎◌, inl, inr, Bool, true, false, not, ◌||◌}
use Rattle.std.proofs.Common.{Option, Some, List, [], sym, ap}
use Rattle.std.proofs.Common.{subst, ◌∙◌, arith}
use Rattle.std.specs.Prelude.{slice_index, nat_lt}
use Rattle.std.proofs.lemmas.Bool.Decides.{Decides-ltb}
use Rattle.std.specs.FinMap as finite
use Rattle.asm_value.specs.declared.value.Value.{Value}
use Rattle.asm_value.specs.declared.value.Value.TheVariants.{Truth}
use Rattle.asm_value.specs.declared.domain.DomainInfo.{DomainInfo}
use Rattle.asm_value.specs.declared.domain.Live.{Live}
use Rattle.asm_value.specs.declared.location.Location.{Location}
use Rattle.asm_value.specs.Living.{is_abstract, member_location, HasMember, live_of}
use Rattle.asm_value.specs.Ranges.{Mem}
use Rattle.asm_value.specs.State.{StateMap, IsConsistent, value_at, fire, updates_at}
use Rattle.asm_value.specs.UpdateSet as set
use Rattle.asm_value.specs.UpdateSet.{UpdateSet}
use Rattle.asm_value.proofs.FiringLaws.{value_at-fire-member, value_at-fire-other}
use Rattle.asm_value.proofs.StateLaws.{or_right, updates_at-found}
use Rattle.asm_program.specs.declared.program.Program.{Program}
use Rattle.asm_program.specs.Yields.{Yields, counts_in, main_yields}
use Rattle.asm_program.specs.BookYields.{Rises, IsOfTheBook}
use Rattle.asm_program.specs.Numbered.{MembersAreNumbered}
use Rattle.asm_program.proofs.AddedMembers.{new_members_are_added}
use Rattle.asm_program.proofs.BookLaws.{steps_are_of_the_book}
use Rattle.asm_program.proofs.NumberedLaws.{true_or_false, all_below, none_else}
use Rattle.asm_program.proofs.NumberedLaws.{steps_leave_numbered}
use Rattle.asm_soundness.specs.WellFormed.{Belongs, IsWellFormed}
use Rattle.asm_soundness.specs.Sorted.{IsSorted}
use Rattle.asm_soundness.specs.Keeping.{StepsKeepWellFormed}
use Rattle.asm_soundness.proofs.Updates.{IsWritten, fired_from, listed_has, MayTake, EachMayTake}
use Rattle.asm_soundness.proofs.Updates.{member_is, Passes, set_passes}
use Rattle.asm_soundness.proofs.SortedRules.{sorted_extends_abstract}
use Rattle.asm_soundness.proofs.Leading.{AreFew, Leads}
use Rattle.asm_soundness.proofs.Rules.{Ready, yields_leads}
use Rattle.asm_soundness.proofs.StatesPass.{NamedPass, MembersPass, constant_of, live_has, has_live}
use Rattle.asm_soundness.proofs.StatesPass.{state_passes, ranges_pass, terms_pass}
use Rattle.asm_soundness.proofs.Fits.{is_live-mem}
use Rattle.asm_soundness.proofs.Belonging.{HasPassing, HasMore, taken_belongs, belongs_more}

-- ---- members below given indexes

-- of an abstract domain it is below the next index
abbrev below : List DomainInfo → List ℕ → ℕ → ℕ → Bool
below domains next d i = not (is_abstract domains d) || nat_lt i (slice_index next d)

below_by : (domains : List DomainInfo) (next : List ℕ) (d i : ℕ) → i < slice_index next d
    → below domains next d i ≡ true
below_by domains next d i h =
    or_right (not (is_abstract domains d)) _ ((Decides-ltb i (slice_index next d)).1 h)

below_is : (domains : List DomainInfo) (next : List ℕ) (d i : ℕ) → is_abstract domains d ≡ true
    → below domains next d i ≡ true → i < slice_index next d
below_is domains next d i is h =
    (Decides-ltb i (slice_index next d)).0
    (subst (λ b. (not b || nat_lt i (slice_index next d)) ≡ true) is h)

below_other : (domains : List DomainInfo) (next : List ℕ) (d i : ℕ)
    → is_abstract domains d ≡ false → below domains next d i ≡ true
below_other domains next d i other =
    ap (λ b. not b || nat_lt i (slice_index next d)) other

below_or_from : (k i : ℕ) → (i < k) ⊎ (k ≤ i)
below_or_from k i = grind (arith)

-- ---- a step

module _ (p : Program) (pick : Option ℕ) (state : StateMap) (u : UpdateSet) (after : List ℕ)
    (sorted : IsSorted p) (well : IsWellFormed p state)
    (step : main_yields p state pick ≡ Yields u after) (one : IsConsistent u) where
  abbrev has : ℕ → ℕ → Bool
  has = below p.domains after

  abbrev then_state : StateMap
  then_state = fire state u

  of_book : IsOfTheBook p state state [] p.main u (counts_in p state) after
  of_book = steps_are_of_the_book p pick state u after well.numbered step

  rises : Rises (counts_in p state) after
  rises = of_book.numbered.rises

  -- ---- what passes

  there : MembersPass p has state
  there d i h = below_by p.domains after d i (omega (arith, well.numbered d i h, rises d))

  named : NamedPass p has
  named d i h = elim (true_or_false (is_abstract p.domains d)) [
    | inl is ↦
        let c = constant_of p.domains d i is h in
        there d i (well.constants d i c.0 c.1 c.2)
    | inr other ↦ below_other p.domains after d i other
  ]

  ready : Ready p has state []
  ready = (state_passes p has named state there well, tt)

  leads : Leads p has (Ready p has state []) (counts_in p state) after u
  leads =
      yields_leads p pick has (terms_pass p has sorted named) (ranges_pass p has named) sorted
      p.main sorted.main state [] (counts_in p state) after u step

  each : EachMayTake p has u
  each = leads.takes (λ d i is h. below_by p.domains after d i h) ready

  few_after : AreFew after
  few_after = leads.few well.few

  then_passes : Passes p has then_state
  then_passes = set_passes p has state u ready.0 each

  -- ---- the members after the step

  old_stays : (d i : ℕ) → HasMember state d i → HasMember then_state d i
  old_stays d i h = elim (true_or_false (updates_at u (member_location d i))) [
    | inl some ↦
        let f = updates_at-found u (member_location d i) some in
        let m = member_is p has d i f.0.location f.0.value f.1 (each f.0 f.2) in
        ap (value_at then_state) (sym f.1) ∙ value_at-fire-member state u f.0 one f.2 ∙ m.0
    | inr none ↦ value_at-fire-other state u (member_location d i) none ∙ h
  ]

  new_comes : (d i : ℕ) → Mem (member_location d i) of_book.new → HasMember then_state d i
  new_comes d i m =
      let adds = new_members_are_added p state state [] p.main u of_book.new of_book.book in
      value_at-fire-member state u
      (record { location = member_location d i; value = Truth true }) one
      (adds.added (member_location d i) m)

  below_there : (d i : ℕ) → is_abstract p.domains d ≡ true → i < slice_index after d
      → HasMember then_state d i
  below_there d i is h = elim (below_or_from (slice_index (counts_in p state) d) i) [
    | inl low ↦ old_stays d i (all_below p state d well.numbered is i low)
    | inr high ↦ new_comes d i (of_book.numbered.complete d i high h)
  ]

  abbrev live : Live
  live = live_of then_state p.domains

  passing_there : HasPassing p has live
  passing_there d i is h =
      has_live then_state p.domains d i is
      (below_there d i is (below_is p.domains after d i is h))

  more_there : HasMore (live_of state p.domains) live
  more_there d i h =
      let old = live_has state p.domains d i h in
      is_live-mem live d i (has_live then_state p.domains d i old.0 (old_stays d i old.1))

  -- ---- the locations after the step

  written_belongs : (l : Location) (v : Value) → IsWritten (set.items u) l v
      → Belongs p live l.subject l.args v
  written_belongs l v w =
      let taken = each w.update (listed_has u w.update w.listed) in
      taken_belongs p has live passing_there l v w.defined
      (subst (λ k. MayTake p has k v) w.at
      (subst (λ x. MayTake p has w.update.location x) w.holds taken))

  location_belongs : (l : Location) (v : Value) → finite.get then_state l ≡ Some v
      → Belongs p live l.subject l.args v
  location_belongs l v e = elim (fired_from (set.items u) state l v e) [
    | inl w ↦ written_belongs l v w
    | inr old ↦
        belongs_more p (live_of state p.domains) live more_there l.subject l.args v
        (well.locations l v old)
  ]

  -- ---- how many there are

  then_numbered : MembersAreNumbered p then_state
  then_numbered =
      steps_leave_numbered p pick state u after (sorted_extends_abstract p sorted) well.numbered
      step one

  then_few : (d : ℕ) → slice_index (counts_in p then_state) d ≤ 256
  then_few d = elim (true_or_false (is_abstract p.domains d)) [
    | inl is ↦
        elim (below_or_from (slice_index (counts_in p then_state) d) (slice_index after d)) [
          | inl low ↦
              let last = all_below p then_state d then_numbered is (slice_index after d) low in
              let under = below_is p.domains after d (slice_index after d) is
              (then_passes.members d (slice_index after d) last) in
              absurd (omega (arith, under))
          | inr high ↦ omega (arith, high, few_after d)
        ]
    | inr other ↦ let none = none_else p then_state d other in omega (arith, none)
  ]

  pub step_keeps : IsWellFormed p then_state
  step_keeps = record {
    locations = location_belongs;
    numbered = then_numbered;
    few = then_few;
    constants = λ d i info g h. old_stays d i (well.constants d i info g h);
  }

pub steps_keep : (p : Program) → StepsKeepWellFormed p
steps_keep p pick state u after sorted well step one =
    step_keeps p pick state u after sorted well step one
