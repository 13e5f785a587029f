-- Updates that a state may take: of dynamic functions, with arguments and a value in their domains,
-- and of new members, all made of members that pass a test. What a state holds after them.
use Rattle.std.proofs.Common.{◌≡◌, ℕ, ◌⊎◌, inl, inr, Bool, true, false, not, ◌||◌, cond}
use Rattle.std.proofs.Common.{Option, Some, None, unwrap_or, List, [], ◌∷◌, map, slice_get, refl}
use Rattle.std.proofs.Common.{sym, ap, subst, ◌∙◌}
use Rattle.std.proofs.lemmas.Bool.{true≢false}
use Rattle.std.specs.List.{list_any}
use Rattle.std.specs.FinMap as finite
use Rattle.asm_value.specs.declared.value.Value.{Value}
use Rattle.asm_value.specs.declared.value.Value.TheVariants.{Undef, Truth}
use Rattle.asm_value.specs.declared.value.Value.TheOpen.{Value-F}
use Rattle.asm_value.specs.declared.value.Value.TheViews.{out-Value}
use Rattle.asm_value.specs.declared.location.Location.{Location}
use Rattle.asm_value.specs.declared.location.Subject.TheVariants.{Function, Domain}
use Rattle.asm_value.specs.declared.location.Update.{Update}
use Rattle.asm_value.specs.Domain.{fits, each_passes}
use Rattle.asm_value.specs.Ranges.{Mem}
use Rattle.asm_value.specs.Living.{is_abstract, member_location, HasMember}
use Rattle.asm_value.specs.State.{StateMap, is_undef, fire_one, fire_all, fire, overlaid}
use Rattle.asm_value.specs.State.{updates_at}
use Rattle.asm_value.specs.UpdateSet as set
use Rattle.asm_value.specs.UpdateSet.{UpdateSet, same}
use Rattle.asm_value.proofs.MemberLists.{out_undef, out_truth}
use Rattle.asm_value.proofs.StateLaws.{or_cases, or_right, same_is, same_itself, is_at, left_by}
use Rattle.asm_value.proofs.StateLaws.{location_is, get-fire_one, has-overlaid}
use Rattle.asm_value.proofs.UpdateSetLaws.{has-items, has-empty, has-add, has-add_all, has-union}
use Rattle.asm_program.specs.declared.program.FunctionInfo.{FunctionInfo}
use Rattle.asm_program.specs.declared.program.Program.{Program}
use Rattle.asm_program.specs.Yields.{memberships}
use Rattle.asm_program.proofs.Numbering.{same_member}
use Rattle.asm_program.proofs.Sets.{or_false, and_first}
use Rattle.asm_soundness.specs.WellFormed.{is_dynamic}
use Rattle.asm_soundness.specs.Sorted.{members_pass}
use Rattle.asm_soundness.proofs.Values.{AllPass, members_pass-Truth}

-- ---- what a location holds after firing

-- an update of the list has given the location its value
pub record IsWritten (us : List Update) (l : Location) (v : Value) : Type 0 where
  pub update : Update
  pub listed : Mem update us
  pub at : update.location ≡ l
  pub holds : update.value ≡ v
  pub defined : is_undef v ≡ false

same_some : (v w : Value) → ◌≡◌ {A = Option Value} (Some v) (Some w) → v ≡ w
same_some v w e = ap (λ o. unwrap_or o v) e

-- what a defined value leaves
left_is : (v w : Value) (b : Bool) → is_undef v ≡ b
    → ◌≡◌ {A = Option Value} (cond b None (Some v)) (Some w)
    → (v ≡ w) × (is_undef w ≡ false)
left_is v w true u e = absurd (cc)
left_is v w false u e =
    let is = same_some v w e in (is, subst (λ x. is_undef x ≡ false) is u)

written_or_old : (u : Update) (us : List Update) (state : StateMap) (l : Location) (v : Value)
    (b : Bool) → is_at l u ≡ b → cond b (left_by u.value) (finite.get state l) ≡ Some v
    → IsWritten (u ∷ us) l v ⊎ (finite.get state l ≡ Some v)
written_or_old u us state l v true at e =
    let is = left_is u.value v (is_undef u.value) refl e in
    inl (record {
      update = u;
      listed = inl refl;
      at = sym (location_is l u.location at);
      holds = is.0;
      defined = is.1;
    })
written_or_old u us state l v false at e = inr e

pub fired_from : (us : List Update) (state : StateMap) (l : Location) (v : Value)
    → finite.get (fire_all state us) l ≡ Some v
    → IsWritten us l v ⊎ (finite.get state l ≡ Some v)
fired_from [] state l v e = inr e
fired_from (u ∷ us) state l v e = elim (fired_from us (fire_one state u) l v e) [
  | inl w ↦ inl (record {
    update = w.update;
    listed = inr w.listed;
    at = w.at;
    holds = w.holds;
    defined = w.defined;
  })
  | inr k ↦ written_or_old u us state l v (is_at l u) refl (sym (get-fire_one state u l) ∙ k)
]

-- ---- members

undef_isnt_true : Undef ≡ Truth true → ⊥
undef_isnt_true e =
    let unlike : Value-F.Undef ≡ Value-F.Truth true = sym out_undef ∙ ap out-Value e
    ∙ out_truth true in absurd (cc)

true_there : (o : Option Value) → unwrap_or o Undef ≡ Truth true → o ≡ Some (Truth true)
true_there None e = absurd (undef_isnt_true e)
true_there (Some v) e = ap (λ w. Some w) e

-- a state has a member where the member's location holds true
pub has-get : (state : StateMap) (d i : ℕ) → HasMember state d i
    → finite.get state (member_location d i) ≡ Some (Truth true)
has-get state d i h = true_there (finite.get state (member_location d i)) h

pub get-has : (state : StateMap) (d i : ℕ)
    → finite.get state (member_location d i) ≡ Some (Truth true) → HasMember state d i
get-has state d i e = ap (λ o. unwrap_or o Undef) e

pub no_function : {A : Type 0} (f d : ℕ) → Function f ≡ Domain d → A
no_function f d e = absurd (cc)

-- ---- lists and sets

first_has : (u : Update) (us : List Update) (x : Update) → same x u ≡ true
    → list_any (same x) (u ∷ us) ≡ true
first_has u us x e = ap (λ b. b || list_any (same x) us) e

mem_has : (us : List Update) (x : Update) → Mem x us → list_any (same x) us ≡ true
mem_has [] x m = absurd m
mem_has (u ∷ us) x m = elim m [
  | inl e ↦ first_has u us x (same_itself x u e)
  | inr k ↦ or_right (same x u) (list_any (same x) us) (mem_has us x k)
]

pub listed_has : (s : UpdateSet) (x : Update) → Mem x (set.items s) → set.has s x ≡ true
listed_has s x m = has-items s x ∙ mem_has (set.items s) x m

-- ---- updates

module _ (p : Program) (has : ℕ → ℕ → Bool) where
  -- a dynamic function, with arguments in its domains and a value in its codomain, each index
  -- counting as a member
  pub record IsOfDynamic (l : Location) (v : Value) : Type 0 where
    pub function : ℕ
    pub info : FunctionInfo
    pub declared : slice_get p.functions function ≡ Some info
    pub dynamic : is_dynamic info.kind ≡ true
    pub subject : l.subject ≡ Function function
    pub arguments : each_passes (map (fits p.domains p.everyone) info.args) l.args ≡ true
    pub value : is_undef v ≡ false → fits p.domains p.everyone info.result v ≡ true
    pub args_pass : AllPass has l.args
    pub value_passes : members_pass has v ≡ true

  -- a member of an abstract domain is in it
  pub record IsOfMember (l : Location) (v : Value) : Type 0 where
    pub domain : ℕ
    pub index : ℕ
    pub abstract : is_abstract p.domains domain ≡ true
    pub at : l ≡ member_location domain index
    pub holds : v ≡ Truth true
    pub passes : has domain index ≡ true

  abbrev pub MayTake : Location → Value → Type 0
  MayTake l v = IsOfDynamic l v ⊎ IsOfMember l v

  abbrev pub OfUpdate : Update → Type 0
  OfUpdate x = MayTake x.location x.value

  -- each update of a set
  abbrev pub EachMayTake : UpdateSet → Type 0
  EachMayTake s = (x : Update) → set.has s x ≡ true → OfUpdate x

  pub taken_passes : (l : Location) (v : Value) → MayTake l v → members_pass has v ≡ true
  taken_passes l v t = elim t [
    | inl s ↦ s.value_passes
    | inr m ↦ subst (λ w. members_pass has w ≡ true) (sym m.holds) (members_pass-Truth has true)
  ]

  pub member_is : (d i : ℕ) (l : Location) (v : Value) → l ≡ member_location d i → MayTake l v
      → (v ≡ Truth true) × (has d i ≡ true) × (is_abstract p.domains d ≡ true)
  member_is d i l v e t = elim t [
    | inl s ↦ no_function s.function d (sym s.subject ∙ ap (λ k. k.subject) e)
    | inr m ↦
        let alike = same_member m.domain m.index d i (sym m.at ∙ e) in (
          m.holds,
          subst (λ k. has d k ≡ true) alike.1
              (subst (λ k. has k m.index ≡ true) alike.0 m.passes),
          subst (λ k. is_abstract p.domains k ≡ true) alike.0 m.abstract,
        )
  ]

  -- ---- states whose values and members pass

  pub record Passes (state : StateMap) : Type 0 where
    pub values : (l : Location) (v : Value) → finite.get state l ≡ Some v
        → members_pass has v ≡ true
    pub members : (d i : ℕ) → HasMember state d i → has d i ≡ true

  pub fired_passes : (state : StateMap) (us : List Update) → Passes state
      → ((x : Update) → Mem x us → OfUpdate x) → Passes (fire_all state us)
  fired_passes state us ok each = record {
    values = λ l v e. elim (fired_from us state l v e) [
      | inl w ↦ subst (λ x. members_pass has x ≡ true) w.holds
          (taken_passes w.update.location w.update.value (each w.update w.listed))
      | inr old ↦ ok.values l v old
    ];
    members = λ d i h. elim (fired_from us state (member_location d i) (Truth true)
        (has-get (fire_all state us) d i h)) [
          | inl w ↦
              (member_is d i w.update.location w.update.value w.at (each w.update w.listed)).1
          | inr old ↦ ok.members d i (get-has state d i old)
        ];
  }

  pub set_passes : (state : StateMap) (s : UpdateSet) → Passes state → EachMayTake s
      → Passes (fire state s)
  set_passes state s ok each =
      fired_passes state (set.items s) ok (λ x m. each x (listed_has s x m))

  -- ---- sets

  pub none_taken : EachMayTake set.empty
  none_taken x h = absurd (true≢false (sym h ∙ has-empty x))

  pub one_taken : (y : Update) → OfUpdate y → EachMayTake (set.add set.empty y)
  one_taken y t x h =
      let is = same_is x y (sym (has-add set.empty y x ∙ ap (λ b. same x y || b) (has-empty x)
      ∙ or_false (same x y)) ∙ h) in
      subst OfUpdate (sym is) t

  pub both_taken : (s t : UpdateSet) → EachMayTake s → EachMayTake t
      → EachMayTake (set.union s t)
  both_taken s t a b x h = elim (or_cases (set.has s x) _ (sym (has-union s t x) ∙ h)) [
    | inl k ↦ a x k
    | inr k ↦ b x k
  ]

  pub over_taken : (s t : UpdateSet) → EachMayTake s → EachMayTake t
      → EachMayTake (overlaid s t)
  over_taken s t a b x h = elim (or_cases (set.has t x) _ (sym (has-overlaid s t x) ∙ h)) [
    | inl k ↦ b x k
    | inr k ↦ a x (and_first (set.has s x) (not (updates_at t x.location)) k)
  ]

  -- ---- new members

  abbrev becomes_member : ℕ → ℕ → Update
  becomes_member d i = record { location = member_location d i; value = Truth true }

  listed_taken : (d : ℕ) (indexes : List ℕ) → is_abstract p.domains d ≡ true
      → ((i : ℕ) → Mem i indexes → has d i ≡ true) → (x : Update)
      → list_any (same x) (map (becomes_member d) indexes) ≡ true → OfUpdate x
  listed_taken d [] is all x h = absurd (true≢false (sym h))
  listed_taken d (i ∷ indexes) is all x h =
      elim (or_cases (same x (becomes_member d i)) _ h) [
        | inl e ↦
            let alike = same_is x (becomes_member d i) e in
            inr (record {
              domain = d;
              index = i;
              abstract = is;
              at = ap (λ y. y.location) alike;
              holds = ap (λ y. y.value) alike;
              passes = all i (inl refl);
            })
        | inr k ↦ listed_taken d indexes is (λ j m. all j (inr m)) x k
      ]

  pub members_taken : (d : ℕ) (indexes : List ℕ) → is_abstract p.domains d ≡ true
      → ((i : ℕ) → Mem i indexes → has d i ≡ true) → EachMayTake (memberships d indexes)
  members_taken d indexes is all x h =
      listed_taken d indexes is all x (sym (has-add_all set.empty (map (becomes_member d) indexes) x
      ∙ ap (λ b. b || list_any (same x) (map (becomes_member d) indexes)) (has-empty x)) ∙ h)
