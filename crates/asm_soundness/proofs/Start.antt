-- The initial state is well formed.
use Rattle.std.proofs.Common.{◌≡◌, ℕ, zero, suc, ◌+◌, ◌<◌, ◌≤◌, ◌⊎◌, inl, inr, Bool, true, false}
use Rattle.std.proofs.Common.{cond, ◌&&◌, if◌then◌else◌, Option, Some, None, unwrap_or, List, []}
use Rattle.std.proofs.Common.{◌∷◌, length, map, slice_get, refl, sym, ap, subst, ◌∙◌, arith}
use Rattle.std.specs.Prelude.{slice_index, nat_le}
use Rattle.std.proofs.lemmas.Bool.Decides.{nat_tests}
use Rattle.std.specs.Option.{option_map_or}
use Rattle.std.specs.List.{AllByRecursion, list_all, range_with_len}
use Rattle.std.specs.Ordering.{eq_by_cmp}
use Rattle.std.specs.FinMap as finite
use Rattle.asm_value.specs.declared.value.Value.{Value}
use Rattle.asm_value.specs.declared.value.Value.TheVariants.{Undef, Truth}
use Rattle.asm_value.specs.declared.domain.DomainInfo.{DomainInfo}
use Rattle.asm_value.specs.declared.domain.DomainKind.{DomainKind}
use Rattle.asm_value.specs.declared.domain.DomainKind.TheVariants as kind
use Rattle.asm_value.specs.declared.domain.Live.{Live}
use Rattle.asm_value.specs.declared.location.Location.{Location}
use Rattle.asm_value.specs.declared.location.Subject.TheVariants.{Function}
use Rattle.asm_value.specs.Domain.{fits, each_passes}
use Rattle.asm_value.specs.Living.{is_abstract, is_abstract_kind, member_location, HasMember}
use Rattle.asm_value.specs.Living.{live_of}
use Rattle.asm_value.specs.Location.{location_cmp}
use Rattle.asm_value.specs.Ranges.{Mem}
use Rattle.asm_value.specs.State.{StateMap, is_undef, fire_one}
use Rattle.asm_value.specs.TotalOrders.{location_cmp_total}
use Rattle.asm_value.proofs.Listing.{all_of as all_by}
use Rattle.asm_value.proofs.StateLaws.{get-fire_one, location_is, location_itself}
use Rattle.asm_syntax.specs.declared.token.Span.{Span}
use Rattle.asm_program.specs.declared.outcome.FaultKind.TheVariants.{OutOfCodomain}
use Rattle.asm_program.specs.declared.outcome.Outcome.{Outcome}
use Rattle.asm_program.specs.declared.outcome.Outcome.TheVariants as outcome
use Rattle.asm_program.specs.declared.program.FunctionInfo.{FunctionInfo}
use Rattle.asm_program.specs.declared.program.InitInfo.{InitInfo}
use Rattle.asm_program.specs.declared.program.Program.{Program}
use Rattle.asm_program.specs.Members.{combinations, constants_of}
use Rattle.asm_program.specs.Meaning.{eval}
use Rattle.asm_program.specs.RuleLaws.{update_to}
use Rattle.asm_program.specs.Initial.{Started, Starts, StartFaults, with_members, with_constants}
use Rattle.asm_program.specs.Initial.{bare_state, in_codomain, with_outcome, on_start, at_each}
use Rattle.asm_program.specs.Initial.{args_of, with_start, with_starts}
use Rattle.asm_program.specs.Yields.{counts_in}
use Rattle.asm_program.specs.Numbered.{MembersAreNumbered}
use Rattle.asm_program.proofs.Counting.{range_bounds, range_has}
use Rattle.asm_program.proofs.Numbering.{same_member}
use Rattle.asm_program.proofs.NumberedLaws.{true_or_false, all_below, none_else}
use Rattle.asm_program.proofs.Sets.{and_first, and_second}
use Rattle.asm_program.proofs.StartLaws.{starts_numbered}
use Rattle.asm_soundness.specs.WellFormed.{is_dynamic, IsMembership, Belongs}
use Rattle.asm_soundness.specs.WellFormed.{IsWellFormed}
use Rattle.asm_soundness.specs.Sorted.{members_pass, is_named, is_sorted_term, is_set_at_start}
use Rattle.asm_soundness.specs.Keeping.{StartsWellFormed}
use Rattle.asm_soundness.proofs.Values.{AllPass, members_pass-Truth}
use Rattle.asm_soundness.proofs.Fits.{fits_here}
use Rattle.asm_soundness.proofs.Updates.{IsWritten, fired_from, has-get, get-has, Passes}
use Rattle.asm_soundness.proofs.Rules.{TermsPass}
use Rattle.asm_soundness.proofs.StatesPass.{constant_named, constant_of, has_live}
use Rattle.asm_soundness.proofs.StatesPass.{fit_args_pass, range_fits, terms_pass}
use Rattle.asm_soundness.proofs.Belonging.{HasPassing, same_live}

-- ---- members that are put in

abbrev put : StateMap → ℕ → ℕ → StateMap
put s d i = finite.insert s (member_location d i) (Truth true)

get-put : (s : StateMap) (d i : ℕ) (l : Location) → finite.get (put s d i) l
    ≡ cond (eq_by_cmp location_cmp l (member_location d i)) (Some (Truth true)) (finite.get s l)
get-put s d i l = finite.get-insert location_cmp_total s (member_location d i) (Truth true) l

same_value : (v w : Value) → ◌≡◌ {A = Option Value} (Some v) (Some w) → v ≡ w
same_value v w e = ap (λ o. unwrap_or o v) e

put_by : (s : StateMap) (d i : ℕ) (l : Location) (v : Value) (b : Bool)
    → eq_by_cmp location_cmp l (member_location d i) ≡ b
    → cond b (Some (Truth true)) (finite.get s l) ≡ Some v
    → ((l ≡ member_location d i) × (v ≡ Truth true)) ⊎ (finite.get s l ≡ Some v)
put_by s d i l v true tie e =
    inl (location_is l (member_location d i) tie, sym (same_value (Truth true) v e))
put_by s d i l v false tie e = inr e

-- it is the member that was put in, or it was there
put_or_old : (s : StateMap) (d i : ℕ) (l : Location) (v : Value)
    → finite.get (put s d i) l ≡ Some v
    → ((l ≡ member_location d i) × (v ≡ Truth true)) ⊎ (finite.get s l ≡ Some v)
put_or_old s d i l v e =
    put_by s d i l v (eq_by_cmp location_cmp l (member_location d i)) refl
    (sym (get-put s d i l) ∙ e)

abbrev There : StateMap → ℕ → ℕ → Type 0
There s d i = finite.get s (member_location d i) ≡ Some (Truth true)

put_there : (s : StateMap) (d i : ℕ) → There (put s d i) d i
put_there s d i =
    get-put s d i (member_location d i)
    ∙ ap (λ b. cond b (Some (Truth true)) (finite.get s (member_location d i)))
    (location_itself (member_location d i) (member_location d i) refl)

there_by : (o : Option Value) (b : Bool) → o ≡ Some (Truth true)
    → cond b (Some (Truth true)) o ≡ Some (Truth true)
there_by o true e = refl
there_by o false e = e

old_there : (s : StateMap) (d i e j : ℕ) → There s e j → There (put s d i) e j
old_there s d i e j h =
    get-put s d i (member_location e j)
    ∙ there_by (finite.get s (member_location e j))
    (eq_by_cmp location_cmp (member_location e j) (member_location d i)) h

-- one of these members
abbrev IsOneOf : ℕ → List ℕ → Location → Value → Type 0
IsOneOf d is l v = (i : ℕ) × Mem i is × (l ≡ member_location d i) × (v ≡ Truth true)

members_or_old : (d : ℕ) (is : List ℕ) (s : StateMap) (l : Location) (v : Value)
    → finite.get (with_members d is s) l ≡ Some v
    → IsOneOf d is l v ⊎ (finite.get s l ≡ Some v)
members_or_old d [] s l v e = inr e
members_or_old d (i ∷ is) s l v e = elim (members_or_old d is (put s d i) l v e) [
  | inl m ↦ inl (m.0, inr m.1, m.2, m.3)
  | inr k ↦ elim (put_or_old s d i l v k) [
    | inl m ↦ inl (i, inl refl, m.0, m.1)
    | inr old ↦ inr old
  ]
]

old_with_members : (d : ℕ) (is : List ℕ) (s : StateMap) (e j : ℕ) → There s e j
    → There (with_members d is s) e j
old_with_members d [] s e j h = h
old_with_members d (i ∷ is) s e j h =
    old_with_members d is (put s d i) e j (old_there s d i e j h)

put_with_members : (d : ℕ) (is : List ℕ) (s : StateMap) (j : ℕ) → Mem j is
    → There (with_members d is s) d j
put_with_members d [] s j m = absurd m
put_with_members d (i ∷ is) s j m = elim m [
  | inl e ↦ old_with_members d is (put s d i) d j
      (subst (λ k. There (put s d i) d k) (sym e) (put_there s d i))
  | inr k ↦ put_with_members d is (put s d i) j k
]

-- ---- the constants

-- the state says that a constant of one of the domains from number k on is there
record IsConstant (k : ℕ) (infos : List DomainInfo) (l : Location) (v : Value) : Type 0 where
  pub domain : ℕ
  pub index : ℕ
  pub info : DomainInfo
  pub declared : slice_get infos domain ≡ Some info
  pub low : index < constants_of info.kind
  pub at : l ≡ member_location (k + domain) index
  pub holds : v ≡ Truth true

constant_later : (k : ℕ) (info : DomainInfo) (infos : List DomainInfo) (l : Location) (v : Value)
    → IsConstant (k + 1) infos l v → IsConstant k (info ∷ infos) l v
constant_later k info infos l v c = record {
  domain = suc c.domain;
  index = c.index;
  info = c.info;
  declared = c.declared;
  low = c.low;
  at = c.at ∙ ap (λ d. member_location d c.index) (next k c.domain);
  holds = c.holds;
}
  where
    next : (n m : ℕ) → n + 1 + m ≡ n + suc m
    next n m = omega arith

constant_now : (k : ℕ) (info : DomainInfo) (infos : List DomainInfo) (l : Location) (v : Value)
    → IsOneOf k (range_with_len 0 (constants_of info.kind)) l v → IsConstant k (info ∷ infos) l v
constant_now k info infos l v m =
    let bounds = range_bounds 0 (constants_of info.kind) m.0 m.1 in
    record {
      domain = 0;
      index = m.0;
      info = info;
      declared = refl;
      low = omega (arith, bounds.1);
      at = m.2 ∙ ap (λ d. member_location d m.0) (here k);
      holds = m.3;
    }
  where
    here : (n : ℕ) → n ≡ n + 0
    here n = omega arith

constant_or_old : (infos : List DomainInfo) (k : ℕ) (s : StateMap) (l : Location) (v : Value)
    → finite.get (with_constants k infos s) l ≡ Some v
    → IsConstant k infos l v ⊎ (finite.get s l ≡ Some v)
constant_or_old [] k s l v e = inr e
constant_or_old (info ∷ infos) k s l v e =
    let constants = range_with_len 0 (constants_of info.kind) in
    elim (constant_or_old infos (k + 1) (with_members k constants s) l v e) [
      | inl c ↦ inl (constant_later k info infos l v c)
      | inr m ↦ elim (members_or_old k constants s l v m) [
        | inl n ↦ inl (constant_now k info infos l v n)
        | inr old ↦ inr old
      ]
    ]

old_with_constants : (infos : List DomainInfo) (k : ℕ) (s : StateMap) (e j : ℕ) → There s e j
    → There (with_constants k infos s) e j
old_with_constants [] k s e j h = h
old_with_constants (info ∷ infos) k s e j h =
    old_with_constants infos (k + 1)
    (with_members k (range_with_len 0 (constants_of info.kind)) s) e j
    (old_with_members k (range_with_len 0 (constants_of info.kind)) s e j h)

constant_there : (infos : List DomainInfo) (k : ℕ) (s : StateMap) (d j : ℕ) (info : DomainInfo)
    → slice_get infos d ≡ Some info → j < constants_of info.kind
    → There (with_constants k infos s) (k + d) j
constant_there [] k s d j info g h = absurd (cc)
constant_there (x ∷ infos) k s zero j info g h =
    let is : x ≡ info = cc in
    let constants = range_with_len 0 (constants_of x.kind) in
    let low = subst (λ y. j < constants_of y.kind) (sym is) h in
    subst (λ e. There (with_constants (k + 1) infos (with_members k constants s)) e j) (here k)
    (old_with_constants infos (k + 1) (with_members k constants s) k j
    (put_with_members k constants s j
    (range_has 0 (constants_of x.kind) j (omega arith) (omega (arith, low)))))
  where
    here : (n : ℕ) → n ≡ n + 0
    here n = omega arith
constant_there (x ∷ infos) k s (suc d) j info g h =
    let before = with_members k (range_with_len 0 (constants_of x.kind)) s in
    subst (λ e. There (with_constants (k + 1) infos before) e j) (next k d)
    (constant_there infos (k + 1) before d j info g h)
  where
    next : (n m : ℕ) → n + 1 + m ≡ n + suc m
    next n m = omega arith

-- a domain with constants is abstract, and has at most 256
kind_abstract : (k : DomainKind) (j : ℕ) → j < constants_of k → is_abstract_kind k ≡ true
kind_abstract (kind.Enum names) j h = absurd (omega (arith, h))
kind_abstract (kind.Abstract names) j h = refl
kind_abstract (kind.Subset numbers) j h = absurd (omega (arith, h))

abstract_at : (o : Option DomainInfo) (info : DomainInfo) (j : ℕ) → o ≡ Some info
    → j < constants_of info.kind
    → elim o as (λ _. Bool) [ None ↦ false | Some x ↦ is_abstract_kind x.kind ] ≡ true
abstract_at o info j e h =
    ap (λ x. elim x as (λ _. Bool) [ None ↦ false | Some y ↦ is_abstract_kind y.kind ]) e
    ∙ kind_abstract info.kind j h

few_at : (infos : List DomainInfo) (d : ℕ) (info : DomainInfo)
    → list_all (λ x. nat_le (constants_of x.kind) 256) infos ≡ true
    → slice_get infos d ≡ Some info → constants_of info.kind ≤ 256
few_at [] d info h g = absurd (cc)
few_at (x ∷ infos) zero info h g =
    let is : x ≡ info = cc in
    subst (λ y. constants_of y.kind ≤ 256) is
    (within (constants_of x.kind) (and_first (nat_le (constants_of x.kind) 256) _ h))
  where
    within : (n : ℕ) → nat_le n 256 ≡ true → n ≤ 256
    within n t = grind (arith, nat_tests, t)
few_at (x ∷ infos) (suc d) info h g =
    few_at infos d info (and_second (nat_le (constants_of x.kind) 256) _ h) g

-- ---- the bare state

module _ (p : Program) where
  abbrev bare : StateMap
  bare = bare_state p.domains

  abbrev live : Live
  live = live_of bare p.domains

  abbrev named : ℕ → ℕ → Bool
  named = is_named p.domains

  no_entry : (l : Location) (v : Value) → finite.get {R = location_cmp} finite.empty l ≡ Some v → ⊥
  no_entry l v e =
      let unlike : ◌≡◌ {A = Option Value} None (Some v) =
      sym (finite.get-empty location_cmp l) ∙ e in absurd (cc)

  bare_constant : (l : Location) (v : Value) → finite.get bare l ≡ Some v
      → IsConstant 0 p.domains l v
  bare_constant l v e = elim (constant_or_old p.domains 0 finite.empty l v e) [
    | inl c ↦ c
    | inr old ↦ absurd (no_entry l v old)
  ]

  bare_has : (d i : ℕ) (info : DomainInfo) → slice_get p.domains d ≡ Some info
      → i < constants_of info.kind → HasMember bare d i
  bare_has d i info g h =
      get-has bare d i (subst (λ k. There bare k i) (from_zero d)
      (constant_there p.domains 0 finite.empty d i info g h))
    where
      from_zero : (n : ℕ) → 0 + n ≡ n
      from_zero n = omega arith

  -- its members are the constants
  bare_member : (d i : ℕ) → HasMember bare d i
      → (info : DomainInfo) × (slice_get p.domains d ≡ Some info) × (i < constants_of info.kind)
  bare_member d i h =
      let c = bare_constant (member_location d i) (Truth true) (has-get bare d i h) in
      let alike = same_member d i (0 + c.domain) c.index c.at in
      let here : c.domain ≡ d = omega (arith, alike.0) in (
        c.info,
        subst (λ k. slice_get p.domains k ≡ Some c.info) here c.declared,
        subst (λ k. k < constants_of c.info.kind) (sym alike.1) c.low,
      )

  bare_named : (d i : ℕ) → HasMember bare d i → named d i ≡ true
  bare_named d i h = let c = bare_member d i h in constant_named p.domains d i c.0 c.1 c.2

  bare_passes : Passes p named bare
  bare_passes = record {
    values = λ l v e. subst (λ w. members_pass named w ≡ true) (sym (bare_constant l v e).holds)
        (members_pass-Truth named true);
    members = bare_named;
  }

  named_there : HasPassing p named live
  named_there d i is h =
      let c = constant_of p.domains d i is h in
      has_live bare p.domains d i is (bare_has d i c.0 c.1 c.2)

  constant_belongs : (l : Location) (v : Value) → IsConstant 0 p.domains l v
      → Belongs p live l.subject l.args v
  constant_belongs l v c =
      let b : IsMembership p live (0 + c.domain) l.args v = record {
        index = c.index;
        abstract = abstract_at (slice_get p.domains (0 + c.domain)) c.info c.index
            (ap (slice_get p.domains) (from_zero c.domain) ∙ c.declared) c.low;
        member = ap (λ k. k.args) c.at;
        holds = c.holds;
      } in
      subst (λ k. Belongs p live k l.args v) (sym (ap (λ k. k.subject) c.at)) b
    where
      from_zero : (n : ℕ) → 0 + n ≡ n
      from_zero n = omega arith

  -- ---- the values of functions

  -- each location belongs to the bare state, whose members it has
  record IsFounded (s : StateMap) : Type 0 where
    pub locations : (l : Location) (v : Value) → finite.get s l ≡ Some v
        → Belongs p live l.subject l.args v
    pub members : (d i : ℕ)
        → finite.get s (member_location d i) ≡ finite.get bare (member_location d i)

  bare_founded : IsFounded bare
  bare_founded = record {
    locations = λ l v e. constant_belongs l v (bare_constant l v e);
    members = λ d i. refl;
  }

  start_of : (y : Started) (go : StateMap → Started) (t : StateMap) → on_start y go ≡ Starts t
      → (s : StateMap) × (y ≡ Starts s) × (go s ≡ Starts t)
  start_of (Starts s) go t e = (s, refl, e)
  start_of (StartFaults g) go t e = absurd (cc)

  same_start : (s t : StateMap) → Starts s ≡ Starts t → IsFounded s → IsFounded t
  same_start s t e h = let is : s ≡ t = cc in subst IsFounded is h

  fired_founded : (f : ℕ) (args : List Value) (v : Value) (s : StateMap)
      → Belongs p live (Function f) args v → IsFounded s
      → IsFounded (fire_one s (update_to f args v))
  fired_founded f args v s b h = record {
    locations = λ l w e. elim (fired_from
        (update_to f args v ∷ []) s l w e) [
          | inl k ↦ written l w k
          | inr old ↦ h.locations l w old
        ];
    members = λ d i. get-fire_one s (update_to f args v)
        (member_location d i) ∙ h.members d i;
  }
    where
      written : (l : Location) (w : Value)
          → IsWritten (update_to f args v ∷ []) l w
          → Belongs p live l.subject l.args w
      written l w k = elim k.listed [
        | inl is ↦
            subst (λ x. Belongs p live l.subject l.args x)
            (sym (ap (λ x. x.value) is) ∙ k.holds)
            (subst (λ m. Belongs p live m.subject m.args v)
            (sym (ap (λ x. x.location) is) ∙ k.at) b)
        | inr none ↦ absurd none
      ]

  -- ---- an initial term

  module _ (terms : TermsPass p named) where
    -- the domains of a dynamic function, with these arguments in them
    record IsInDomains (f : ℕ) (args : List Value) : Type 0 where
      pub info : FunctionInfo
      pub declared : slice_get p.functions f ≡ Some info
      pub dynamic : is_dynamic info.kind ≡ true
      pub arguments : each_passes (map (fits p.domains live) info.args) args ≡ true

    codomain_fits : (o : Option FunctionInfo) (info : FunctionInfo) (v : Value) → o ≡ Some info
        → option_map_or (λ x. fits p.domains p.everyone x.result v) o false ≡ true
        → fits p.domains p.everyone info.result v ≡ true
    codomain_fits o info v e h =
        sym (ap (λ x. option_map_or (λ y. fits p.domains p.everyone y.result v) x false) e) ∙ h

    value_belongs : (f : ℕ) (args : List Value) (v : Value) → IsInDomains f args
        → in_codomain p f v ≡ true → members_pass named v ≡ true
        → Belongs p live (Function f) args v
    value_belongs f args v k fit pass = record {
      info = k.info;
      declared = k.declared;
      dynamic = k.dynamic;
      arguments = k.arguments;
      value = fits_here p live named named_there k.info.result v
          (codomain_fits (slice_get p.functions f) k.info v k.declared fit) pass;
    }

    outcome_founded : (f : ℕ) (span : Span) (args : List Value) (s t : StateMap) (o : Outcome)
        → IsInDomains f args
        → ((v : Value) → o ≡ outcome.Value v → members_pass named v ≡ true)
        → IsFounded s → with_outcome p f span args s o ≡ Starts t → IsFounded t
    outcome_founded f span args s t (outcome.Value v) k pass h e =
        by_tests (is_undef v) (in_codomain p f v) refl e
      where
        by_tests : (a b : Bool) → in_codomain p f v ≡ b → (if a then Starts s
            else (if b then Starts (fire_one s (update_to f args v))
            else StartFaults (record { kind = OutOfCodomain; span = span }))) ≡ Starts t
            → IsFounded t
        by_tests true b fit is = same_start s t is h
        by_tests false true fit is =
            same_start (fire_one s (update_to f args v)) t is
            (fired_founded f args v s (value_belongs f args v k fit (pass v refl)) h)
        by_tests false false fit is = absurd (cc)
    outcome_founded f span args s t (outcome.Fault g) k pass h e = absurd (cc)

    each_founded : (init : InitInfo) → is_sorted_term p.domains init.body ≡ true
        → (rest : List (List Value))
        → AllByRecursion (λ args. IsInDomains init.function args × AllPass named args) rest
        → (s t : StateMap) → IsFounded s → at_each p init rest s ≡ Starts t → IsFounded t
    each_founded init sorted [] all s t h e = same_start s t e h
    each_founded init sorted (args ∷ rest) all s t h e =
        let a = start_of (with_outcome p init.function init.span args s
        (eval p bare init.body args)) (at_each p init rest) t e in
        each_founded init sorted rest all.1 a.0 t
        (outcome_founded init.function init.span args s a.0 (eval p bare init.body args) all.0.0
        (λ v is. terms bare bare_passes init.body args v sorted all.0.1 is) h a.1)
        a.2

    -- the arguments at which a function has its initial values
    in_domains : (f : ℕ) (o : Option FunctionInfo) → slice_get p.functions f ≡ o
        → option_map_or (λ info. is_dynamic info.kind) o false ≡ true → (args : List Value)
        → Mem args (combinations p.domains bare (args_of o))
        → IsInDomains f args × AllPass named args
    in_domains f None g dynamic args m = absurd (cc)
    in_domains f (Some info) g dynamic args m =
        let fit = range_fits p named bare info.args args m in (
          record { info = info; declared = g; dynamic = dynamic; arguments = fit },
          fit_args_pass p named (λ d i h. h) bare bare_named info.args args fit,
        )

    start_founded : (init : InitInfo) → is_set_at_start p.functions init.function ≡ true
        → is_sorted_term p.domains init.body ≡ true → (s t : StateMap) → IsFounded s
        → with_start p init s ≡ Starts t → IsFounded t
    start_founded init dynamic sorted s t h e =
        let o = slice_get p.functions init.function in
        each_founded init sorted (combinations p.domains bare (args_of o))
        (all_by (λ args. IsInDomains init.function args × AllPass named args)
        (combinations p.domains bare (args_of o))
        (λ args m. in_domains init.function o refl dynamic args m)) s t h e

    starts_founded : (inits : List InitInfo)
        → list_all (λ init. is_set_at_start p.functions init.function
        && is_sorted_term p.domains init.body) inits ≡ true
        → (s t : StateMap) → IsFounded s → with_starts p inits s ≡ Starts t → IsFounded t
    starts_founded [] sorted s t h e = same_start s t e h
    starts_founded (init ∷ inits) sorted s t h e =
        let a = start_of (with_start p init s) (with_starts p inits) t e in
        let first = and_first (is_set_at_start p.functions init.function
        && is_sorted_term p.domains init.body) _ sorted in
        starts_founded inits
        (and_second (is_set_at_start p.functions init.function
        && is_sorted_term p.domains init.body) _ sorted) a.0 t
        (start_founded init
        (and_first (is_set_at_start p.functions init.function) _ first)
        (and_second (is_set_at_start p.functions init.function) _ first) s a.0 h a.1)
        a.2

  -- ---- a state that is founded

  module _ (state : StateMap) (founded : IsFounded state) (numbered : MembersAreNumbered p state)
    where
      to_bare : (d i : ℕ) → HasMember state d i → HasMember bare d i
      to_bare d i h = sym (ap (λ o. unwrap_or o Undef) (founded.members d i)) ∙ h

      from_bare : (d i : ℕ) → HasMember bare d i → HasMember state d i
      from_bare d i h = ap (λ o. unwrap_or o Undef) (founded.members d i) ∙ h

      live_same : live_of state p.domains ≡ live
      live_same = same_live state bare to_bare from_bare p.domains

      below_or_from : (k i : ℕ) → (i < k) ⊎ (k ≤ i)
      below_or_from k i = grind (arith)

      few : (d : ℕ) → slice_index (counts_in p state) d ≤ 256
      few d = elim (true_or_false (is_abstract p.domains d)) [
        | inl is ↦ elim (below_or_from (slice_index (counts_in p state) d) 256) [
          | inl low ↦
              let last = all_below p state d numbered is 256 low in
              let c = bare_member d 256 (to_bare d 256 last) in
              let most = few_at p.domains d c.0
              (and_second (nat_le (length p.domains) 256) _ p.few_domains) c.1 in
              absurd (omega (arith, c.2, most))
          | inr high ↦ high
        ]
        | inr other ↦ let none = none_else p state d other in omega (arith, none)
      ]

      founded_well : IsWellFormed p state
      founded_well = record {
        locations = λ l v e. subst (λ (x : Live). Belongs p x l.subject l.args v) (sym live_same)
            (founded.locations l v e);
        numbered = numbered;
        few = few;
        constants = λ d i info g h. from_bare d i (bare_has d i info g h);
      }

pub starts_well : (p : Program) → StartsWellFormed p
starts_well p state sorted e =
    let terms = terms_pass p (is_named p.domains) sorted (λ d i h. h) in
    let founded = starts_founded p terms p.inits sorted.inits (bare_state p.domains) state
    (bare_founded p) e in
    founded_well p state founded (starts_numbered p state e)
