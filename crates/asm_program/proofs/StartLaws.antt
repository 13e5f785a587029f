-- In the initial state the members of each domain are its constants, numbered from 0 on.
use Rattle.std.proofs.Common.{◌≡◌, ℕ, zero, suc, ◌+◌, ◌<◌, ◌⊎◌, inl, inr, Bool, true, false, cond}
use Rattle.std.proofs.Common.{if◌then◌else◌, Some, unwrap_or, List, [], ◌∷◌, slice_get, refl, sym}
use Rattle.std.proofs.Common.{ap, subst, ◌∙◌, arith}
use Rattle.std.proofs.lemmas.Bool.{true≢false}
use Rattle.std.specs.List.{range_with_len}
use Rattle.std.specs.Ordering.{eq_by_cmp}
use Rattle.std.specs.FinMap as finite
use Rattle.asm_value.specs.declared.value.Value.{Value}
use Rattle.asm_value.specs.declared.value.Value.TheVariants.{Undef, Truth}
use Rattle.asm_value.specs.declared.domain.DomainInfo.{DomainInfo}
use Rattle.asm_value.specs.declared.domain.DomainKind.{DomainKind}
use Rattle.asm_value.specs.declared.domain.DomainKind.TheVariants as kind
use Rattle.asm_value.specs.Location.{location_cmp}
use Rattle.asm_value.specs.TotalOrders.{location_cmp_total}
use Rattle.asm_value.specs.Ranges.{Mem}
use Rattle.asm_value.specs.Living.{is_true, is_abstract, is_abstract_kind, member_location}
use Rattle.asm_value.specs.Living.{HasMember}
use Rattle.asm_value.specs.State.{StateMap, is_undef, value_at, fire_one}
use Rattle.asm_value.proofs.LivingLaws.{is_true-Truth}
use Rattle.asm_value.proofs.MemberLists.{out_undef}
use Rattle.asm_value.specs.Value.{as_truth_level}
use Rattle.asm_value.proofs.StateLaws.{get-fire_one, location_is, location_itself}
use Rattle.asm_syntax.specs.declared.token.Span.{Span}
use Rattle.asm_program.specs.declared.outcome.FaultKind.TheVariants.{OutOfCodomain}
use Rattle.asm_program.specs.declared.outcome.Outcome.{Outcome}
use Rattle.asm_program.specs.declared.outcome.Outcome.TheVariants as outcome
use Rattle.asm_program.specs.declared.program.InitInfo.{InitInfo}
use Rattle.asm_program.specs.declared.program.Program.{Program}
use Rattle.asm_program.specs.Members.{combinations}
use Rattle.asm_program.specs.Meaning.{eval, location_of}
use Rattle.asm_program.specs.Initial.{Started, Starts, StartFaults, with_members}
use Rattle.asm_program.specs.Members.{constants_of}
use Rattle.asm_program.specs.Initial.{with_constants, bare_state, in_codomain, with_outcome}
use Rattle.asm_program.specs.Initial.{on_start, at_each, args_of, with_start, with_starts, initial}
use Rattle.asm_program.specs.Numbered.{StartsNumbered}
use Rattle.asm_program.proofs.Counting.{range_bounds, range_has}
use Rattle.asm_program.proofs.NumberedLaws.{counted, true_or_false}
use Rattle.asm_program.proofs.Numbering.{same_member}

-- ---- members that are put in

value_at-insert : (s : StateMap) (d i e j : ℕ) (b : Bool)
    → eq_by_cmp location_cmp (member_location e j) (member_location d i) ≡ b
    → value_at (finite.insert s (member_location d i) (Truth true)) (member_location e j)
    ≡ unwrap_or (cond b (Some (Truth true)) (finite.get s (member_location e j))) Undef
value_at-insert s d i e j b h =
    let l = member_location e j in
    ap (λ o. unwrap_or o Undef)
    (finite.get-insert location_cmp_total s (member_location d i) (Truth true) l)
    ∙ ap (λ c. unwrap_or (cond c (Some (Truth true)) (finite.get s l)) Undef) h

ties_or_not : (d i e j : ℕ)
    → (eq_by_cmp location_cmp (member_location e j) (member_location d i) ≡ true)
    ⊎ (eq_by_cmp location_cmp (member_location e j) (member_location d i) ≡ false)
ties_or_not d i e j =
    true_or_false (eq_by_cmp location_cmp (member_location e j) (member_location d i))

-- it is the member that was put in, or it was there
put_or_old : (s : StateMap) (d i e j : ℕ)
    → HasMember (finite.insert s (member_location d i) (Truth true)) e j
    → ((e ≡ d) × (j ≡ i)) ⊎ HasMember s e j
put_or_old s d i e j h =
    elim (ties_or_not d i e j) [
      | inl tie ↦
          inl (same_member e j d i (location_is (member_location e j) (member_location d i) tie))
      | inr apart ↦ inr (sym (value_at-insert s d i e j false apart) ∙ h)
    ]

put_there : (s : StateMap) (d i : ℕ)
    → HasMember (finite.insert s (member_location d i) (Truth true)) d i
put_there s d i =
    value_at-insert s d i d i true
    (location_itself (member_location d i) (member_location d i) refl)

old_there : (s : StateMap) (d i e j : ℕ) → HasMember s e j
    → HasMember (finite.insert s (member_location d i) (Truth true)) e j
old_there s d i e j h =
    elim (ties_or_not d i e j) [
      | inl tie ↦ value_at-insert s d i e j true tie
      | inr apart ↦ value_at-insert s d i e j false apart ∙ h
    ]

members_or_old : (d : ℕ) (is : List ℕ) (s : StateMap) (e j : ℕ)
    → HasMember (with_members d is s) e j
    → ((e ≡ d) × Mem j is) ⊎ HasMember s e j
members_or_old d [] s e j h = inr h
members_or_old d (i ∷ is) s e j h =
    elim (members_or_old d is (finite.insert s (member_location d i) (Truth true)) e j h) [
      | inl m ↦ inl (m.0, inr m.1)
      | inr k ↦ elim (put_or_old s d i e j k) [ inl m ↦ inl (m.0, inl m.1) | inr old ↦ inr old ]
    ]

old_with_members : (d : ℕ) (is : List ℕ) (s : StateMap) (e j : ℕ) → HasMember s e j
    → HasMember (with_members d is s) e j
old_with_members d [] s e j h = h
old_with_members d (i ∷ is) s e j h =
    old_with_members d is (finite.insert s (member_location d i) (Truth true)) e j
    (old_there s d i e j h)

put_with_members : (d : ℕ) (is : List ℕ) (s : StateMap) (j : ℕ) → Mem j is
    → HasMember (with_members d is s) d j
put_with_members d [] s j m = absurd m
put_with_members d (i ∷ is) s j m = elim m [
  | inl e ↦ old_with_members d is (finite.insert s (member_location d i) (Truth true)) d j
      (subst (λ k. HasMember (finite.insert s (member_location d i) (Truth true)) d k) (sym e)
      (put_there s d i))
  | inr k ↦ put_with_members d is (finite.insert s (member_location d i) (Truth true)) j k
]

-- ---- the constants

-- how many constants the domain with this number has
constants_at : List DomainInfo → ℕ → ℕ
constants_at [] d = 0
constants_at (info ∷ infos) zero = constants_of info.kind
constants_at (info ∷ infos) (suc d) = constants_at infos d

-- a member of the bare state is a constant, or was there
IsConstant : ℕ → List DomainInfo → ℕ → ℕ → Type 0
IsConstant k infos e j = (d : ℕ) × (e ≡ k + d) × (j < constants_at infos d)

constant_or_old : (infos : List DomainInfo) (k : ℕ) (s : StateMap) (e j : ℕ)
    → HasMember (with_constants k infos s) e j
    → IsConstant k infos e j ⊎ HasMember s e j
unfolding IsConstant constants_at
constant_or_old [] k s e j h = inr h
constant_or_old (info ∷ infos) k s e j h =
    elim (constant_or_old infos (k + 1) (with_members k (range_with_len 0
    (constants_of info.kind)) s) e j h) [
      | inl c ↦ inl (suc c.0, omega (arith, c.1), c.2)
      | inr old ↦ elim (members_or_old k (range_with_len 0 (constants_of info.kind)) s e j old) [
        | inl m ↦ inl (
          0,
          omega (arith, m.0),
          omega (
            arith,
            (range_bounds 0 (constants_of info.kind) j m.1).1,
          ),
        )
        | inr there ↦ inr there
      ]
    ]

old_with_constants : (infos : List DomainInfo) (k : ℕ) (s : StateMap) (e j : ℕ) → HasMember s e j
    → HasMember (with_constants k infos s) e j
old_with_constants [] k s e j h = h
old_with_constants (info ∷ infos) k s e j h =
    old_with_constants infos (k + 1) (with_members k (range_with_len 0 (constants_of info.kind)) s)
    e j
    (old_with_members k (range_with_len 0 (constants_of info.kind)) s e j h)

constant_there : (infos : List DomainInfo) (k : ℕ) (s : StateMap) (d j : ℕ)
    → j < constants_at infos d → HasMember (with_constants k infos s) (k + d) j
unfolding constants_at
constant_there [] k s d j h = absurd (omega (arith, h))
constant_there (info ∷ infos) k s zero j h =
    old_with_constants infos (k + 1) (with_members k (range_with_len 0 (constants_of info.kind)) s)
    (k + zero) j
    (subst (λ e. HasMember (with_members k (range_with_len 0 (constants_of info.kind)) s) e j)
    (at_first k)
    (put_with_members k (range_with_len 0 (constants_of info.kind)) s j
    (range_has 0 (constants_of info.kind) j (omega arith) (omega (arith, h)))))
  where
    at_first : (n : ℕ) → n ≡ n + zero
    at_first n = omega arith
constant_there (info ∷ infos) k s (suc d) j h =
    subst (λ e. HasMember (with_constants (k + 1) infos (with_members k
    (range_with_len 0 (constants_of info.kind)) s)) e j) (at_next k d)
    (constant_there infos (k + 1) (with_members k (range_with_len 0 (constants_of info.kind)) s) d j
    h)
  where
    at_next : (n m : ℕ) → n + 1 + m ≡ n + suc m
    at_next n m = omega arith

-- a domain that has constants is abstract
kind_abstract : (d : DomainKind) (j : ℕ) → j < constants_of d → is_abstract_kind d ≡ true
kind_abstract (kind.Enum names) j h = absurd (omega (arith, h))
kind_abstract (kind.Abstract names) j h = refl
kind_abstract (kind.Subset numbers) j h = absurd (omega (arith, h))

constants_abstract : (infos : List DomainInfo) (d j : ℕ) → j < constants_at infos d
    → is_abstract infos d ≡ true
unfolding constants_at
constants_abstract [] d j h = absurd (omega (arith, h))
constants_abstract (info ∷ infos) zero j h = kind_abstract info.kind j h
constants_abstract (info ∷ infos) (suc d) j h = constants_abstract infos d j h

undef_isnt_true : Undef ≡ Truth true → ⊥
undef_isnt_true e =
    true≢false (sym (sym (ap (λ a. unwrap_or (as_truth_level a) false) out_undef) ∙ ap is_true e
    ∙ is_true-Truth))

none_at_first : (e j : ℕ) → HasMember finite.empty e j → ⊥
none_at_first e j h =
    undef_isnt_true (sym (ap (λ o. unwrap_or o Undef) (finite.get-empty location_cmp
    (member_location e j))) ∙ h)

-- ---- the values of functions change no member

SameMembers : StateMap → StateMap → Type 0
SameMembers s t = (d i : ℕ) → value_at t (member_location d i) ≡ value_at s (member_location d i)

same_itself : (s t : StateMap) → Starts s ≡ Starts t → SameMembers s t
unfolding SameMembers
same_itself s t e d i = let is : s ≡ t = cc in ap (λ z. value_at z (member_location d i)) (sym is)

fired_same : (s : StateMap) (f : ℕ) (args : List Value) (v : Value)
    → SameMembers s (fire_one s (record { location = location_of f args; value = v }))
unfolding SameMembers
fired_same s f args v d i =
    ap (λ o. unwrap_or o Undef) (get-fire_one s (record {
      location = location_of f args;
      value =
          v;
    }) (member_location d i))

module _ (p : Program) where
  value_same : (f : ℕ) (span : Span) (args : List Value) (s t : StateMap) (o : Outcome)
      → with_outcome p f span args s o ≡ Starts t → SameMembers s t
  value_same f span args s t (outcome.Value v) e = by_tests (is_undef v) (in_codomain p f v) e
    where
      by_tests : (a b : Bool) → (if a then Starts s
          else (if b then Starts (fire_one s (record { location = location_of f args; value = v }))
          else StartFaults (record { kind = OutOfCodomain; span = span }))) ≡ Starts t
          → SameMembers s t
      by_tests true b h = same_itself s t h
      by_tests false true h =
          let is : fire_one s (record { location = location_of f args; value = v }) ≡ t = cc in
          subst (SameMembers s) is (fired_same s f args v)
      by_tests false false h = absurd (cc)
  value_same f span args s t (outcome.Fault g) e = absurd (cc)

  start_of : (y : Started) (go : StateMap → Started) (t : StateMap) → on_start y go ≡ Starts t
      → (s : StateMap) × (y ≡ Starts s) × (go s ≡ Starts t)
  start_of (Starts s) go t e = (s, refl, e)
  start_of (StartFaults g) go t e = absurd (cc)

  both_same : (s t r : StateMap) → SameMembers s t → SameMembers t r → SameMembers s r
  unfolding SameMembers
  both_same s t r h k d i = k d i ∙ h d i

  each_same : (init : InitInfo) (rest : List (List Value)) (s t : StateMap)
      → at_each p init rest s ≡ Starts t → SameMembers s t
  each_same init [] s t e = same_itself s t e
  each_same init (args ∷ rest) s t e =
      let a = start_of (with_outcome p init.function init.span args s
      (eval p (bare_state p.domains) init.body args)) (at_each p init rest) t e in
      both_same s a.0 t
      (value_same init.function init.span args s a.0 (eval p
      (bare_state p.domains) init.body args) a.1)
      (each_same init rest a.0 t a.2)

  starts_same : (inits : List InitInfo) (s t : StateMap) → with_starts p inits s ≡ Starts t
      → SameMembers s t
  starts_same [] s t e = same_itself s t e
  starts_same (init ∷ inits) s t e =
      let a = start_of (with_start p init s) (with_starts p inits) t e in
      both_same s a.0 t
      (each_same init (combinations p.domains (bare_state p.domains)
      (args_of (slice_get p.functions init.function))) s a.0 a.1)
      (starts_same inits a.0 t a.2)

  -- the members of the initial state are the constants
  is_constant : (state : StateMap) → initial p ≡ Starts state → (d i : ℕ) → HasMember state d i
      → i < constants_at p.domains d
  unfolding SameMembers IsConstant
  is_constant state e d i h =
      elim (constant_or_old p.domains 0 finite.empty d i
      (sym (starts_same p.inits (bare_state p.domains) state e d i) ∙ h)) [
        | inl c ↦ subst (λ k. i < constants_at p.domains k) (at_zero c.0 d c.1) c.2
        | inr old ↦ absurd (none_at_first d i old)
      ]
    where
      at_zero : (n m : ℕ) → m ≡ 0 + n → n ≡ m
      at_zero n m is = omega (arith, is)

  has_constant : (state : StateMap) → initial p ≡ Starts state → (d i : ℕ)
      → i < constants_at p.domains d → HasMember state d i
  unfolding SameMembers
  has_constant state e d i h =
      starts_same p.inits (bare_state p.domains) state e d i
      ∙ subst (λ k. HasMember (bare_state p.domains) k i) (from_zero d)
      (constant_there p.domains 0 finite.empty d i h)
    where
      from_zero : (n : ℕ) → 0 + n ≡ n
      from_zero n = omega arith

pub starts_numbered : (p : Program) → StartsNumbered p
starts_numbered p state e d i h =
    let low = is_constant p state e d i h in
    let total = counted p state d (constants_at p.domains d) (constants_abstract p.domains d i low)
    (is_constant p state e d) (has_constant p state e d) in
    omega (arith, low, total)
