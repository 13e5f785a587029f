-- Each update that a sorted rule yields may be taken, where the values of the state and of
-- variables pass.
use Rattle.std.proofs.Common.{◌≡◌, ℕ, zero, suc, ◌+◌, ◌<◌, ◌≤◌, inl, inr, Bool, true, false, ◌||◌}
use Rattle.std.proofs.Common.{if◌then◌else◌, Option, Some, None, List, [], ◌∷◌, ◌++◌, length, map}
use Rattle.std.proofs.Common.{slice_get, refl, sym, ap, subst, ◌∙◌, arith}
use Rattle.std.specs.Prelude.{slice_index, slice_set}
use Rattle.std.specs.Option.{option_map, option_map_or}
use Rattle.std.specs.List.{AllByRecursion, range_with_len}
use Rattle.std.proofs.lemmas.Bool.Decides.{nat_tests}
use Rattle.asm_value.specs.declared.value.Value.{Value}
use Rattle.asm_value.specs.declared.domain.Domain.{Domain}
use Rattle.asm_value.specs.Domain.{fits}
use Rattle.asm_value.specs.Living.{is_true, is_abstract}
use Rattle.asm_value.specs.Ranges.{Mem}
use Rattle.asm_value.specs.State.{StateMap, is_undef, fire, overlaid}
use Rattle.asm_value.specs.UpdateSet as set
use Rattle.asm_value.specs.UpdateSet.{UpdateSet}
use Rattle.asm_value.proofs.Listing.{all_of as all_by}
use Rattle.asm_value.proofs.RangeLaws.{all_append}
use Rattle.asm_syntax.specs.declared.token.Span.{Span}
use Rattle.asm_program.specs.declared.outcome.Outcome.{Outcome}
use Rattle.asm_program.specs.declared.outcome.Outcome.TheVariants as outcome
use Rattle.asm_program.specs.declared.outcome.Parts.{Parts}
use Rattle.asm_program.specs.declared.outcome.Parts.TheVariants as parts
use Rattle.asm_program.specs.declared.trees.Term.{Term}
use Rattle.asm_program.specs.declared.trees.Rule.{Rule}
use Rattle.asm_program.specs.declared.trees.RuleCase.{RuleCase}
use Rattle.asm_program.specs.declared.trees.Rule.TheOpen.{Rule-F}
use Rattle.asm_program.specs.declared.program.FunctionInfo.{FunctionInfo}
use Rattle.asm_program.specs.declared.program.FunctionKind.{FunctionKind}
use Rattle.asm_program.specs.declared.program.FunctionKind.TheVariants as kinds
use Rattle.asm_program.specs.declared.program.Program.{Program}
use Rattle.asm_program.specs.Forms.{optional, of_rule, of_macro, rule_of}
use Rattle.asm_program.specs.Members.{combinations}
use Rattle.asm_program.specs.Initial.{in_codomain}
use Rattle.asm_program.specs.Meaning.{eval, all_of, then_parts, is_same, args_fit, function_takes}
use Rattle.asm_program.specs.Meaning.{location_of}
use Rattle.asm_program.specs.RuleLaws.{update_to}
use Rattle.asm_program.specs.TypedRules.{is_updated}
use Rattle.asm_program.specs.Yields.{Yielded, Yields, RuleMeaning, RuleCalls, on_set, on_term}
use Rattle.asm_program.specs.Yields.{on_terms, limited, nothing, update_of, union_of, clashes}
use Rattle.asm_program.specs.Yields.{one_by_one, guard_of, guarded, Found, satisfying, on_found}
use Rattle.asm_program.specs.Yields.{picked, otherwise, choice, first_case, bind_all, new_members}
use Rattle.asm_program.specs.Yields.{memberships, has_room, extended, yields_level, rule_values}
use Rattle.asm_program.specs.Yields.{yields}
use Rattle.asm_program.proofs.Choices.{found_at, got_is_mem}
use Rattle.asm_program.proofs.Counting.{range_bounds}
use Rattle.asm_program.proofs.Numbering.{numbered-taken}
use Rattle.asm_program.proofs.Outcomes.{set_of, term_of, terms_of, found_of, if_of, unless_of}
use Rattle.asm_program.proofs.Outcomes.{limited_of, limited_on}
use Rattle.asm_program.proofs.RuleParts.{case_rule, case_term, sub_rules, by_parts, level_of}
use Rattle.asm_program.proofs.RuleParts.{of_rule-out}
use Rattle.asm_soundness.specs.WellFormed.{is_dynamic}
use Rattle.asm_soundness.specs.Sorted.{members_pass, is_set_by_rules, is_sorted_term, IsSorted}
use Rattle.asm_soundness.proofs.Values.{AllPass, members_pass-Member}
use Rattle.asm_soundness.proofs.Updates.{IsOfDynamic, EachMayTake, Passes, set_passes}
use Rattle.asm_soundness.proofs.Updates.{none_taken, one_taken, both_taken, over_taken}
use Rattle.asm_soundness.proofs.Updates.{members_taken}
use Rattle.asm_soundness.proofs.SortedRules.{all_before, both_all, SortedRule, SortedTerm}
use Rattle.asm_soundness.proofs.SortedRules.{SortedLevel, sorted_level, level_names, level_terms}
use Rattle.asm_soundness.proofs.SortedRules.{level_parts, sorted_macro}
use Rattle.asm_soundness.proofs.Leading.{passed_here, few_passed, AllWithin, Leads, premise, moved}
use Rattle.asm_soundness.proofs.Leading.{stays, chained, Led, side_by_side}

-- ---- values one after another

same_values : (vs ws : List Value) → parts.Values vs ≡ parts.Values ws → vs ≡ ws
same_values vs ws e = cc

-- the first part's value and those of the others
parts_of : (o : Outcome) (rest : Parts) (vs : List Value) → then_parts o rest ≡ parts.Values vs
    → (w : Value) × (ws : List Value) × (o ≡ outcome.Value w) × (rest ≡ parts.Values ws)
    × (w ∷ ws ≡ vs)
parts_of (outcome.Value w) (parts.Values ws) vs e = (w, ws, refl, refl, same_values (w ∷ ws) vs e)
parts_of (outcome.Value w) (parts.Fault f) vs e = absurd (cc)
parts_of (outcome.Fault f) rest vs e = absurd (cc)

-- ---- an update

updated_dynamic : (k : FunctionKind) → is_updated k ≡ true → is_dynamic k ≡ true
updated_dynamic kinds.Controlled h = refl
updated_dynamic kinds.Monitored h = refl
updated_dynamic kinds.Shared h = refl
updated_dynamic kinds.Out h = refl
updated_dynamic kinds.Static h = absurd (cc)
updated_dynamic kinds.Derived h = absurd (cc)
updated_dynamic kinds.Constant h = absurd (cc)

module _ (p : Program) (has : ℕ → ℕ → Bool) where
  of_info : (f : ℕ) (vs : List Value) (v : Value) (o : Option FunctionInfo)
      → slice_get p.functions f ≡ o
      → option_map_or (λ info. is_updated info.kind) o false ≡ true
      → option_map_or (λ info. args_fit p info.args vs) o false ≡ true
      → (is_undef v || option_map_or (λ info. fits p.domains p.everyone info.result v) o false)
      ≡ true
      → AllPass has vs → members_pass has v ≡ true → IsOfDynamic p has (location_of f vs) v
  of_info f vs v None g sets takes value args_pass value_pass = absurd (cc)
  of_info f vs v (Some info) g sets takes value args_pass value_pass = record {
    function = f;
    info = info;
    declared = g;
    dynamic = updated_dynamic info.kind sets;
    subject = refl;
    arguments = takes;
    value = λ defined.
        subst (λ b. (b || fits p.domains p.everyone info.result v) ≡ true) defined value;
    args_pass = args_pass;
    value_passes = value_pass;
  }

  pub update_taken : (f : ℕ) (vs : List Value) (v : Value) → is_set_by_rules p.functions f ≡ true
      → function_takes p f vs ≡ true → (is_undef v || in_codomain p f v) ≡ true
      → AllPass has vs → members_pass has v ≡ true
      → EachMayTake p has (set.add set.empty (update_to f vs v))
  update_taken f vs v sets takes value args_pass value_pass =
      one_taken p has (update_to f vs v)
      (inl (of_info f vs v (slice_get p.functions f) refl sets takes value args_pass value_pass))

  -- what terms give passes
  abbrev pub TermsPass : Type 0
  TermsPass = (state : StateMap) → Passes p has state → (t : Term) (env : List Value) (v : Value)
      → SortedTerm p t → AllPass has env → eval p state t env ≡ outcome.Value v
      → members_pass has v ≡ true

  -- and so do members of domains
  abbrev pub RangesPass : Type 0
  RangesPass = (state : StateMap) → Passes p has state → (ranges : List Domain) (c : List Value)
      → Mem c (combinations p.domains state ranges) → AllPass has c

  -- the values of a state and of its variables pass
  abbrev pub Ready : StateMap → List Value → Type 0
  Ready state env = Passes p has state × AllPass has env

-- ---- a rule and its parts

module _ (p : Program) (pick : Option ℕ) (has : ℕ → ℕ → Bool) (terms : TermsPass p has)
    (ranges_pass : RangesPass p has) (calls : RuleCalls) where
  abbrev given : Rule → RuleMeaning
  given = of_rule (yields_level p pick) calls

  abbrev pub Kept : Rule → Type 0
  Kept r = (state : StateMap) (env : List Value) (next after : List ℕ) (u : UpdateSet)
      → given r state env next ≡ Yields u after
      → Leads p has (Ready p has state env) next after u

  -- with more variables
  more : (state : StateMap) (env c : List Value) → (Passes p has state → AllPass has c)
      → Ready p has state env → Ready p has state (env ++ c)
  more state env c h q = (q.0, all_append (λ v. members_pass has v ≡ true) env c q.1 (h q.0))

  all_pass : (state : StateMap) (ts : List Term) (env vs : List Value)
      → AllByRecursion (SortedTerm p) ts → Ready p has state env
      → all_of (map (eval p state) ts) env ≡ parts.Values vs → AllPass has vs
  all_pass state [] env vs sorted q e = subst (AllPass has) (same_values [] vs e) tt
  all_pass state (t ∷ ts) env vs sorted q e =
      let a = parts_of (eval p state t env) (all_of (map (eval p state) ts) env) vs e in
      subst (AllPass has) a.4 (
        terms state q.0 t env a.0 sorted.0 q.1 a.2,
        all_pass state ts env a.1 sorted.1 q a.3,
      )

  nothing_leads : (Q : Type 0) (next after : List ℕ) (u : UpdateSet)
      → nothing next ≡ Yields u after → Leads p has Q next after u
  nothing_leads Q next after u e =
      stays p has Q set.empty u next after e (λ q. none_taken p has)

  -- ---- side by side

  rules_led : (state : StateMap) (env : List Value) (rules : List Rule)
      → AllByRecursion Kept rules
      → AllByRecursion (Led p has (Ready p has state env))
      (map (λ m. m state env) (map given rules))
  rules_led state env [] kept = tt
  rules_led state env (r ∷ rules) kept =
      (λ next after u e. kept.0 state env next after u e, rules_led state env rules kept.1)

  unioned : (state : StateMap) (env : List Value) (span : Span) (rs : List (List ℕ → Yielded))
      → AllByRecursion (Led p has (Ready p has state env)) rs
      → (next after : List ℕ) (u : UpdateSet) → union_of span set.empty rs next ≡ Yields u after
      → Leads p has (Ready p has state env) next after u
  unioned state env span rs led next after u e =
      premise p has (Ready p has state env × EachMayTake p has set.empty) (Ready p has state env)
      next after u (λ q. (q, none_taken p has))
      (side_by_side p has (Ready p has state env) span rs led set.empty u next after e)

  -- ---- one after the other

  abbrev goes_on : Span → StateMap → List Value → Rule → List Rule → UpdateSet → List ℕ → Yielded
  goes_on span state env r rules sofar next =
      on_set (given r (fire state sofar) env next) (λ updates later.
      on_set (limited span (overlaid sofar updates) later) (λ all last.
      one_by_one span all (map given rules) state env last))

  abbrev After : StateMap → List Value → UpdateSet → Type 0
  After state env sofar = Ready p has state env × EachMayTake p has sofar

  in_turns : (span : Span) (state : StateMap) (env : List Value) (rules : List Rule)
      → AllByRecursion Kept rules → (sofar u : UpdateSet) (next after : List ℕ)
      → one_by_one span sofar (map given rules) state env next ≡ Yields u after
      → Leads p has (After state env sofar) next after u
  in_turns span state env [] kept sofar u next after e =
      stays p has (After state env sofar) sofar u next after e (λ q. q.1)
  in_turns span state env (r ∷ rules) kept sofar u next after e =
      by_test (clashes sofar) e (λ s l h. in_turns span state env rules kept.1 s u l after h)
    where
      by_test : (b : Bool) → (if b then Yields sofar next
          else goes_on span state env r rules sofar next) ≡ Yields u after
          → ((s : UpdateSet) (l : List ℕ)
          → one_by_one span s (map given rules) state env l ≡ Yields u after
          → Leads p has (After state env s) l after u)
          → Leads p has (After state env sofar) next after u
      by_test true h later =
          stays p has (After state env sofar) sofar u next after h (λ q. q.1)
      by_test false h later =
          let a = set_of u after (given r (fire state sofar) env next) _ h in
          let b = limited_on u after span (overlaid sofar a.0) a.1
          (λ all last. one_by_one span all (map given rules) state env last) a.3 in
          let first = kept.0 (fire state sofar) env next a.1 a.0 a.2 in
          let rest = later (overlaid sofar a.0) a.1 b in
          chained p has (Ready p has (fire state sofar) env) (After state env sofar)
          (overlaid sofar a.0) a.0 u next a.1 after first
          (premise p has (After state env (overlaid sofar a.0))
          (After state env sofar × EachMayTake p has (overlaid sofar a.0)) a.1 after u
          (λ q. (q.0.0, q.1)) rest)
          (λ q. (set_passes p has state sofar q.0.0 q.1, q.0.1))
          (λ q v. over_taken p has sofar a.0 q.1 v)

  -- ---- the other rule, if there is one

  other_rule : (state : StateMap) (env : List Value) (o : Option Rule)
      → AllByRecursion Kept (optional o) → (next after : List ℕ) (u : UpdateSet)
      → otherwise (option_map given o) state env next ≡ Yields u after
      → Leads p has (Ready p has state env) next after u
  other_rule state env None kept next after u e =
      nothing_leads (Ready p has state env) next after u e
  other_rule state env (Some r) kept next after u e = kept.0 state env next after u e

  branch_by : (state : StateMap) (env : List Value) (first : Rule) (other : Option Rule)
      (guard : Term) → Kept first → AllByRecursion Kept (optional other)
      → (next after : List ℕ) (u : UpdateSet)
      → on_term (eval p state guard env) (λ v. if is_true v then given first state env next
      else otherwise (option_map given other) state env next) ≡ Yields u after
      → Leads p has (Ready p has state env) next after u
  branch_by state env first other guard kept others next after u e =
      let v = term_of u after (eval p state guard env) _ e in
      by_truth (is_true v.0) v.2
    where
      by_truth : (b : Bool) → (if b then given first state env next
          else otherwise (option_map given other) state env next) ≡ Yields u after
          → Leads p has (Ready p has state env) next after u
      by_truth true h = kept state env next after u h
      by_truth false h = other_rule state env other others next after u h

  -- ---- combinations

  -- the body with one combination
  with_combination : (state : StateMap) (env c : List Value) (body : Rule) → Kept body
      → (Passes p has state → AllPass has c)
      → Led p has (Ready p has state env) (given body state (env ++ c))
  with_combination state env c body kept pass next after u e =
      premise p has (Ready p has state (env ++ c)) (Ready p has state env) next after u
      (more state env c pass) (kept state (env ++ c) next after u e)

  guarded_led : (state : StateMap) (env c : List Value) (guard : Option Term) (body : Rule)
      → Kept body → (Passes p has state → AllPass has c)
      → Led p has (Ready p has state env)
      (guarded (guard_of p state guard (env ++ c)) (given body state (env ++ c)))
  guarded_led state env c guard body kept pass next after u e =
      let g = term_of u after (guard_of p state guard (env ++ c)) _ e in
      by_truth (is_true g.0) g.2
    where
      by_truth : (b : Bool) → (if b then given body state (env ++ c) next else nothing next)
          ≡ Yields u after → Leads p has (Ready p has state env) next after u
      by_truth true h = with_combination state env c body kept pass next after u h
      by_truth false h = nothing_leads (Ready p has state env) next after u h

  each_led : (state : StateMap) (env : List Value) (guard : Option Term) (body : Rule)
      → Kept body → (cs : List (List Value))
      → AllByRecursion (λ c. Passes p has state → AllPass has c) cs
      → AllByRecursion (Led p has (Ready p has state env))
      (map (λ c. guarded (guard_of p state guard (env ++ c)) (given body state (env ++ c))) cs)
  each_led state env guard body kept [] pass = tt
  each_led state env guard body kept (c ∷ cs) pass = (
    λ next after u e. guarded_led state env c guard body kept pass.0 next after u e,
    each_led state env guard body kept cs pass.1,
  )

  all_ranges : (state : StateMap) (ranges : List Domain)
      → AllByRecursion (λ c. Passes p has state → AllPass has c)
      (combinations p.domains state ranges)
  all_ranges state ranges =
      all_by (λ c. Passes p has state → AllPass has c) (combinations p.domains state ranges)
      (λ c m ok. ranges_pass state ok ranges c m)

  -- ---- choices

  abbrev guard_at : StateMap → List Value → Option Term → List Value → Outcome
  guard_at state env guard c = guard_of p state guard (env ++ c)

  chosen : (state : StateMap) (env : List Value) (body : Rule) (ranges : List Domain)
      (guard : Option Term) (other : Option Rule) (place : ℕ)
      → Kept body → AllByRecursion Kept (optional other)
      → (next after : List ℕ) (u : UpdateSet)
      → on_found (satisfying (guard_at state env guard) (combinations p.domains state ranges))
      (choice pick place (λ c. given body state (env ++ c) next)
      (otherwise (option_map given other) state env next))
      ≡ Yields u after
      → Leads p has (Ready p has state env) next after u
  chosen state env body ranges guard other place kept others next after u e =
      let cs = combinations p.domains state ranges in
      let f = found_of u after (satisfying (guard_at state env guard) cs) _ e in
      by_pick f.0 f.1 (slice_get f.0 (picked pick place (length f.0))) refl f.2
    where
      by_pick : (fs : List (List Value)) → satisfying (guard_at state env guard)
          (combinations p.domains state ranges) ≡ Found fs
          → (o : Option (List Value)) → slice_get fs (picked pick place (length fs)) ≡ o
          → option_map_or (λ c. given body state (env ++ c) next) o
          (otherwise (option_map given other) state env next) ≡ Yields u after
          → Leads p has (Ready p has state env) next after u
      by_pick fs found (Some c) got h =
          let at = found_at (guard_at state env guard) (combinations p.domains state ranges) fs
          found c (got_is_mem fs _ c got) in
          with_combination state env c body kept (λ ok. ranges_pass state ok ranges c at.0)
          next after u h
      by_pick fs found None got h = other_rule state env other others next after u h

  -- ---- variables

  record OfBinds (state : StateMap) (env : List Value) (go : List Value → Yielded)
      (u : UpdateSet) (after : List ℕ) : Type 0 where
    pub inner : List Value
    pub goes : go inner ≡ Yields u after
    pub ready : Ready p has state env → Ready p has state inner

  bound : (state : StateMap) (ts : List Term) (env : List Value)
      → AllByRecursion (SortedTerm p) ts → (go : List Value → Yielded)
      (u : UpdateSet) (after : List ℕ) → bind_all (eval p state) ts env go ≡ Yields u after
      → OfBinds state env go u after
  bound state [] env sorted go u after e = record { inner = env; goes = e; ready = λ q. q }
  bound state (t ∷ ts) env sorted go u after e =
      let v = term_of u after (eval p state t env) _ e in
      let rest = bound state ts (env ++ v.0 ∷ []) sorted.1 go u after v.2 in
      record {
        inner = rest.inner;
        goes = rest.goes;
        ready = λ q. rest.ready (more state env (v.0 ∷ [])
            (λ ok. (terms state ok t env v.0 sorted.0 q.1 v.1, tt)) q);
      }

  let_by : (state : StateMap) (env : List Value) (values : List Term) (body : Rule)
      → AllByRecursion (SortedTerm p) values → Kept body
      → (next after : List ℕ) (u : UpdateSet)
      → bind_all (eval p state) values env (λ inner. given body state inner next)
      ≡ Yields u after
      → Leads p has (Ready p has state env) next after u
  let_by state env values body sorted kept next after u e =
      let b = bound state values env sorted (λ inner. given body state inner next) u after e in
      premise p has (Ready p has state b.inner) (Ready p has state env) next after u b.ready
      (kept state b.inner next after u b.goes)

  -- ---- cases

  in_cases : (state : StateMap) (env : List Value) (v : Value) (cases : List RuleCase)
      (o : Option Rule) → AllByRecursion Kept (map case_rule cases ++ optional o)
      → (next after : List ℕ) (u : UpdateSet)
      → first_case p v (map (λ c. (case_term c, given (case_rule c))) cases)
      (option_map given o) state env next ≡ Yields u after
      → Leads p has (Ready p has state env) next after u
  in_cases state env v [] o kept next after u e = other_rule state env o kept next after u e
  in_cases state env v (c ∷ cases) o kept next after u e =
      let w = term_of u after (eval p state (case_term c) env) _ e in
      by_test (is_same v w.0) w.2 (λ h. in_cases state env v cases o kept.1 next after u h)
    where
      by_test : (b : Bool) → (if b then given (case_rule c) state env next
          else first_case p v (map (λ c. (case_term c, given (case_rule c))) cases)
          (option_map given o) state env next) ≡ Yields u after
          → (first_case p v (map (λ c. (case_term c, given (case_rule c))) cases)
          (option_map given o) state env next ≡ Yields u after
          → Leads p has (Ready p has state env) next after u)
          → Leads p has (Ready p has state env) next after u
      by_test true h go = kept.0 state env next after u h
      by_test false h go = go h

  switched_by : (state : StateMap) (env : List Value) (value : Term) (cases : List RuleCase)
      (other : Option Rule) → AllByRecursion Kept (map case_rule cases ++ optional other)
      → (next after : List ℕ) (u : UpdateSet)
      → on_term (eval p state value env) (λ v. first_case p v
      (map (λ c. (case_term c, given (case_rule c))) cases) (option_map given other) state env next)
      ≡ Yields u after
      → Leads p has (Ready p has state env) next after u
  switched_by state env value cases other kept next after u e =
      let v = term_of u after (eval p state value env) _ e in
      in_cases state env v.0 cases other kept next after u v.2

  -- ---- new members

  abbrev taken : List ℕ → ℕ → ℕ → List ℕ
  taken next d count = range_with_len (slice_index next d) count

  room_is : (next : List ℕ) (d count : ℕ) → has_room next d count ≡ true
      → (d < length next) × (slice_index next d + count ≤ 256)
  room_is next d count h = (grind (arith, nat_tests, h), grind (arith, nat_tests, h))

  new_pass : (d : ℕ) (indexes : List ℕ) → ((i : ℕ) → Mem i indexes → has d i ≡ true)
      → AllPass has (new_members d indexes)
  new_pass d [] all = tt
  new_pass d (i ∷ indexes) all = (
    members_pass-Member has d i ∙ all i (inl refl),
    new_pass d indexes (λ j m. all j (inr m)),
  )

  taken_pass : (next later : List ℕ) (d count : ℕ) → is_abstract p.domains d ≡ true
      → slice_index next d + count ≤ slice_index later d → AllWithin p has later
      → (i : ℕ) → Mem i (taken next d count) → has d i ≡ true
  taken_pass next later d count is low within i m =
      let bounds = range_bounds (slice_index next d) count i m in
      within d i is (omega (arith, bounds.1, low))

  extends_by : (state : StateMap) (env : List Value) (body : Rule) (d count : ℕ) (span : Span)
      → is_abstract p.domains d ≡ true → Kept body
      → (next after : List ℕ) (u : UpdateSet)
      → extended d count span (given body) state env next ≡ Yields u after
      → Leads p has (Ready p has state env) next after u
  extends_by state env body d count span is kept next after u e =
      let test = unless_of u after (has_room next d count) _ _ e in
      let room = room_is next d count test.0 in
      let indexes = taken next d count in
      let passed = slice_set next d (slice_index next d + count) in
      let numbers = numbered-taken next d count room.0 in
      let a = set_of u after (given body state (env ++ new_members d indexes) passed) _ test.1 in
      let inner = kept state (env ++ new_members d indexes) passed a.1 a.0 a.2 in
      let whole = limited_of u after span (set.union (memberships d indexes) a.0) a.1 a.3 in
      let low : slice_index next d + count ≤ slice_index a.1 d =
      omega (arith, passed_here next d count room.0, inner.rises d) in
      moved p has (Ready p has state env) (set.union (memberships d indexes) a.0) u next a.1 after
      whole (record {
        rises = λ k. omega (arith, numbers.rises k, inner.rises k);
        few = λ h. inner.few (few_passed next d count room.0 room.1 h);
        takes = λ w q.
            let all = taken_pass next a.1 d count is low w in
            both_taken p has (memberships d indexes) a.0
            (members_taken p has d indexes is all)
            (inner.takes w (more state env (new_members d indexes)
            (λ ok. new_pass d indexes all) q));
      })

  -- ---- one level

  -- what a called macro rule yields may be taken
  abbrev pub CallsKept : Type 0
  CallsKept = (m : ℕ) (state : StateMap) (vs : List Value) (next after : List ℕ) (u : UpdateSet)
      → calls m state vs next ≡ Yields u after → Leads p has (Ready p has state vs) next after u

  called_by : CallsKept → (state : StateMap) (env : List Value) (m : ℕ) (args : List Term)
      → AllByRecursion (SortedTerm p) args → (next after : List ℕ) (u : UpdateSet)
      → on_terms (all_of (map (eval p state) args) env) (λ vs. calls m state vs next)
      ≡ Yields u after
      → Leads p has (Ready p has state env) next after u
  called_by called state env m args sorted next after u e =
      let vs = terms_of u after (all_of (map (eval p state) args) env) _ e in
      premise p has (Ready p has state vs.0) (Ready p has state env) next after u
      (λ q. (q.0, all_pass state args env vs.0 sorted q vs.1))
      (called m state vs.0 next after u vs.2)

  updated_by : (state : StateMap) (env : List Value) (f : ℕ) (args : List Term) (value : Term)
      (span : Span) → is_set_by_rules p.functions f ≡ true
      → AllByRecursion (SortedTerm p) (args ++ value ∷ [])
      → (next after : List ℕ) (u : UpdateSet)
      → on_terms (all_of (map (eval p state) args) env) (λ vs.
      on_term (eval p state value env) (λ v. update_of p f span vs v next)) ≡ Yields u after
      → Leads p has (Ready p has state env) next after u
  updated_by state env f args value span is sorted next after u e =
      let vs = terms_of u after (all_of (map (eval p state) args) env) _ e in
      let v = term_of u after (eval p state value env) _ vs.2 in
      let takes = unless_of u after (function_takes p f vs.0) _ _ v.2 in
      let whole = if_of u after (is_undef v.0 || in_codomain p f v.0) _ _ takes.1 in
      let split = all_before (is_sorted_term p.domains) args value sorted in
      stays p has (Ready p has state env) (set.add set.empty (update_to f vs.0 v.0)) u next after
      whole.1
      (λ q. update_taken p has f vs.0 v.0 is takes.0 whole.0
      (all_pass state args env vs.0 split.0 q vs.1)
      (terms state q.0 value env v.0 split.1 q.1 v.1))

  level_by : CallsKept → (a : Rule-F Rule RuleCase) → SortedLevel p a
      → AllByRecursion Kept (sub_rules a)
      → (state : StateMap) (env : List Value) (next after : List ℕ) (u : UpdateSet)
      → level_of (yields_level p pick) calls a state env next ≡ Yields u after
      → Leads p has (Ready p has state env) next after u
  level_by called Rule-F.Skip sorted kept state env next after u e =
      nothing_leads (Ready p has state env) next after u e
  level_by called (Rule-F.Call m args) sorted kept state env next after u e =
      called_by called state env m args (level_terms p (Rule-F.Call m args) sorted) next after u e
  level_by called (Rule-F.Update f args value span) sorted kept state env next after u e =
      updated_by state env f args value span
      (level_names p (Rule-F.Update f args value span) sorted)
      (level_terms p (Rule-F.Update f args value span) sorted) next after u e
  level_by called (Rule-F.Par rules span) sorted kept state env next after u e =
      unioned state env span (map (λ m. m state env) (map given rules))
      (rules_led state env rules kept) next after u e
  level_by called (Rule-F.Seq rules span) sorted kept state env next after u e =
      premise p has (After state env set.empty) (Ready p has state env) next after u
      (λ q. (q, none_taken p has))
      (in_turns span state env rules kept set.empty u next after e)
  level_by called (Rule-F.If guard first None) sorted kept state env next after u e =
      branch_by state env first None guard kept.0 tt next after u e
  level_by called (Rule-F.If guard first (Some other)) sorted kept state env next after u e =
      branch_by state env first (Some other) guard kept.0 kept.1 next after u e
  level_by called (Rule-F.Forall ranges guard body span) sorted kept state env next after u e =
      unioned state env span
      (map (λ c. guarded (guard_of p state guard (env ++ c)) (given body state (env ++ c)))
      (combinations p.domains state ranges))
      (each_led state env guard body kept.0 (combinations p.domains state ranges)
      (all_ranges state ranges)) next after u e
  level_by called (Rule-F.Choose ranges guard body None place) sorted kept state env next after u
      e =
      chosen state env body ranges guard None place kept.0 tt next after u e
  level_by called (Rule-F.Choose ranges guard body (Some other) place) sorted kept state env next
      after u e =
      chosen state env body ranges guard (Some other) place kept.0 kept.1 next after u e
  level_by called (Rule-F.Let values body) sorted kept state env next after u e =
      let_by state env values body (level_terms p (Rule-F.Let values body) sorted) kept.0 next after
      u e
  level_by called (Rule-F.Switch value cases None) sorted kept state env next after u e =
      switched_by state env value cases None kept next after u e
  level_by called (Rule-F.Switch value cases (Some other)) sorted kept state env next after u e =
      switched_by state env value cases (Some other) kept next after u e
  level_by called (Rule-F.Extend d count body span) sorted kept state env next after u e =
      extends_by state env body d count span
      (level_names p (Rule-F.Extend d count body span) sorted) kept.0 next after u e

  pub kept_by : CallsKept → (r : Rule) → SortedRule p r → Kept r
  kept_by called =
      by_parts (λ r. SortedRule p r → Kept r) (λ r a is given_parts sorted state env next after u e.
      let level = sorted_level p r a is sorted in
      level_by called a level
      (both_all (SortedRule p) Kept (sub_rules a) given_parts (level_parts p a level))
      state env next after u
      (sym (ap (λ m. m state env next) (of_rule-out (yields_level p pick) calls r a is)) ∙ e))

-- ---- macro rules, followed so deep

module _ (p : Program) (pick : Option ℕ) (has : ℕ → ℕ → Bool) (terms : TermsPass p has)
    (ranges_pass : RangesPass p has) (is : IsSorted p) where
  value_zero : (m : ℕ) (state : StateMap) (vs : List Value) (next : List ℕ)
      → rule_values p pick zero m state vs next ≡ nothing next
  unfolding of_macro rule_values
  value_zero m state vs next = refl

  value_body : (n m : ℕ) (body : Rule) (state : StateMap) (vs : List Value) (next : List ℕ)
      → rule_of p.macros m ≡ Some body
      → rule_values p pick (suc n) m state vs next ≡ of_rule (yields_level p pick)
      (rule_values p pick n) body state vs next
  unfolding of_macro rule_values
  value_body n m body state vs next e =
      ap (λ o. (option_map_or (of_rule (yields_level p pick) (rule_values p pick n)) o
      (λ s v k. nothing k)) state vs next) e

  value_none : (n m : ℕ) → rule_of p.macros m ≡ None → (state : StateMap) (vs : List Value)
      (next : List ℕ)
      → rule_values p pick (suc n) m state vs next ≡ nothing next
  unfolding of_macro rule_values
  value_none n m e state vs next =
      ap (λ o. (option_map_or (of_rule (yields_level p pick) (rule_values p pick n)) o
      (λ s v k. nothing k)) state vs next) e

  followed : (n : ℕ) → CallsKept p pick has terms ranges_pass (rule_values p pick n)
  followed zero m state vs next after u e =
      stays p has (Ready p has state vs) set.empty u next after
      (sym (value_zero m state vs next) ∙ e) (λ q. none_taken p has)
  followed (suc n) m state vs next after u e =
      by_body (rule_of p.macros m) refl (followed n)
    where
      by_body : (o : Option Rule) → rule_of p.macros m ≡ o
          → CallsKept p pick has terms ranges_pass (rule_values p pick n)
          → Leads p has (Ready p has state vs) next after u
      by_body None none called =
          stays p has (Ready p has state vs) set.empty u next after
          (sym (value_none n m none state vs next) ∙ e) (λ q. none_taken p has)
      by_body (Some body) found called =
          kept_by p pick has terms ranges_pass (rule_values p pick n) called body
          (sorted_macro p is m body found) state vs next after u
          (sym (value_body n m body state vs next found) ∙ e)

  pub yields_leads : (r : Rule) → SortedRule p r → (state : StateMap) (env : List Value)
      (next after : List ℕ) (u : UpdateSet) → yields p pick r state env next ≡ Yields u after
      → Leads p has (Ready p has state env) next after u
  unfolding yields
  yields_leads r sorted =
      kept_by p pick has terms ranges_pass (rule_values p pick 512) (followed 512) r sorted
