-- What a term gives is made of members that it names, of those in the state and of those in the
-- values of its variables.
use Rattle.std.proofs.Common.{◌≡◌, ℕ, zero, suc, Bool, true, false, ◌&&◌, cond, Option, Some, None}
use Rattle.std.proofs.Common.{unwrap_or, List, [], ◌∷◌, ◌++◌, map, refl, sym, ap, subst, ◌∙◌, rules}
use Rattle.std.specs.List.{list_all}
use Rattle.std.specs.Option.{option_map_or}
use Rattle.std.specs.FinMap as finite
use Rattle.asm_value.specs.declared.value.Value.{Value}
use Rattle.asm_value.specs.declared.value.Value.TheVariants.{Undef}
use Rattle.asm_value.specs.declared.domain.DomainInfo.{DomainInfo}
use Rattle.asm_value.specs.declared.location.Location.{Location}
use Rattle.asm_value.specs.Living.{is_true, live_of}
use Rattle.asm_value.specs.Members.{live_indexes}
use Rattle.asm_value.specs.Ranges.{Mem}
use Rattle.asm_value.specs.State.{StateMap, value_at}
use Rattle.asm_value.specs.UpdateSet.{UpdateSet}
use Rattle.asm_value.proofs.Listing.{first_true, second_true}
use Rattle.asm_value.proofs.RangeLaws.{all_append}
use Rattle.asm_syntax.specs.declared.token.Span.{Span}
use Rattle.asm_operations.specs.declared.applied.Applied.{Applied}
use Rattle.asm_operations.specs.declared.applied.Applied.TheVariants as applied
use Rattle.asm_operations.specs.Operations.{apply, tuple_of, sequence_of, set_of, interval_of}
use Rattle.asm_program.specs.declared.outcome.Outcome.{Outcome}
use Rattle.asm_program.specs.declared.outcome.Outcome.TheVariants.{Value as Gives, Fault as Faults}
use Rattle.asm_program.specs.declared.outcome.Parts.{Parts}
use Rattle.asm_program.specs.declared.outcome.Parts.TheVariants.{Values, Fault as Stops}
use Rattle.asm_program.specs.declared.trees.Term.{Term}
use Rattle.asm_program.specs.declared.trees.Case.{Case}
use Rattle.asm_program.specs.declared.trees.Term.TheOpen.{Term-F, Case-F}
use Rattle.asm_program.specs.declared.trees.Term.TheFolds.{ind-Term, map-Term, map-Case}
use Rattle.asm_program.specs.declared.trees.Term.TheViews.{out-Term, out-Case, roll-Term, roll-Case}
use Rattle.asm_program.specs.declared.trees.Term.TheViews.{the_lemmas}
use Rattle.asm_program.specs.declared.program.FunctionInfo.{FunctionInfo}
use Rattle.asm_program.specs.declared.program.Program.{Program}
use Rattle.asm_program.specs.CallLaws.{of_case, mapped, of_term-out, of_case-out}
use Rattle.asm_program.specs.Forms.{optional, of_cases, body_of, of_term, of_function}
use Rattle.asm_program.specs.Meaning.{Meaning, Calls, on_value, then_parts, all_of, on_parts}
use Rattle.asm_program.specs.Meaning.{bind_all, truth, undefined, is_false, is_same, of_applied}
use Rattle.asm_program.specs.Meaning.{conjunction, disjunction, implication, for_all, for_some}
use Rattle.asm_program.specs.Meaning.{for_one, otherwise, first_case, function_takes, location_of}
use Rattle.asm_program.specs.Meaning.{read, over, eval_level, values, eval}
use Rattle.asm_program.specs.Yields as rule
use Rattle.asm_program.specs.Yields.{Yielded, Yields}
use Rattle.asm_program.proofs.Outcomes.{term_of}
use Rattle.asm_soundness.specs.Sorted.{members_pass, is_named, term_level, is_sorted_term}
use Rattle.asm_soundness.specs.Sorted.{is_sorted_body}
use Rattle.asm_soundness.proofs.Values.{AllPass, members_pass-Undef, members_pass-Truth}
use Rattle.asm_soundness.proofs.Values.{item_passes, chosen_passes, passes_more}
use Rattle.asm_soundness.proofs.Operations.{AppliedPasses, apply_passes, tuple_of_passes}
use Rattle.asm_soundness.proofs.Operations.{sequence_of_passes, set_of_passes, interval_of_passes}

out_roll : (a : Term-F Term Case) → out-Term (roll-Term a) ≡ a
out_roll a = search (rules, the_lemmas)

out_roll_case : (a : Case-F Term Case) → out-Case (roll-Case a) ≡ a
out_roll_case a = search (rules, the_lemmas)

-- A test that each member passes which a program names, or which is in a domain or a value of a
-- state.
pub record Covers (p : Program) (state : StateMap) (has : ℕ → ℕ → Bool) : Type 0 where
  pub named : (d i : ℕ) → is_named p.domains d i ≡ true → has d i ≡ true
  pub stored : (l : Location) (v : Value) → finite.get state l ≡ Some v → members_pass has v ≡ true
  pub there : (d i : ℕ) → Mem i (live_indexes (live_of state p.domains) d) → has d i ≡ true

-- ---- what is given, in parts

module _ (has : ℕ → ℕ → Bool) where
  -- the members in the value pass, where one is given
  abbrev pub OutcomePasses : Outcome → Type 0
  OutcomePasses (Gives v) = members_pass has v ≡ true
  OutcomePasses (Faults e) = Unit {0}

  abbrev pub PartsPass : Parts → Type 0
  PartsPass (Values vs) = AllPass has vs
  PartsPass (Stops e) = Unit {0}

  -- where those in the values of the variables do
  abbrev pub MeaningPasses : Meaning → Type 0
  MeaningPasses m = (env : List Value) → AllPass has env → OutcomePasses (m env)

  pub chosen_outcome : (b : Bool) (x y : Outcome) → OutcomePasses x → OutcomePasses y
      → OutcomePasses (cond b x y)
  chosen_outcome true x y h k = h
  chosen_outcome false x y h k = k

  truth_passes : (b : Bool) → OutcomePasses (truth b)
  truth_passes b = members_pass-Truth has b

  undef_passes : OutcomePasses undefined
  undef_passes = members_pass-Undef has

  -- after a value
  on_passing : (o : Outcome) (go : Value → Outcome) → OutcomePasses o
      → ((v : Value) → members_pass has v ≡ true → OutcomePasses (go v))
      → OutcomePasses (on_value o go)
  on_passing (Gives v) go h k = k v h
  on_passing (Faults e) go h k = tt

  on_any : (o : Outcome) (go : Value → Outcome) → ((v : Value) → OutcomePasses (go v))
      → OutcomePasses (on_value o go)
  on_any (Gives v) go k = k v
  on_any (Faults e) go k = tt

  on_all : (o : Parts) (go : List Value → Outcome) → PartsPass o
      → ((vs : List Value) → AllPass has vs → OutcomePasses (go vs))
      → OutcomePasses (on_parts o go)
  on_all (Values vs) go h k = k vs h
  on_all (Stops e) go h k = tt

  then_pass : (o : Outcome) (rest : Parts) → OutcomePasses o → PartsPass rest
      → PartsPass (then_parts o rest)
  then_pass (Gives v) (Values vs) h k = (h, k)
  then_pass (Gives v) (Stops e) h k = tt
  then_pass (Faults e) rest h k = tt

  applied_passes : (span : Span) (a : Applied) → AppliedPasses has a
      → OutcomePasses (of_applied span a)
  applied_passes span (applied.Value v) h = h
  applied_passes span applied.Overflow h = tt
  applied_passes span applied.TooLarge h = tt

  conjunction_passes : (v w : Value) → OutcomePasses (conjunction v w)
  conjunction_passes v w =
      chosen_outcome (is_false w) _ _ (truth_passes false)
      (chosen_outcome (is_true v && is_true w) _ _ (truth_passes true) undef_passes)

  disjunction_passes : (v w : Value) → OutcomePasses (disjunction v w)
  disjunction_passes v w =
      chosen_outcome (is_true w) _ _ (truth_passes true)
      (chosen_outcome (is_false v && is_false w) _ _ (truth_passes false) undef_passes)

  implication_passes : (v w : Value) → OutcomePasses (implication v w)
  implication_passes v w =
      chosen_outcome (is_true w) _ _ (truth_passes true)
      (chosen_outcome (is_true v && is_false w) _ _ (truth_passes false) undef_passes)

  for_all_passes : (cs : List (List Value)) (body : List Value → Outcome)
      → OutcomePasses (for_all cs body)
  for_all_passes [] body = truth_passes true
  for_all_passes (c ∷ cs) body =
      on_any (body c) (λ v. cond (is_true v) (for_all cs body) (truth false))
      (λ v. chosen_outcome (is_true v) _ _ (for_all_passes cs body) (truth_passes false))

  for_some_passes : (cs : List (List Value)) (body : List Value → Outcome)
      → OutcomePasses (for_some cs body)
  for_some_passes [] body = truth_passes false
  for_some_passes (c ∷ cs) body =
      on_any (body c) (λ v. cond (is_true v) (truth true) (for_some cs body))
      (λ v. chosen_outcome (is_true v) _ _ (truth_passes true) (for_some_passes cs body))

  for_one_passes : (found : Bool) (cs : List (List Value)) (body : List Value → Outcome)
      → OutcomePasses (for_one found cs body)
  for_one_passes found [] body = truth_passes found
  for_one_passes found (c ∷ cs) body =
      on_any (body c) (λ v. cond (is_true v) (cond found (truth false) (for_one true cs body))
      (for_one found cs body))
      (λ v. chosen_outcome (is_true v) _ _
      (chosen_outcome found _ _ (truth_passes false) (for_one_passes true cs body))
      (for_one_passes found cs body))

-- ---- values of the state

module _ (p : Program) (state : StateMap) (has : ℕ → ℕ → Bool) (covers : Covers p state has) where
  of_location : (l : Location) (o : Option Value) → finite.get state l ≡ o
      → members_pass has (unwrap_or o Undef) ≡ true
  of_location l None e = members_pass-Undef has
  of_location l (Some v) e = covers.stored l v e

  pub value_at_passes : (l : Location) → members_pass has (value_at state l) ≡ true
  value_at_passes l = of_location l (finite.get state l) refl

  pub read_passes : (f : ℕ) (vs : List Value) → members_pass has (read p state f vs) ≡ true
  read_passes f vs =
      chosen_passes has (function_takes p f vs) (value_at state (location_of f vs)) Undef
      (value_at_passes (location_of f vs)) (members_pass-Undef has)

-- ---- terms

-- where calls give values that pass
module _ (p : Program) (state : StateMap) (has : ℕ → ℕ → Bool) (covers : Covers p state has)
    (calls : Calls) (called : (f : ℕ) → MeaningPasses has (calls f)) where
  abbrev meaning : Term → Meaning
  meaning = of_term (eval_level p state) calls

  abbrev case_meaning : Case → Meaning × Meaning
  case_meaning = of_case (eval_level p state) calls

  abbrev sorted : Term → Bool
  sorted = of_term (term_level p.domains) (λ f. true)

  abbrev case_sorted : Case → Bool × Bool
  case_sorted = of_case (term_level p.domains) (λ f. true)

  abbrev Keeps : Term → Type 0
  Keeps t = sorted t ≡ true → MeaningPasses has (meaning t)

  -- of a case the first term is compared, and gives nothing
  abbrev KeepsCase : Case → Type 0
  KeepsCase c = (case_sorted c).1 ≡ true → MeaningPasses has (case_meaning c).1

  abbrev Held : Type 0
  Held = (t : Term) × Keeps t

  abbrev HeldCase : Type 0
  HeldCase = (c : Case) × KeepsCase c

  abbrev terms : List Held → List Term
  terms hs = map (λ h. h.0) hs

  abbrev cases : List HeldCase → List Case
  cases hs = map (λ h. h.0) hs

  abbrev opened : Term-F Held HeldCase → Term-F Term Case
  opened y = map-Term Held HeldCase Term Case (λ h. h.0) (λ h. h.0) y

  abbrev All : List Bool → Type 0
  All bs = list_all (λ b. b) bs ≡ true

  args_pass : (hs : List Held) → All (map sorted (terms hs)) → (env : List Value)
      → AllPass has env → PartsPass has (all_of (map meaning (terms hs)) env)
  args_pass [] h env k = tt
  args_pass (t ∷ ts) h env k =
      then_pass has (meaning t.0 env) (all_of (map meaning (terms ts)) env)
      (t.1 (first_true (sorted t.0) _ h) env k)
      (args_pass ts (second_true (sorted t.0) _ h) env k)

  on_args : (hs : List Held) (go : List Value → Outcome) → All (map sorted (terms hs))
      → (env : List Value) → AllPass has env
      → ((vs : List Value) → AllPass has vs → OutcomePasses has (go vs))
      → OutcomePasses has (on_parts (all_of (map meaning (terms hs)) env) go)
  on_args hs go h env k f =
      on_all has (all_of (map meaning (terms hs)) env) go (args_pass hs h env k) f

  bound_passes : (hs : List Held) (body : Held) → All (map sorted (terms hs) ++ sorted body.0 ∷ [])
      → (env : List Value) → AllPass has env
      → OutcomePasses has (bind_all (map meaning (terms hs)) env (meaning body.0))
  bound_passes [] body h env k = body.1 (first_true (sorted body.0) _ h) env k
  bound_passes (t ∷ ts) body h env k =
      on_passing has (meaning t.0 env)
      (λ v. bind_all (map meaning (terms ts)) (env ++ v ∷ []) (meaning body.0))
      (t.1 (first_true (sorted t.0) _ h) env k)
      (λ v q. bound_passes ts body (second_true (sorted t.0) _ h) (env ++ v ∷ [])
      (all_append (λ w. members_pass has w ≡ true) env (v ∷ []) k (q, tt)))

  case_passes : (v : Value) (ks : List HeldCase) (o : Option Meaning) (others : List Bool)
      → All (of_cases (map case_sorted (cases ks)) ++ others)
      → (env : List Value) → AllPass has env
      → (All others → OutcomePasses has (otherwise o env))
      → OutcomePasses has (first_case v (map case_meaning (cases ks)) o env)
  case_passes v [] o others h env k f = f h
  case_passes v (c ∷ ks) o others h env k f =
      let rest = second_true (case_sorted c.0).0 _ h in
      on_any has ((case_meaning c.0).0 env)
      (λ w. cond (is_same v w) ((case_meaning c.0).1 env)
      (first_case v (map case_meaning (cases ks)) o env))
      (λ w. chosen_outcome has (is_same v w) _ _
      (c.1 (first_true (case_sorted c.0).1 _ rest) env k)
      (case_passes v ks o others (second_true (case_sorted c.0).1 _ rest) env k f))

  -- one level of a term
  abbrev LevelPasses : Term-F Held HeldCase → Type 0
  LevelPasses y =
      term_level p.domains (λ f. true) (mapped (term_level p.domains) (λ f. true) (opened y)) ≡ true
      → MeaningPasses has (eval_level p state calls (mapped (eval_level p state) calls (opened y)))

  level_passes : (y : Term-F Held HeldCase) → LevelPasses y
  level_passes (Term-F.Operator None args span) h env k =
      on_args args (λ vs. undefined) h env k (λ vs q. undef_passes has)
  level_passes (Term-F.Operator (Some o) args span) h env k =
      on_args args (λ vs. of_applied span (apply o vs)) h env k
      (λ vs q. applied_passes has span (apply o vs) (apply_passes has o vs q))
  level_passes (Term-F.And left right) h env k =
      on_any has (meaning left.0 env)
      (λ v. cond (is_false v) (truth false) (on_value (meaning right.0 env) (conjunction v)))
      (λ v. chosen_outcome has (is_false v) _ _ (truth_passes has false)
      (on_any has (meaning right.0 env) (conjunction v) (conjunction_passes has v)))
  level_passes (Term-F.Or left right) h env k =
      on_any has (meaning left.0 env)
      (λ v. cond (is_true v) (truth true) (on_value (meaning right.0 env) (disjunction v)))
      (λ v. chosen_outcome has (is_true v) _ _ (truth_passes has true)
      (on_any has (meaning right.0 env) (disjunction v) (disjunction_passes has v)))
  level_passes (Term-F.Implies left right) h env k =
      on_any has (meaning left.0 env)
      (λ v. cond (is_false v) (truth true) (on_value (meaning right.0 env) (implication v)))
      (λ v. chosen_outcome has (is_false v) _ _ (truth_passes has true)
      (on_any has (meaning right.0 env) (implication v) (implication_passes has v)))
  level_passes (Term-F.Constant v) h env k =
      passes_more (is_named p.domains) has covers.named v h
  level_passes (Term-F.Variable i) h env k = item_passes has env i k
  level_passes (Term-F.Read f args) h env k =
      on_args args (λ vs. Gives (read p state f vs)) h env k
      (λ vs q. read_passes p state has covers f vs)
  level_passes (Term-F.Call f args) h env k = on_args args (calls f) h env k (called f)
  level_passes (Term-F.Tuple items span) h env k =
      on_args items (λ vs. of_applied span (tuple_of vs)) h env k
      (λ vs q. applied_passes has span (tuple_of vs) (tuple_of_passes has vs q))
  level_passes (Term-F.Forall ranges body) h env k =
      for_all_passes has (over p state ranges) (λ c. meaning body.0 (env ++ c))
  level_passes (Term-F.Exist ranges body) h env k =
      for_some_passes has (over p state ranges) (λ c. meaning body.0 (env ++ c))
  level_passes (Term-F.ExistUnique ranges body) h env k =
      for_one_passes has false (over p state ranges) (λ c. meaning body.0 (env ++ c))
  level_passes (Term-F.Interval from to span) h env k =
      on_any has (meaning from.0 env)
      (λ v. on_value (meaning to.0 env) (λ w. of_applied span (interval_of v w)))
      (λ v. on_any has (meaning to.0 env) (λ w. of_applied span (interval_of v w))
      (λ w. applied_passes has span (interval_of v w) (interval_of_passes has v w)))
  level_passes (Term-F.Set items span) h env k =
      on_args items (λ vs. of_applied span (set_of vs)) h env k
      (λ vs q. applied_passes has span (set_of vs) (set_of_passes has vs q))
  level_passes (Term-F.Seq items span) h env k =
      on_args items (λ vs. of_applied span (sequence_of vs)) h env k
      (λ vs q. applied_passes has span (sequence_of vs) (sequence_of_passes has vs q))
  level_passes (Term-F.If guard first None) h env k =
      on_any has (meaning guard.0 env) (λ v. cond (is_true v) (meaning first.0 env) undefined)
      (λ v. chosen_outcome has (is_true v) _ _
      (first.1 (first_true (sorted first.0) _ (second_true (sorted guard.0) _ h)) env k)
      (undef_passes has))
  level_passes (Term-F.If guard first (Some other)) h env k =
      let rest = second_true (sorted guard.0) _ h in
      on_any has (meaning guard.0 env)
      (λ v. cond (is_true v) (meaning first.0 env) (meaning other.0 env))
      (λ v. chosen_outcome has (is_true v) _ _
      (first.1 (first_true (sorted first.0) _ rest) env k)
      (other.1 (first_true (sorted other.0) _ (second_true (sorted first.0) _ rest)) env k))
  level_passes (Term-F.Let bound body) h env k = bound_passes bound body h env k
  level_passes (Term-F.Switch v ks None) h env k =
      on_any has (meaning v.0 env) (λ w. first_case w (map case_meaning (cases ks)) None env)
      (λ w. case_passes w ks None [] (second_true (sorted v.0) _ h) env k
      (λ e. undef_passes has))
  level_passes (Term-F.Switch v ks (Some other)) h env k =
      on_any has (meaning v.0 env)
      (λ w. first_case w (map case_meaning (cases ks)) (Some (meaning other.0)) env)
      (λ w. case_passes w ks (Some (meaning other.0)) (sorted other.0 ∷ [])
      (second_true (sorted v.0) _ h) env k
      (λ e. other.1 (first_true (sorted other.0) _ e) env k))

  term_step : (x : Term-F Term Case) (y : Term-F Held HeldCase) → opened y ≡ x
      → Keeps (roll-Term x)
  term_step x y is s env k =
      let there : out-Term (roll-Term x) ≡ opened y = out_roll x ∙ sym is in
      subst (λ (m : Meaning). OutcomePasses has (m env))
      (sym (of_term-out (eval_level p state) calls (roll-Term x)
      ∙ ap (λ a. eval_level p state calls (mapped (eval_level p state) calls a)) there))
      (level_passes y
      (sym (of_term-out (term_level p.domains) (λ f. true) (roll-Term x)
      ∙ ap (λ a. term_level p.domains (λ f. true)
      (mapped (term_level p.domains) (λ f. true) a)) there) ∙ s)
      env k)

  case_step : (x : Case-F Term Case) (y : Case-F Held HeldCase)
      → map-Case Held HeldCase Term Case (λ h. h.0) (λ h. h.0) y ≡ x → KeepsCase (roll-Case x)
  case_step x y is s env k =
      let there : out-Case (roll-Case x)
      ≡ map-Case Held HeldCase Term Case (λ h. h.0) (λ h. h.0) y = out_roll_case x ∙ sym is in
      subst (λ (m : Meaning). OutcomePasses has (m env))
      (sym (ap (λ (m : Meaning × Meaning). m.1)
      (of_case-out (eval_level p state) calls (roll-Case x)
      ∙ ap (λ a. (meaning a.value, meaning a.term)) there)))
      (y.term.1
      (sym (ap (λ (b : Bool × Bool). b.1)
      (of_case-out (term_level p.domains) (λ f. true) (roll-Case x)
      ∙ ap (λ a. (sorted a.value, sorted a.term)) there)) ∙ s)
      env k)

  term_keeps : (t : Term) → Keeps t
  term_keeps t = ind-Term Keeps KeepsCase term_step case_step t

-- ---- functions that are defined by terms

from_body : {X : Type 0} (P : X → Type 0) (o : Option Term) (g : Term → X) (none : X) → P none
    → ((t : Term) → o ≡ Some t → P (g t)) → P (option_map_or g o none)
from_body P None g none n s = n
from_body P (Some t) g none n s = s t refl

pub body_sorted : (domains : List DomainInfo) (functions : List FunctionInfo) (f : ℕ) (body : Term)
    → list_all (is_sorted_body domains) functions ≡ true → body_of functions f ≡ Some body
    → is_sorted_term domains body ≡ true
body_sorted domains [] f body h e = absurd (cc)
body_sorted domains (info ∷ infos) zero body h e =
    first_true (is_sorted_term domains body) true
    (subst (λ (o : Option Term). list_all (is_sorted_term domains) (optional o) ≡ true) e
    (first_true (is_sorted_body domains info) _ h))
body_sorted domains (info ∷ infos) (suc f) body h e =
    body_sorted domains infos f body (second_true (is_sorted_body domains info) _ h) e

module _ (p : Program) (state : StateMap) (has : ℕ → ℕ → Bool) (covers : Covers p state has)
    (bodies : list_all (is_sorted_body p.domains) p.functions ≡ true) where
  values_pass : (n f : ℕ) → MeaningPasses has (values p state n f)
  unfolding of_function
  values_pass zero f vs k = members_pass-Undef has
  values_pass (suc n) f vs k =
      from_body (λ (m : Meaning). OutcomePasses has (m vs)) (body_of p.functions f)
      (of_term (eval_level p state) (values p state n)) (λ ws. undefined) (members_pass-Undef has)
      (λ t e. term_keeps p state has covers (values p state n) (λ g ws q. values_pass n g ws q) t
      (body_sorted p.domains p.functions f t bodies e) vs k)

  -- what a sorted term gives passes
  pub eval_gives : (t : Term) → is_sorted_term p.domains t ≡ true
      → MeaningPasses has (eval p state t)
  eval_gives t s = term_keeps p state has covers (values p state 512) (values_pass 512) t s

  pub eval_passes : (t : Term) (env : List Value) (v : Value)
      → is_sorted_term p.domains t ≡ true → AllPass has env → eval p state t env ≡ Gives v
      → members_pass has v ≡ true
  eval_passes t env v s k e = subst (OutcomePasses has) e (eval_gives t s env k)

  all_of_gives : (ts : List Term) → list_all (is_sorted_term p.domains) ts ≡ true
      → (env : List Value) → AllPass has env → PartsPass has (all_of (map (eval p state) ts) env)
  all_of_gives [] s env k = tt
  all_of_gives (t ∷ ts) s env k =
      then_pass has (eval p state t env) (all_of (map (eval p state) ts) env)
      (eval_gives t (first_true (is_sorted_term p.domains t) _ s) env k)
      (all_of_gives ts (second_true (is_sorted_term p.domains t) _ s) env k)

  pub all_of_passes : (ts : List Term) (env vs : List Value)
      → list_all (is_sorted_term p.domains) ts ≡ true → AllPass has env
      → all_of (map (eval p state) ts) env ≡ Values vs → AllPass has vs
  all_of_passes ts env vs s k e = subst (PartsPass has) e (all_of_gives ts s env k)

  -- the values of new variables of a rule
  pub bind_all_passes : (ts : List Term) (env : List Value) (go : List Value → Yielded)
      (u : UpdateSet) (after : List ℕ)
      → list_all (is_sorted_term p.domains) ts ≡ true → AllPass has env
      → rule.bind_all (eval p state) ts env go ≡ Yields u after
      → (inner : List Value) × AllPass has inner × (go inner ≡ Yields u after)
  bind_all_passes [] env go u after s k e = (env, k, e)
  bind_all_passes (t ∷ ts) env go u after s k e =
      let o = term_of u after (eval p state t env)
      (λ v. rule.bind_all (eval p state) ts (env ++ v ∷ []) go) e in
      bind_all_passes ts (env ++ o.0 ∷ []) go u after
      (second_true (is_sorted_term p.domains t) _ s)
      (all_append (λ w. members_pass has w ≡ true) env (o.0 ∷ []) k
      (eval_passes t env o.0 (first_true (is_sorted_term p.domains t) _ s) k o.1, tt))
      o.2
