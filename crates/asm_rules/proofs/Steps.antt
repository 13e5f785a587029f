-- One more part of a rule.
use Rattle.std.proofs.Common.{◌≡◌, ℕ, ◌+◌, ◌<◌, true, cond, Option, None, List, [], ◌∷◌, map, drop, length, get_or, refl, sym, ap, ◌∙◌}
use Rattle.std.proofs.lemmas.List.{drop_more}
use Rattle.asm_value.specs.declared.value.Value.{Value}
use Rattle.asm_value.specs.Living.{is_true}
use Rattle.asm_value.specs.State.{StateMap, IsConsistent, fire, overlaid}
use Rattle.asm_value.specs.UpdateSet.{UpdateSet, empty, union}
use Rattle.asm_value.proofs.LivingLaws.{is_true-Truth}
use Rattle.asm_value.proofs.UpdateSetLaws.{has-empty}
use Rattle.std.proofs.lemmas.Bool.{true≢false}
use Rattle.asm_syntax.specs.declared.token.Span.{Span}
use Rattle.asm_program.specs.declared.outcome.Fault.{Fault}
use Rattle.asm_program.specs.declared.outcome.Outcome.{Outcome}
use Rattle.asm_program.specs.declared.outcome.Outcome.TheVariants as outcome
use Rattle.asm_program.specs.declared.trees.Rule.{Rule}
use Rattle.asm_program.specs.declared.trees.RuleCase.{RuleCase}
use Rattle.asm_program.specs.declared.program.Program.{Program}
use Rattle.asm_program.specs.ClashLaws.{clashes-IsConsistent}
use Rattle.asm_program.specs.Meaning.{eval, is_same}
use Rattle.asm_program.specs.Yields.{Yielded, Yields, Stops, nothing, RuleMeaning, on_set, on_term, limited, union_of, one_by_one, clashes, guard_of, guarded, first_case, yields}
use Rattle.asm_program.specs.YieldsLaws.{case_yields}
use Rattle.asm_rules.specs.declared.guards.Guard.TheVariants.{Holds, Fails, Fault as Faults}
use Rattle.asm_rules.specs.declared.outcome.RuleOutcome.{RuleOutcome}
use Rattle.asm_rules.specs.Outcomes.{yielded, judged, compared}
use Rattle.asm_rules.proofs.Combined.{true_by, false_by, no_fault}

-- ---- guards

pub on_term-holds : (o : Outcome) (one other : Yielded) → Holds ≡ judged o
    → on_term o (λ v. cond (is_true v) one other) ≡ one
on_term-holds (outcome.Value v) one other h = ap (λ b. cond b one other) (true_by (is_true v) h)
on_term-holds (outcome.Fault e) one other h = absurd (cc)

pub on_term-fails : (o : Outcome) (one other : Yielded) → Fails ≡ judged o
    → on_term o (λ v. cond (is_true v) one other) ≡ other
on_term-fails (outcome.Value v) one other h = ap (λ b. cond b one other) (false_by (is_true v) h)
on_term-fails (outcome.Fault e) one other h = absurd (cc)

pub on_term-faults : (o : Outcome) (go : Value → Yielded) (e : Fault) → Faults e ≡ judged o → on_term o go ≡ Stops e
on_term-faults (outcome.Value v) go e h = absurd (no_fault (is_true v) e h)
on_term-faults (outcome.Fault f) go e h = let is : f ≡ e = cc in ap Stops is

-- where there is no guard, it holds
pub guarded-none : (p : Program) (state : StateMap) (env : List Value) (body : List ℕ → Yielded) (next : List ℕ)
    → guarded (guard_of p state None env) body next ≡ body next
guarded-none p state env body next = ap (λ b. cond b (body next) (nothing next)) is_true-Truth

-- ---- cases

pub on_term-same : (v : Value) (o : Outcome) (one other : Yielded) → Holds ≡ compared v o
    → on_term o (λ w. cond (is_same v w) one other) ≡ one
on_term-same v (outcome.Value w) one other h = ap (λ b. cond b one other) (true_by (is_same v w) h)
on_term-same v (outcome.Fault e) one other h = absurd (cc)

pub on_term-other : (v : Value) (o : Outcome) (one other : Yielded) → Fails ≡ compared v o
    → on_term o (λ w. cond (is_same v w) one other) ≡ other
on_term-other v (outcome.Value w) one other h = ap (λ b. cond b one other) (false_by (is_same v w) h)
on_term-other v (outcome.Fault e) one other h = absurd (cc)

pub on_term-stops : (v : Value) (o : Outcome) (go : Value → Yielded) (e : Fault) → Faults e ≡ compared v o → on_term o go ≡ Stops e
on_term-stops v (outcome.Value w) go e h = absurd (no_fault (is_same v w) e h)
on_term-stops v (outcome.Fault f) go e h = let is : f ≡ e = cc in ap Stops is

module _ (p : Program) (pick : Option ℕ) (v : Value) (other : Option RuleMeaning) (state : StateMap) (env : List Value) (next : List ℕ) where
  pub first_case-drop : (cs : List RuleCase) (i : ℕ) (d : RuleCase) → i < length cs
      → first_case p v (map (case_yields p pick) (drop i cs)) other state env next
      ≡ on_term (eval p state (get_or cs i d).value env) (λ w. cond (is_same v w)
      (yields p pick (get_or cs i d).rule state env next)
      (first_case p v (map (case_yields p pick) (drop (i + 1) cs)) other state env next))
  first_case-drop cs i d h =
      ap (λ ds. first_case p v (map (case_yields p pick) ds) other state env next) (drop_more cs i d h)

-- ---- unions

module _ {A : Type 0} (span : Span) (m : A → List ℕ → Yielded) where
  -- what one more part yields is added
  pub union_of-goes : (xs : List A) (i : ℕ) (d : A) (all both : UpdateSet) (next later : List ℕ) (out : RuleOutcome)
      → i < length xs → yielded out later ≡ m (get_or xs i d) next
      → on_set (yielded out later) (λ updates after. on_set (limited span (union all updates) after) (λ whole last. union_of span whole (map m (drop (i + 1) xs)) last))
      ≡ union_of span both (map m (drop (i + 1) xs)) later
      → union_of span both (map m (drop (i + 1) xs)) later ≡ union_of span all (map m (drop i xs)) next
  union_of-goes xs i d all both next later out h is united =
      sym united
      ∙ ap (λ y. on_set y (λ updates after. on_set (limited span (union all updates) after) (λ whole last. union_of span whole (map m (drop (i + 1) xs)) last))) is
      ∙ sym (ap (λ ys. union_of span all (map m ys) next) (drop_more xs i d h))

  pub union_of-stops : (xs : List A) (i : ℕ) (d : A) (all : UpdateSet) (next later : List ℕ) (out : RuleOutcome) (e : Fault)
      → i < length xs → yielded out later ≡ m (get_or xs i d) next
      → on_set (yielded out later) (λ updates after. on_set (limited span (union all updates) after) (λ whole last. union_of span whole (map m (drop (i + 1) xs)) last))
      ≡ Stops e
      → Stops e ≡ union_of span all (map m (drop i xs)) next
  union_of-stops xs i d all next later out e h is stops =
      sym stops
      ∙ ap (λ y. on_set y (λ updates after. on_set (limited span (union all updates) after) (λ whole last. union_of span whole (map m (drop (i + 1) xs)) last))) is
      ∙ sym (ap (λ ys. union_of span all (map m ys) next) (drop_more xs i d h))

-- the same where the parts are mapped twice
module _ {A B : Type 0} (span : Span) (f : B → List ℕ → Yielded) (g : A → B) where
  pub parts-goes : (xs : List A) (i : ℕ) (d : A) (all both : UpdateSet) (next later : List ℕ) (out : RuleOutcome)
      → i < length xs → yielded out later ≡ f (g (get_or xs i d)) next
      → on_set (yielded out later) (λ updates after. on_set (limited span (union all updates) after) (λ whole last. union_of span whole (map f (map g (drop (i + 1) xs))) last))
      ≡ union_of span both (map f (map g (drop (i + 1) xs))) later
      → union_of span both (map f (map g (drop (i + 1) xs))) later ≡ union_of span all (map f (map g (drop i xs))) next
  parts-goes xs i d all both next later out h is united =
      sym united
      ∙ ap (λ y. on_set y (λ updates after. on_set (limited span (union all updates) after) (λ whole last. union_of span whole (map f (map g (drop (i + 1) xs))) last))) is
      ∙ sym (ap (λ ys. union_of span all (map f (map g ys)) next) (drop_more xs i d h))

  pub parts-stops : (xs : List A) (i : ℕ) (d : A) (all : UpdateSet) (next later : List ℕ) (out : RuleOutcome) (e : Fault)
      → i < length xs → yielded out later ≡ f (g (get_or xs i d)) next
      → on_set (yielded out later) (λ updates after. on_set (limited span (union all updates) after) (λ whole last. union_of span whole (map f (map g (drop (i + 1) xs))) last))
      ≡ Stops e
      → Stops e ≡ union_of span all (map f (map g (drop i xs))) next
  parts-stops xs i d all next later out e h is stops =
      sym stops
      ∙ ap (λ y. on_set y (λ updates after. on_set (limited span (union all updates) after) (λ whole last. union_of span whole (map f (map g (drop (i + 1) xs))) last))) is
      ∙ sym (ap (λ ys. union_of span all (map f (map g ys)) next) (drop_more xs i d h))

-- ---- sequences

pub IsConsistent-empty : IsConsistent empty
IsConsistent-empty u v hu hv e = absurd (true≢false (sym hu ∙ has-empty u))

module _ (p : Program) (pick : Option ℕ) (span : Span) (state : StateMap) (env : List Value) where
  rest : List Rule → UpdateSet → List ℕ → Yielded
  rest rs all next = one_by_one span all (map (yields p pick) rs) state env next

  -- the first of what is left
  abbrev first : Rule → List Rule → UpdateSet → Yielded → Yielded
  first r rs all y =
      on_set y (λ updates later. on_set (limited span (overlaid all updates) later)
      (λ whole last. one_by_one span whole (map (yields p pick) rs) state env last))

  one_by_one-drop : (rs : List Rule) (i : ℕ) (d : Rule) (all : UpdateSet) (next : List ℕ) → i < length rs → IsConsistent all
      → one_by_one span all (map (yields p pick) (drop i rs)) state env next
      ≡ first (get_or rs i d) (drop (i + 1) rs) all (yields p pick (get_or rs i d) (fire state all) env next)
  one_by_one-drop rs i d all next h one =
      ap (λ qs. one_by_one span all (map (yields p pick) qs) state env next) (drop_more rs i d h)
      ∙ ap (λ b. cond b (Yields all next) (first (get_or rs i d) (drop (i + 1) rs) all (yields p pick (get_or rs i d) (fire state all) env next)))
      (clashes-IsConsistent all one)

  -- what one more rule yields follows
  pub one_by_one-step : (rs : List Rule) (i : ℕ) (d : Rule) (all : UpdateSet) (next later : List ℕ) (out : RuleOutcome) (y : Yielded)
      → i < length rs → IsConsistent all
      → yielded out later ≡ yields p pick (get_or rs i d) (fire state all) env next
      → on_set (yielded out later) (λ updates after. on_set (limited span (overlaid all updates) after)
      (λ whole last. one_by_one span whole (map (yields p pick) (drop (i + 1) rs)) state env last)) ≡ y
      → y ≡ one_by_one span all (map (yields p pick) (drop i rs)) state env next
  one_by_one-step rs i d all next later out y h one is follows =
      sym follows
      ∙ ap (first (get_or rs i d) (drop (i + 1) rs) all) is
      ∙ sym (one_by_one-drop rs i d all next h one)

  -- nothing follows updates that clash
  pub one_by_one-clash : (rs : List Rule) (all : UpdateSet) (next : List ℕ) → clashes all ≡ true
      → one_by_one span all (map (yields p pick) rs) state env next ≡ Yields all next
  one_by_one-clash [] all next e = refl
  one_by_one-clash (r ∷ rs) all next e =
      ap (λ b. cond b (Yields all next) (first r rs all (yields p pick r (fire state all) env next))) e

pub ruleset guard_steps = (on_term-holds, on_term-fails, on_term-faults)

pub ruleset case_steps = (first_case-drop, on_term-same, on_term-other, on_term-stops)
