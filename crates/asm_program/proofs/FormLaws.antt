-- What each form of rule yields.
use Rattle.std.proofs.Common.{◌≡◌, ℕ, ◌≤◌, Bool, true, false, not, ◌||◌, if◌then◌else◌, Option}
use Rattle.std.proofs.Common.{Some, None, List, [], ◌∷◌, ◌++◌, map, refl, sym, ap, subst, ◌∙◌}
use Rattle.std.proofs.Common.{arith, rules}
use Rattle.std.specs.Prelude.{nat_le}
use Rattle.std.specs.List.{list_any}
use Rattle.std.proofs.lemmas.Bool.Decides.{nat_tests}
use Rattle.asm_value.specs.declared.value.Value.{Value}
use Rattle.asm_value.specs.declared.domain.Domain.{Domain}
use Rattle.asm_value.specs.declared.location.Update.{Update}
use Rattle.asm_value.specs.Living.{is_true}
use Rattle.asm_value.specs.State.{StateMap, is_undef, fire, overlaid, set_weight}
use Rattle.asm_value.specs.UpdateSet as set
use Rattle.asm_value.specs.UpdateSet.{UpdateSet, has, same}
use Rattle.asm_value.proofs.FiringLaws.{fire-empty}
use Rattle.asm_value.proofs.LivingLaws.{is_true-Truth, is_true-only}
use Rattle.asm_value.proofs.StateLaws.{same_is, same_itself}
use Rattle.asm_value.proofs.UpdateSetLaws.{has-add, has-empty, has-union}
use Rattle.asm_syntax.specs.declared.token.Span.{Span}
use Rattle.asm_program.specs.declared.outcome.FaultKind.TheVariants as kind
use Rattle.asm_program.specs.declared.trees.Term.{Term}
use Rattle.asm_program.specs.declared.trees.Rule.{Rule}
use Rattle.asm_program.specs.declared.trees.RuleCase.{RuleCase}
use Rattle.asm_program.specs.declared.trees.Rule.TheOpen.{Rule-F}
use Rattle.asm_program.specs.declared.trees.Rule.TheVariants as form
use Rattle.asm_program.specs.declared.trees.Rule.TheViews.{out-Rule, the_lemmas}
use Rattle.asm_program.specs.declared.program.Program.{Program}
use Rattle.asm_program.specs.Initial.{in_codomain}
use Rattle.asm_program.specs.Members.{combinations}
use Rattle.asm_program.specs.Meaning.{eval, function_takes}
use Rattle.asm_program.specs.Yields.{Yielded, Yields, RuleMeaning, on_set, on_term, on_terms}
use Rattle.asm_program.specs.Yields.{limited, stop, nothing, update_of, union_of, clashes}
use Rattle.asm_program.specs.Yields.{one_by_one, yields_level, rule_values, yields, guard_of}
use Rattle.asm_program.specs.Yields.{satisfying, on_found, choice, extended}
use Rattle.asm_program.specs.BookYields.{Gives, GiveAll}
use Rattle.asm_program.specs.RuleLaws.{IsLight, EachYields, YieldsUnion, update_to, SkipYields}
use Rattle.asm_program.specs.RuleLaws.{UpdateYields, UpdateYieldsAlone, ParYields, ParYieldsOfParts}
use Rattle.asm_program.specs.RuleLaws.{IfYields, at_combination, ForallYields, SeqYields, SeqStops}
use Rattle.asm_program.specs.RuleLaws.{OnlyTruthIsTrue}
use Rattle.asm_program.proofs.RuleParts.{case_rule, case_term, of_rule-out}
use Rattle.asm_program.specs.declared.trees.Rule.TheFolds.{map-Rule}
use Rattle.asm_program.proofs.Outcomes.{set_of, limited_on, same_set}
use Rattle.asm_program.proofs.Sets.{or_assoc, or_false, empty-overlaid, clash_by, no_clash_by}

-- ---- one level of each form

module _ (p : Program) (pick : Option ℕ) where
  -- one level, with the meaning of each part in its place
  abbrev level : Rule-F Rule RuleCase → RuleMeaning
  level a =
      yields_level p pick (rule_values p pick 512)
      (map-Rule Rule RuleCase RuleMeaning (Term × RuleMeaning) (yields p pick)
      (λ c. (case_term c, yields p pick (case_rule c))) a)

  pub yields-out : (r : Rule) (a : Rule-F Rule RuleCase) → out-Rule r ≡ a
      → (state : StateMap) (env : List Value) (next : List ℕ)
      → yields p pick r state env next ≡ level a state env next
  unfolding yields
  yields-out r a e state env next =
      ap (λ m. m state env next) (of_rule-out (yields_level p pick) (rule_values p pick 512) r a e)

  pub out-Skip : out-Rule form.Skip ≡ Rule-F.Skip
  out-Skip = search (rules, the_lemmas)

  pub yields-Skip : SkipYields p pick
  yields-Skip = yields-out form.Skip Rule-F.Skip out-Skip

  out-Update : (f : ℕ) (args : List Term) (value : Term) (span : Span)
      → out-Rule (form.Update f args value span) ≡ Rule-F.Update f args value span
  out-Update f args value span = search (rules, the_lemmas)

  -- the update with its tests passed
  tested : (f : ℕ) (span : Span) (vs : List Value) (v : Value) (next : List ℕ)
      → function_takes p f vs ≡ true → (is_undef v || in_codomain p f v) ≡ true
      → update_of p f span vs v next ≡ Yields (set.add set.empty (update_to f vs v)) next
  tested f span vs v next takes fits = λ i.
      if not (takes i) then stop kind.OutOfDomain span
      else (if fits i then Yields (set.add set.empty (update_to f vs v)) next
      else stop kind.OutOfCodomain span)

  update_level : (f : ℕ) (args : List Term) (value : Term) (span : Span) (state : StateMap)
      (env : List Value) (next : List ℕ) (vs : List Value) (v : Value)
      → GiveAll p state env args vs → Gives p state env value v
      → yields p pick (form.Update f args value span) state env next ≡ update_of p f span vs v next
  update_level f args value span state env next vs v given_args given_value =
      yields-out (form.Update f args value span) (Rule-F.Update f args value span)
      (out-Update f args value span) state env next
      ∙ ap (λ o. on_terms o (λ ws. on_term (eval p state value env)
      (λ w. update_of p f span ws w next))) given_args
      ∙ ap (λ o. on_term o (λ w. update_of p f span vs w next)) given_value

  pub yields-Update : UpdateYields p pick
  yields-Update f args value span state env next vs v given_args given_value takes fits =
      update_level f args value span state env next vs v given_args given_value
      ∙ tested f span vs v next takes fits

  has_one : (x y : Update) → has (set.add set.empty y) x ≡ same x y
  has_one x y = has-add set.empty y x ∙ ap (λ b. same x y || b) (has-empty x) ∙ or_false (same x y)

  only_update : (f : ℕ) (span : Span) (vs : List Value) (v : Value) (next after : List ℕ)
      (u : UpdateSet)
      → update_of p f span vs v next ≡ Yields u after → set.add set.empty (update_to f vs v) ≡ u
  only_update f span vs v next after u e =
      by_tests (function_takes p f vs) (is_undef v || in_codomain p f v) e
    where
      by_tests : (a b : Bool) → (if not a then stop kind.OutOfDomain span
          else (if b then Yields (set.add set.empty (update_to f vs v)) next
          else stop kind.OutOfCodomain span)) ≡ Yields u after
          → set.add set.empty (update_to f vs v) ≡ u
      by_tests true true h = same_set _ u next after h
      by_tests true false h = absurd (cc)
      by_tests false b h = absurd (cc)

  pub yields-Update-alone : UpdateYieldsAlone p pick
  yields-Update-alone f args value span state env next vs v given_args given_value u after h x =
      let is = only_update f span vs v next after u (sym
      (update_level f args value span state env next vs v given_args given_value) ∙ h) in
      let here : has u x ≡ same x (update_to f vs v) = ap (λ s. has s x) (sym is)
      ∙ has_one x (update_to f vs v) in (
        λ t. same_is x (update_to f vs v) (sym here ∙ t),
        λ e. here ∙ same_itself x (update_to f vs v) e,
      )

  pub yields-Par : ParYields p pick
  yields-Par parts span state env next =
      yields-out (form.Par parts span) (Rule-F.Par parts span)
      (search (rules, the_lemmas)) state env next
      ∙ ap (λ ms. union_of span set.empty ms next) (twice parts)
    where
      twice : (rs : List Rule) → map (λ (m : RuleMeaning). m state env) (map (yields p pick) rs)
          ≡ map (λ r. yields p pick r state env) rs
      twice [] = refl
      twice (r ∷ rs) = ap (λ ms. yields p pick r state env ∷ ms) (twice rs)

  pub yields-If : IfYields p pick
  yields-If guard first None state env next v g =
      yields-out (form.If guard first None) (Rule-F.If guard first None)
      (search (rules, the_lemmas)) state env next
      ∙ ap (λ o. on_term o (λ w. if is_true w then yields p pick first state env next
      else nothing next)) g
  yields-If guard first (Some other) state env next v g =
      yields-out (form.If guard first (Some other)) (Rule-F.If guard first (Some other))
      (search (rules, the_lemmas)) state env next
      ∙ ap (λ o. on_term o (λ w. if is_true w then yields p pick first state env next
      else yields p pick other state env next)) g

  pub yields-Forall : (ranges : List Domain) (guard : Option Term) (body : Rule) (span : Span)
      (state : StateMap) (env : List Value) (next : List ℕ)
      → yields p pick (form.Forall ranges guard body span) state env next
      ≡ union_of span set.empty (map (at_combination p pick state env guard body)
      (combinations p.domains state ranges)) next
  yields-Forall ranges guard body span state env next =
      yields-out (form.Forall ranges guard body span) (Rule-F.Forall ranges guard body span)
      (search (rules, the_lemmas)) state env next

  pub yields-Seq : (rules_ : List Rule) (span : Span) (state : StateMap) (env : List Value)
      (next : List ℕ)
      → yields p pick (form.Seq rules_ span) state env next
      ≡ one_by_one span set.empty (map (yields p pick) rules_) state env next
  yields-Seq rules_ span state env next =
      yields-out (form.Seq rules_ span) (Rule-F.Seq rules_ span)
      (search (rules, the_lemmas)) state env next

  pub yields-Choose : (ranges : List Domain) (guard : Option Term) (body : Rule) (place : ℕ)
      (state : StateMap) (env : List Value) (next : List ℕ)
      → yields p pick (form.Choose ranges guard body None place) state env next
      ≡ on_found (satisfying (λ c. guard_of p state guard (env ++ c))
      (combinations p.domains state ranges))
      (choice pick place (λ c. yields p pick body state (env ++ c) next) (nothing next))
  yields-Choose ranges guard body place state env next =
      yields-out (form.Choose ranges guard body None place)
      (Rule-F.Choose ranges guard body None place) (search (rules, the_lemmas)) state env next

  pub yields-Extend : (d count : ℕ) (body : Rule) (span : Span) (state : StateMap)
      (env : List Value) (next : List ℕ)
      → yields p pick (form.Extend d count body span) state env next
      ≡ extended d count span (yields p pick body) state env next
  yields-Extend d count body span state env next =
      yields-out (form.Extend d count body span) (Rule-F.Extend d count body span)
      (search (rules, the_lemmas)) state env next

-- ---- unions

record UnionFrom (rs : List (List ℕ → Yielded)) (sofar : UpdateSet) (next : List ℕ) (u : UpdateSet)
    (after : List ℕ) : Type 0 where
  pub sets : List UpdateSet
  pub each : EachYields rs next sets after
  pub union : (x : Update) → has u x ≡ (has sofar x || list_any (λ s. has s x) sets)

union_from : (span : Span) (rs : List (List ℕ → Yielded)) (sofar u : UpdateSet)
    (next after : List ℕ)
    → union_of span sofar rs next ≡ Yields u after → UnionFrom rs sofar next u after
union_from span [] sofar u next after e = record {
  sets = [];
  each = next_same e;
  union = λ x. ap (λ s. has s x) (sym (same_set sofar u next after e))
      ∙ sym (or_false (has sofar x));
}
  where
    next_same : Yields sofar next ≡ Yields u after → next ≡ after
    next_same h = cc
union_from span (r ∷ rs) sofar u next after e =
    let a = set_of u after (r next) _ e in
    let b = limited_on u after span (set.union sofar a.0) a.1
    (λ all later. union_of span all rs later) a.3 in
    let rest = union_from span rs (set.union sofar a.0) u a.1 after b in
    record {
      sets = a.0 ∷ rest.sets;
      each = (a.1, a.2, rest.each);
      union = λ x. rest.union x ∙ ap (λ t. t || list_any (λ s. has s x) rest.sets)
          (has-union sofar a.0 x)
          ∙ or_assoc (has sofar x) (has a.0 x) (list_any (λ s. has s x) rest.sets);
    }

whole_union : (span : Span) (rs : List (List ℕ → Yielded)) (u : UpdateSet) (next after : List ℕ)
    → union_of span set.empty rs next ≡ Yields u after → YieldsUnion rs next u after
whole_union span rs u next after e =
    let h = union_from span rs set.empty u next after e in
    record {
      sets = h.sets;
      each = h.each;
      union = λ x. h.union x ∙ ap (λ t. t || list_any (λ s. has s x) h.sets) (has-empty x);
    }

module _ (p : Program) (pick : Option ℕ) where
  pub yields-Par-parts : ParYieldsOfParts p pick
  yields-Par-parts parts span state env next after u e =
      whole_union span (map (λ r. yields p pick r state env) parts) u next after
      (sym (yields-Par p pick parts span state env next) ∙ e)

  pub yields-Forall-combinations : ForallYields p pick
  yields-Forall-combinations ranges guard body span state env next after u e =
      whole_union span (map (at_combination p pick state env guard body)
      (combinations p.domains state ranges)) u next after
      (sym (yields-Forall p pick ranges guard body span state env next) ∙ e)

-- ---- one after another

light_test : (u : UpdateSet) → IsLight u → nat_le (set_weight u) 131072 ≡ true
light_test u h = grind (arith, nat_tests, h)

pub limited-light : (span : Span) (u : UpdateSet) (next : List ℕ) → IsLight u
    → limited span u next ≡ Yields u next
limited-light span u next h =
    ap (λ b. if b then Yields u next else stop kind.UpdatesTooLarge span) (light_test u h)

heavy_test : (w : ℕ) → nat_le w 131072 ≡ true → w ≤ 131072
heavy_test w h = grind (arith, nat_tests, h)

-- one more part, which yields a set
pub beside : (span : Span) (sofar u : UpdateSet) (r : List ℕ
    → Yielded) (rs : List (List ℕ → Yielded)) (next later : List ℕ)
    → r next ≡ Yields u later → IsLight (set.union sofar u)
    → union_of span sofar (r ∷ rs) next ≡ union_of span (set.union sofar u) rs later
beside span sofar u r rs next later e light =
    ap (λ y. on_set y (λ updates l. on_set (limited span (set.union sofar updates) l)
    (λ all n. union_of span all rs n))) e
    ∙ ap (λ y. on_set y (λ all n. union_of span all rs n))
    (limited-light span (set.union sofar u) later light)

module _ (span : Span) (state : StateMap) (env : List Value) where
  -- one more rule, which yields a set
  pub turn : (sofar u : UpdateSet) (m : RuleMeaning) (ms : List RuleMeaning) (next later : List ℕ)
      → clashes sofar ≡ false → m (fire state sofar) env next ≡ Yields u later
      → IsLight (overlaid sofar u)
      → one_by_one span sofar (m ∷ ms) state env next ≡ one_by_one span
      (overlaid sofar u) ms state env later
  turn sofar u m ms next later none e light =
      ap (λ b. if b then Yields sofar next else on_set (m (fire state sofar) env next) (λ updates l.
      on_set (limited span (overlaid sofar updates) l) (λ all n.
      one_by_one span all ms state env n))) none
      ∙ ap (λ y. on_set y (λ updates l. on_set (limited span (overlaid sofar updates) l)
      (λ all n. one_by_one span all ms state env n))) e
      ∙ ap (λ y. on_set y (λ all n. one_by_one span all ms state env n))
      (limited-light span (overlaid sofar u) later light)

  pub stopped : (sofar : UpdateSet) (ms : List RuleMeaning) (next : List ℕ) → clashes sofar ≡ true
      → one_by_one span sofar ms state env next ≡ Yields sofar next
  stopped sofar [] next clash = refl
  stopped sofar (m ∷ ms) next clash =
      ap (λ b. if b then Yields sofar next else on_set (m (fire state sofar) env next) (λ updates l.
      on_set (limited span (overlaid sofar updates) l) (λ all n.
      one_by_one span all ms state env n))) clash

no_clash_empty : clashes set.empty ≡ false
no_clash_empty = no_clash_by set.empty (λ u v h k e. absurd (true_false (sym h ∙ has-empty u)))
  where
    true_false : true ≡ false → ⊥
    true_false e = absurd (cc)

module _ (p : Program) (pick : Option ℕ) where
  -- the first rule of a seq
  first_turn : (first : Rule) (rest : List Rule) (span : Span) (state : StateMap) (env : List Value)
      (next later : List ℕ) (u : UpdateSet)
      → yields p pick first state env next ≡ Yields u later → IsLight u
      → yields p pick (form.Seq (first ∷ rest) span) state env next
      ≡ one_by_one span u (map (yields p pick) rest) state env later
  first_turn first rest span state env next later u e light =
      yields-Seq p pick (first ∷ rest) span state env next
      ∙ turn span state env set.empty u (yields p pick first)
      (map (yields p pick) rest) next later no_clash_empty
      (ap (λ s. yields p pick first s env next) (fire-empty state) ∙ e)
      (subst IsLight (sym (empty-overlaid u)) light)
      ∙ ap (λ s. one_by_one span s (map (yields p pick) rest) state env later) (empty-overlaid u)

  pub yields-Seq-two : SeqYields p pick
  yields-Seq-two first second span state env next later after u v e one light f light_both =
      first_turn first (second ∷ []) span state env next later u e light
      ∙ turn span state env u v (yields p pick second) [] later after
      (no_clash_by u one) f light_both

  pub yields-Seq-stops : SeqStops p pick
  yields-Seq-stops first rest span state env next after u e clash light =
      first_turn first rest span state env next after u e light
      ∙ stopped span state env u (map (yields p pick) rest) after (clash_by u clash)

-- ---- truth

pub only_truth : OnlyTruthIsTrue
only_truth value =
    (λ h. is_true-only value h, λ e. subst (λ v. is_true v ≡ true) (sym e) is_true-Truth)

pub ruleset forms = (
  yields-Skip,
  yields-Update,
  yields-Update-alone,
  yields-Par,
  yields-Par-parts,
  yields-If,
  yields-Forall-combinations,
  yields-Seq-two,
  yields-Seq-stops,
  only_truth,
)
