-- What each form of rule yields, and that a macro rule yields what its body does.
use Rattle.std.proofs.Common.{◌≡◌, ℕ, ◌+◌, ◌≤◌, max, if◌then◌else◌, Option, Some, None, List, [], ◌∷◌, ◌++◌, map, refl, ap, ◌∙◌, arith, rules}
use Rattle.std.specs.Option.{option_map_or, option_map}
use Rattle.asm_value.specs.declared.value.Value.{Value}
use Rattle.asm_value.specs.declared.domain.Domain.{Domain}
use Rattle.asm_value.specs.Living.{is_true}
use Rattle.asm_value.specs.State.{StateMap}
use Rattle.asm_syntax.specs.declared.token.Span.{Span}
use Rattle.asm_program.specs.declared.trees.Term.{Term}
use Rattle.asm_program.specs.declared.trees.Rule.{Rule}
use Rattle.asm_program.specs.declared.trees.RuleCase.{RuleCase}
use Rattle.asm_program.specs.declared.trees.Rule.TheVariants as form
use Rattle.asm_program.specs.declared.trees.Rule.TheOpen.{Rule-F}
use Rattle.asm_program.specs.declared.trees.Rule.TheFolds.{map-Rule}
use Rattle.asm_program.specs.declared.trees.Rule.TheViews.{out-Rule, the_lemmas}
use Rattle.asm_program.specs.declared.program.MacroInfo.{MacroInfo}
use Rattle.asm_program.specs.declared.program.Program.{Program}
use Rattle.asm_program.specs.Forms.{rule_parts, rule_called, of_rule, rule_of, of_macro}
use Rattle.asm_program.specs.Nesting.{greatest}
use Rattle.asm_program.specs.Meaning.{eval, all_of}
use Rattle.asm_value.specs.UpdateSet as set
use Rattle.asm_program.specs.Members.{combinations}
use Rattle.asm_program.specs.Yields.{RuleMeaning, nothing, on_term, on_terms, update_of, union_of, one_by_one, guard_of, guarded, on_found, satisfying, choice, otherwise, first_case, bind_all, extended, yields_level, rule_values, yields}
use Rattle.asm_program.specs.MacroLaws.{said, of_case, of_rule-out, of_case-out, LooksAtCalled, greatest-append, settled, of_macro-body, of_macro-none, rank-low}

-- ---- one level of a tree

out-Skip : out-Rule form.Skip ≡ Rule-F.Skip
out-Skip = search (rules, the_lemmas)

out-Call : (m : ℕ) (args : List Term) → out-Rule (form.Call m args) ≡ Rule-F.Call m args
out-Call m args = search (rules, the_lemmas)

out-Update : (f : ℕ) (args : List Term) (value : Term) (span : Span)
    → out-Rule (form.Update f args value span) ≡ Rule-F.Update f args value span
out-Update f args value span = search (rules, the_lemmas)

out-Par : (rules' : List Rule) (span : Span) → out-Rule (form.Par rules' span)
    ≡ Rule-F.Par rules' span
out-Par rules' span = search (rules, the_lemmas)

out-Seq : (rules' : List Rule) (span : Span) → out-Rule (form.Seq rules' span)
    ≡ Rule-F.Seq rules' span
out-Seq rules' span = search (rules, the_lemmas)

out-If : (guard : Term) (first : Rule) (other : Option Rule)
    → out-Rule (form.If guard first other) ≡ Rule-F.If guard first other
out-If guard first other = search (rules, the_lemmas)

out-Forall : (ranges : List Domain) (guard : Option Term) (body : Rule) (span : Span)
    → out-Rule (form.Forall ranges guard body span) ≡ Rule-F.Forall ranges guard body span
out-Forall ranges guard body span = search (rules, the_lemmas)

out-Choose : (ranges : List Domain) (guard : Option Term) (body : Rule) (other : Option Rule)
    (place : ℕ)
    → out-Rule (form.Choose ranges guard body other place)
    ≡ Rule-F.Choose ranges guard body other place
out-Choose ranges guard body other place = search (rules, the_lemmas)

out-Let : (values : List Term) (body : Rule) → out-Rule (form.Let values body)
    ≡ Rule-F.Let values body
out-Let values body = search (rules, the_lemmas)

out-Switch : (v : Term) (cases : List RuleCase) (other : Option Rule)
    → out-Rule (form.Switch v cases other) ≡ Rule-F.Switch v cases other
out-Switch v cases other = search (rules, the_lemmas)

out-Extend : (d count : ℕ) (body : Rule) (span : Span)
    → out-Rule (form.Extend d count body span) ≡ Rule-F.Extend d count body span
out-Extend d count body span = search (rules, the_lemmas)

-- a case's rule, with its term
pub of_case-is : {X : Type 0} (level : (ℕ → X) → Rule-F X (Term × X) → X) (calls : ℕ
    → X) (c : RuleCase)
    → of_case level calls c ≡ (c.value, of_rule level calls c.rule)
of_case-is {X} level calls c = of_case-out level calls c

-- ---- how high a rule is, with the bodies of macro rules in place of calls

-- 1 more than the highest of a rule's parts and of the macro rule that it calls
abbrev pub height_level : (ℕ → ℕ) → Rule-F ℕ (Term × ℕ) → ℕ
height_level calls a = 1 + max (greatest (rule_parts a)) (option_map_or calls (rule_called a) 0)

-- the height of a macro rule's body
unfoldable pub macro_height : List MacroInfo → ℕ → ℕ
macro_height macros = of_macro height_level 0 macros 512

unfoldable pub height : List MacroInfo → Rule → ℕ
height macros = of_rule height_level (macro_height macros)

abbrev pub case_height : List MacroInfo → RuleCase → ℕ
case_height macros c = height macros c.rule

abbrev pub option_height : List MacroInfo → Option Rule → ℕ
option_height macros o = option_map_or (height macros) o 0

height_looks : LooksAtCalled height_level
height_looks c d Rule-F.Skip h = refl
height_looks c d (Rule-F.Call m args) h = ap (λ n. 1 + max 0 n) (h m refl)
height_looks c d (Rule-F.Update f args value span) h = refl
height_looks c d (Rule-F.Par rules span) h = refl
height_looks c d (Rule-F.Seq rules span) h = refl
height_looks c d (Rule-F.If guard first other) h = refl
height_looks c d (Rule-F.Forall ranges guard body span) h = refl
height_looks c d (Rule-F.Choose ranges guard body other place) h = refl
height_looks c d (Rule-F.Let values body) h = refl
height_looks c d (Rule-F.Switch v cases other) h = refl
height_looks c d (Rule-F.Extend domain count body span) h = refl

pub macro_height-body : (p : Program) (m : ℕ) (body : Rule) → rule_of p.macros m ≡ Some body
    → macro_height p.macros m ≡ height p.macros body
unfolding height macro_height
macro_height-body p m body e =
    of_macro-body p.macros p.macros_ranked height_level height_looks 0 511 m body
    (rank-low p.macros m p.few_macros) e

module _ (macros : List MacroInfo) where
  level_of : (r : Rule) (a : Rule-F Rule RuleCase) → out-Rule r ≡ a
      → height macros r ≡ height_level (macro_height macros) (said height_level
      (macro_height macros) a)
  unfolding height
  level_of r a e = of_rule-out height_level (macro_height macros) r
      ∙ ap (λ x. height_level (macro_height macros) (said height_level (macro_height macros) x)) e

  cases_height : (cs : List RuleCase)
      → greatest (map (λ c. c.1) (map (of_case height_level (macro_height macros)) cs))
      ≡ greatest (map (case_height macros) cs)
  unfolding height
  cases_height [] = refl
  cases_height (c ∷ cs) = λ i. max ((of_case-is height_level (macro_height macros) c i).1)
      (cases_height cs i)

  pub height-Call : (r : Rule) (m : ℕ) (args : List Term) → r ≡ form.Call m args → height macros r
      ≡ 1 + macro_height macros m
  height-Call r m args e = let l = level_of r (Rule-F.Call m args) (ap out-Rule e
      ∙ out-Call m args) in omega arith

  pub height-Par : (r : Rule) (parts : List Rule) (span : Span) → r ≡ form.Par parts span
      → height macros r ≡ 1 + greatest (map (height macros) parts)
  unfolding height
  height-Par r parts span e = let l = level_of r (Rule-F.Par parts span) (ap out-Rule e
      ∙ out-Par parts span) in omega arith

  pub height-Seq : (r : Rule) (parts : List Rule) (span : Span) → r ≡ form.Seq parts span
      → height macros r ≡ 1 + greatest (map (height macros) parts)
  unfolding height
  height-Seq r parts span e = let l = level_of r (Rule-F.Seq parts span) (ap out-Rule e
      ∙ out-Seq parts span) in omega arith

  pub height-If : (r : Rule) (guard : Term) (first : Rule) (other : Option Rule) → r
      ≡ form.If guard first other
      → height macros r ≡ 1 + max (height macros first) (option_height macros other)
  unfolding height
  height-If r guard first None e = let l = level_of r (Rule-F.If guard first None) (ap out-Rule e
      ∙ out-If guard first None) in omega arith
  height-If r guard first (Some other) e =
      let l = level_of r (Rule-F.If guard first (Some other)) (ap out-Rule e
      ∙ out-If guard first (Some other)) in omega arith

  pub height-Forall : (r : Rule) (ranges : List Domain) (guard : Option Term) (body : Rule)
      (span : Span)
      → r ≡ form.Forall ranges guard body span → height macros r ≡ 1 + height macros body
  unfolding height
  height-Forall r ranges guard body span e =
      let l = level_of r (Rule-F.Forall ranges guard body span) (ap out-Rule e
      ∙ out-Forall ranges guard body span) in omega arith

  pub height-Choose : (r : Rule) (ranges : List Domain) (guard : Option Term) (body : Rule)
      (other : Option Rule) (place : ℕ)
      → r ≡ form.Choose ranges guard body other place
      → height macros r ≡ 1 + max (height macros body) (option_height macros other)
  unfolding height
  height-Choose r ranges guard body None place e =
      let l = level_of r (Rule-F.Choose ranges guard body None place) (ap out-Rule e
      ∙ out-Choose ranges guard body None place) in omega arith
  height-Choose r ranges guard body (Some other) place e =
      let l = level_of r (Rule-F.Choose ranges guard body (Some other) place) (ap out-Rule e
      ∙ out-Choose ranges guard body (Some other) place) in omega arith

  pub height-Let : (r : Rule) (values : List Term) (body : Rule) → r ≡ form.Let values body
      → height macros r ≡ 1 + height macros body
  unfolding height
  height-Let r values body e = let l = level_of r (Rule-F.Let values body) (ap out-Rule e
      ∙ out-Let values body) in omega arith

  pub height-Switch : (r : Rule) (v : Term) (cases : List RuleCase) (other : Option Rule) → r
      ≡ form.Switch v cases other
      → height macros r ≡ 1 + max (greatest (map (case_height macros) cases))
      (option_height macros other)
  unfolding height
  height-Switch r v cases None e =
      let l = level_of r (Rule-F.Switch v cases None) (ap out-Rule e ∙ out-Switch v cases None) in
      let c = cases_height cases in omega (arith, greatest-append)
  height-Switch r v cases (Some other) e =
      let l = level_of r (Rule-F.Switch v cases (Some other)) (ap out-Rule e
      ∙ out-Switch v cases (Some other)) in
      let c = cases_height cases in omega (arith, greatest-append)

  pub height-Extend : (r : Rule) (d count : ℕ) (body : Rule) (span : Span) → r
      ≡ form.Extend d count body span
      → height macros r ≡ 1 + height macros body
  unfolding height
  height-Extend r d count body span e =
      let l = level_of r (Rule-F.Extend d count body span) (ap out-Rule e
      ∙ out-Extend d count body span) in omega arith

-- ---- macro rules

yields_looks : (p : Program) (pick : Option ℕ) → LooksAtCalled (yields_level p pick)
yields_looks p pick c d Rule-F.Skip h = refl
yields_looks p pick c d (Rule-F.Call m args) h =
    λ i state env next. on_terms (all_of (map (eval p state) args) env)
    (λ vs. h m refl i state vs next)
yields_looks p pick c d (Rule-F.Update f args value span) h = refl
yields_looks p pick c d (Rule-F.Par parts span) h = refl
yields_looks p pick c d (Rule-F.Seq parts span) h = refl
yields_looks p pick c d (Rule-F.If guard first other) h = refl
yields_looks p pick c d (Rule-F.Forall ranges guard body span) h = refl
yields_looks p pick c d (Rule-F.Choose ranges guard body other place) h = refl
yields_looks p pick c d (Rule-F.Let values body) h = refl
yields_looks p pick c d (Rule-F.Switch v cases other) h = refl
yields_looks p pick c d (Rule-F.Extend domain count body span) h = refl

module _ (p : Program) (pick : Option ℕ) where
  -- a macro rule yields what its body does
  pub rule_values-body : (m : ℕ) (body : Rule) → rule_of p.macros m ≡ Some body
      → rule_values p pick 512 m ≡ yields p pick body
  unfolding rule_values yields
  rule_values-body m body e =
      of_macro-body p.macros p.macros_ranked (yields_level p pick) (yields_looks p pick)
      (λ state vs next. nothing next)
      511 m body (rank-low p.macros m p.few_macros) e

  -- and one that isn't there yields nothing
  pub rule_values-none : (m : ℕ) → rule_of p.macros m ≡ None → rule_values p pick 512 m
      ≡ (λ state vs next. nothing next)
  unfolding rule_values
  rule_values-none m e = of_macro-none (yields_level p pick)
      (λ state vs next. nothing next) p.macros 511 m e

  -- calls that are followed deeper yield the same
  pub rule_values-deeper : (n m : ℕ) → 512 ≤ n → rule_values p pick n m ≡ rule_values p pick 512 m
  unfolding rule_values
  rule_values-deeper n m h =
      let low = rank-low p.macros m p.few_macros in
      settled p.macros p.macros_ranked (yields_level p pick) (yields_looks p pick)
      (λ state vs next. nothing next)
      n 512 m (omega arith) (omega arith)

-- ---- what a rule yields, form by form

-- a case's term with what its rule yields
abbrev pub case_yields : Program → Option ℕ → RuleCase → Term × RuleMeaning
case_yields p pick c = (c.value, yields p pick c.rule)

cases_yield : (p : Program) (pick : Option ℕ) (cs : List RuleCase)
    → map (of_case (yields_level p pick) (rule_values p pick 512)) cs ≡ map (case_yields p pick) cs
unfolding yields
cases_yield p pick [] = refl
cases_yield p pick (c ∷ cs) =
    λ i. of_case-is (yields_level p pick) (rule_values p pick 512) c i ∷ cases_yield p pick cs i

module _ (p : Program) (pick : Option ℕ) (r : Rule) (state : StateMap) (env : List Value)
    (next : List ℕ) where
  meant : (a : Rule-F Rule RuleCase) → out-Rule r ≡ a
      → yields p pick r state env next ≡ yields_level p pick (rule_values p pick 512) (said
      (yields_level p pick) (rule_values p pick 512) a) state env next
  unfolding yields
  meant a e =
      ap (λ f. f state env next) (of_rule-out (yields_level p pick) (rule_values p pick 512) r
      ∙ ap (λ x. yields_level p pick (rule_values p pick 512) (said (yields_level p pick)
      (rule_values p pick 512) x)) e)

  pub yields-Skip : r ≡ form.Skip → yields p pick r state env next ≡ nothing next
  yields-Skip e = meant Rule-F.Skip (ap out-Rule e ∙ out-Skip)

  pub yields-Call : (m : ℕ) (args : List Term) → r ≡ form.Call m args
      → yields p pick r state env next
      ≡ on_terms (all_of (map (eval p state) args) env)
      (λ vs. rule_values p pick 512 m state vs next)
  yields-Call m args e = meant (Rule-F.Call m args) (ap out-Rule e ∙ out-Call m args)

  pub yields-Update : (f : ℕ) (args : List Term) (value : Term) (span : Span) → r
      ≡ form.Update f args value span
      → yields p pick r state env next
      ≡ on_terms (all_of (map (eval p state) args) env) (λ vs.
      on_term (eval p state value env) (λ v. update_of p f span vs v next))
  yields-Update f args value span e = meant (Rule-F.Update f args value span) (ap out-Rule e
      ∙ out-Update f args value span)

  pub yields-Par : (parts : List Rule) (span : Span) → r ≡ form.Par parts span
      → yields p pick r state env next
      ≡ union_of span set.empty (map (λ part. part state env) (map (yields p pick) parts)) next
  unfolding yields
  yields-Par parts span e = meant (Rule-F.Par parts span) (ap out-Rule e ∙ out-Par parts span)

  pub yields-Seq : (parts : List Rule) (span : Span) → r ≡ form.Seq parts span
      → yields p pick r state env next ≡ one_by_one span set.empty (map
      (yields p pick) parts) state env next
  unfolding yields
  yields-Seq parts span e = meant (Rule-F.Seq parts span) (ap out-Rule e ∙ out-Seq parts span)

  pub yields-If : (guard : Term) (first : Rule) (other : Option Rule) → r
      ≡ form.If guard first other
      → yields p pick r state env next
      ≡ on_term (eval p state guard env) (λ v.
      if is_true v then yields p pick first state env next
      else otherwise (option_map (yields p pick) other) state env next)
  unfolding yields
  yields-If guard first None e = meant (Rule-F.If guard first None) (ap out-Rule e
      ∙ out-If guard first None)
  yields-If guard first (Some other) e =
      meant (Rule-F.If guard first (Some other)) (ap out-Rule e ∙ out-If guard first (Some other))

  pub yields-Forall : (ranges : List Domain) (guard : Option Term) (body : Rule) (span : Span)
      → r ≡ form.Forall ranges guard body span
      → yields p pick r state env next
      ≡ union_of span set.empty
      (map (λ c. guarded (guard_of p state guard (env ++ c)) (yields p pick body state (env ++ c)))
      (combinations p.domains state ranges))
      next
  unfolding yields
  yields-Forall ranges guard body span e =
      meant (Rule-F.Forall ranges guard body span) (ap out-Rule e
      ∙ out-Forall ranges guard body span)

  pub yields-Choose : (ranges : List Domain) (guard : Option Term) (body : Rule)
      (other : Option Rule) (place : ℕ)
      → r ≡ form.Choose ranges guard body other place
      → yields p pick r state env next
      ≡ on_found
      (satisfying (λ c. guard_of p state guard (env ++ c)) (combinations p.domains state ranges))
      (choice pick place (λ c. yields p pick body state (env ++ c) next)
      (otherwise (option_map (yields p pick) other) state env next))
  unfolding yields
  yields-Choose ranges guard body None place e =
      meant (Rule-F.Choose ranges guard body None place) (ap out-Rule e
      ∙ out-Choose ranges guard body None place)
  yields-Choose ranges guard body (Some other) place e =
      meant (Rule-F.Choose ranges guard body (Some other) place)
      (ap out-Rule e ∙ out-Choose ranges guard body (Some other) place)

  pub yields-Let : (values : List Term) (body : Rule) → r ≡ form.Let values body
      → yields p pick r state env next
      ≡ bind_all (eval p state) values env (λ inner. yields p pick body state inner next)
  unfolding yields
  yields-Let values body e = meant (Rule-F.Let values body) (ap out-Rule e ∙ out-Let values body)

  pub yields-Switch : (v : Term) (cases : List RuleCase) (other : Option Rule) → r
      ≡ form.Switch v cases other
      → yields p pick r state env next
      ≡ on_term (eval p state v env) (λ w.
      first_case p w (map (case_yields p pick) cases) (option_map
      (yields p pick) other) state env next)
  unfolding yields
  yields-Switch v cases None e =
      meant (Rule-F.Switch v cases None) (ap out-Rule e ∙ out-Switch v cases None)
      ∙ ap (λ cs. on_term (eval p state v env) (λ w. first_case p w cs None state env next))
      (cases_yield p pick cases)
  yields-Switch v cases (Some other) e =
      meant (Rule-F.Switch v cases (Some other)) (ap out-Rule e ∙ out-Switch v cases (Some other))
      ∙ ap (λ cs. on_term (eval p state v env) (λ w.
      first_case p w cs (Some (yields p pick other)) state env next)) (cases_yield p pick cases)

  pub yields-Extend : (d count : ℕ) (body : Rule) (span : Span) → r ≡ form.Extend d count body span
      → yields p pick r state env next ≡ extended d count span (yields p pick body) state env next
  unfolding yields
  yields-Extend d count body span e =
      meant (Rule-F.Extend d count body span) (ap out-Rule e ∙ out-Extend d count body span)

-- a rule yields what one level of it yields, with what each part yields in its place
abbrev pub YieldsByParts : Type 0
YieldsByParts =
    (p : Program) (pick : Option ℕ) (r : Rule)
    → yields p pick r
    ≡ yields_level p pick (rule_values p pick 512)
    (map-Rule Rule RuleCase RuleMeaning (Term × RuleMeaning) (yields p pick) (case_yields p pick)
    (out-Rule r))

case_meaning : (p : Program) (pick : Option ℕ) (c : RuleCase)
    → of_case (yields_level p pick) (rule_values p pick 512) c ≡ case_yields p pick c
unfolding yields
case_meaning p pick c = of_case-is (yields_level p pick) (rule_values p pick 512) c

pub yields-out : YieldsByParts
unfolding yields
yields-out p pick r =
    of_rule-out (yields_level p pick) (rule_values p pick 512) r
    ∙ (λ i. yields_level p pick (rule_values p pick 512)
    (map-Rule Rule RuleCase RuleMeaning (Term × RuleMeaning) (yields p pick)
    (λ c. case_meaning p pick c i) (out-Rule r)))

pub rule_values-nothing : (p : Program) (pick : Option ℕ) (m : ℕ) (state : StateMap)
    (vs : List Value) (next : List ℕ)
    → rule_of p.macros m ≡ None → rule_values p pick 512 m state vs next ≡ nothing next
rule_values-nothing p pick m state vs next e = ap (λ f. f state vs next)
    (rule_values-none p pick m e)
