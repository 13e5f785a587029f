-- What is so of each rule is shown from what is so of its parts, and the meaning of a rule by its
-- form.
use Rattle.std.proofs.Common.{◌≡◌, ℕ, Option, Some, None, List, [], ◌∷◌, ◌++◌, map, sym, subst, ◌∙◌}
use Rattle.std.proofs.Common.{rules}
use Rattle.std.specs.List.{AllByRecursion}
use Rattle.asm_program.specs.declared.trees.Term.{Term}
use Rattle.asm_program.specs.declared.trees.Rule.{Rule}
use Rattle.asm_program.specs.declared.trees.RuleCase.{RuleCase}
use Rattle.asm_program.specs.declared.trees.Rule.TheOpen.{Rule-F, RuleCase-F}
use Rattle.asm_program.specs.declared.trees.Rule.TheFolds.{fold-RuleCase, fold_out-Rule}
use Rattle.asm_program.specs.declared.trees.Rule.TheFolds.{fold_out-RuleCase, ind-Rule, map-Rule}
use Rattle.asm_program.specs.declared.trees.Rule.TheViews.{out-Rule, out-RuleCase, roll-Rule}
use Rattle.asm_program.specs.declared.trees.Rule.TheViews.{roll-RuleCase, the_lemmas}
use Rattle.asm_program.specs.Forms.{optional, of_rule, rule_case_pair}

-- ---- parts

-- the rule of a case
abbrev pub case_rule : RuleCase → Rule
case_rule c = (out-RuleCase c).rule

abbrev pub case_term : RuleCase → Term
case_term c = (out-RuleCase c).value

-- the rules that a rule is made of
abbrev pub sub_rules : Rule-F Rule RuleCase → List Rule
sub_rules Rule-F.Skip = []
sub_rules (Rule-F.Call m args) = []
sub_rules (Rule-F.Update f args value span) = []
sub_rules (Rule-F.Par rules span) = rules
sub_rules (Rule-F.Seq rules span) = rules
sub_rules (Rule-F.If guard first other) = first ∷ optional other
sub_rules (Rule-F.Forall ranges guard body span) = body ∷ []
sub_rules (Rule-F.Choose ranges guard body other place) = body ∷ optional other
sub_rules (Rule-F.Let values body) = body ∷ []
sub_rules (Rule-F.Switch v cases other) = map case_rule cases ++ optional other
sub_rules (Rule-F.Extend d count body span) = body ∷ []

out_roll : (a : Rule-F Rule RuleCase) → out-Rule (roll-Rule a) ≡ a
out_roll a = search (rules, the_lemmas)

out_roll_case : (a : RuleCase-F Rule RuleCase) → out-RuleCase (roll-RuleCase a) ≡ a
out_roll_case a = search (rules, the_lemmas)

module _ (P : Rule → Type 0) where
  abbrev OfCase : RuleCase → Type 0
  OfCase c = P (case_rule c)

  abbrev Held : Type 0
  Held = (r : Rule) × P r

  abbrev HeldCase : Type 0
  HeldCase = (c : RuleCase) × OfCase c

  all_held : (hs : List Held) → AllByRecursion P (map (λ h. h.0) hs)
  all_held [] = tt
  all_held (h ∷ hs) = (h.1, all_held hs)

  option_held : (o : Option Held) → AllByRecursion P (optional
      (elim o as (λ _. Option Rule) [ None ↦ None | Some h ↦ Some h.0 ]))
  option_held None = tt
  option_held (Some h) = (h.1, tt)

  cases_held : (hs : List HeldCase) (o : List Rule) → AllByRecursion P o
      → AllByRecursion P (map case_rule (map (λ h. h.0) hs) ++ o)
  cases_held [] o k = k
  cases_held (h ∷ hs) o k = (h.1, cases_held hs o k)

  parts_held : (y : Rule-F Held HeldCase) → AllByRecursion P
      (sub_rules (map-Rule Held HeldCase Rule RuleCase (λ h. h.0) (λ h. h.0) y))
  parts_held Rule-F.Skip = tt
  parts_held (Rule-F.Call m args) = tt
  parts_held (Rule-F.Update f args value span) = tt
  parts_held (Rule-F.Par rules span) = all_held rules
  parts_held (Rule-F.Seq rules span) = all_held rules
  parts_held (Rule-F.If guard first None) = (first.1, tt)
  parts_held (Rule-F.If guard first (Some other)) = (first.1, (other.1, tt))
  parts_held (Rule-F.Forall ranges guard body span) = (body.1, tt)
  parts_held (Rule-F.Choose ranges guard body None place) = (body.1, tt)
  parts_held (Rule-F.Choose ranges guard body (Some other) place) = (body.1, (other.1, tt))
  parts_held (Rule-F.Let values body) = (body.1, tt)
  parts_held (Rule-F.Switch v cases None) = cases_held cases [] tt
  parts_held (Rule-F.Switch v cases (Some other)) = cases_held cases (other.0 ∷ []) (other.1, tt)
  parts_held (Rule-F.Extend d count body span) = (body.1, tt)

  pub by_parts : ((r : Rule) (a : Rule-F Rule RuleCase) → out-Rule r ≡ a
      → AllByRecursion P (sub_rules a) → P r) → (r : Rule) → P r
  by_parts step r = ind-Rule P OfCase
      (λ x y is. step (roll-Rule x) x (out_roll x) (subst (λ z. AllByRecursion P (sub_rules z)) is
      (parts_held y)))
      (λ x y is. subst (λ z. P z.rule) (is ∙ sym (out_roll_case x)) y.rule.1)
      r

-- ---- what a rule yields, by its form

module _ {X : Type 0} (level : (ℕ → X) → Rule-F X (Term × X) → X) (calls : ℕ → X) where
  -- one level, with what is said of each part in its place
  abbrev pub level_of : Rule-F Rule RuleCase → X
  level_of a =
      level calls (map-Rule Rule RuleCase X (Term × X) (of_rule level calls)
      (λ c. (case_term c, of_rule level calls (case_rule c))) a)

  case_out : (c : RuleCase) → fold-RuleCase X (Term × X) (level calls) rule_case_pair c
      ≡ (case_term c, of_rule level calls (case_rule c))
  unfolding of_rule
  case_out c = fold_out-RuleCase X (Term × X) (level calls) rule_case_pair c

  pub of_rule-out : (r : Rule) (a : Rule-F Rule RuleCase) → out-Rule r ≡ a
      → of_rule level calls r ≡ level_of a
  unfolding of_rule
  of_rule-out r a e =
      fold_out-Rule X (Term × X) (level calls) rule_case_pair r
      ∙ (λ i. level calls (map-Rule Rule RuleCase X (Term × X) (of_rule level calls)
      (λ c. case_out c i) (e i)))
