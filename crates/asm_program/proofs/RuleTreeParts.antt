-- What is so of each rule of a text is shown from what is so of its parts, and what the checker
-- tells of a rule by its form.
use Rattle.std.proofs.Common.{◌≡◌, Some, None, List, map, sym, subst, ◌∙◌, rules}
use Rattle.std.specs.List.{AllByRecursion}
use Rattle.asm_syntax.specs.declared.tree.TermTree.{TermTree}
use Rattle.asm_syntax.specs.declared.tree.RuleCaseTree.{RuleCaseTree}
use Rattle.asm_syntax.specs.declared.tree.RuleTree.{RuleTree}
use Rattle.asm_syntax.specs.declared.tree.RuleTree.TheOpen.{RuleTree-F, RuleCaseTree-F}
use Rattle.asm_syntax.specs.declared.tree.RuleTree.TheFolds.{fold-RuleCaseTree, fold_out-RuleTree}
use Rattle.asm_syntax.specs.declared.tree.RuleTree.TheFolds.{fold_out-RuleCaseTree, ind-RuleTree}
use Rattle.asm_syntax.specs.declared.tree.RuleTree.TheFolds.{map-RuleTree}
use Rattle.asm_syntax.specs.declared.tree.RuleTree.TheViews.{out-RuleTree, out-RuleCaseTree}
use Rattle.asm_syntax.specs.declared.tree.RuleTree.TheViews.{roll-RuleTree, roll-RuleCaseTree}
use Rattle.asm_syntax.specs.declared.tree.RuleTree.TheViews.{the_lemmas}
use Rattle.asm_program.specs.Forms.{optional}
use Rattle.asm_program.specs.TypedTerms.{Scope, Variables, Checked, at}
use Rattle.asm_program.specs.TypedRules.{CheckedRule, RuleTyping, check_rule_level, rule_case}
use Rattle.asm_program.specs.TypedRules.{checked_rule, cases_at}
use Rattle.asm_program.proofs.TermTreeParts.{all_held}

-- one level of a rule
abbrev pub Form : Type 0
Form = RuleTree-F RuleTree RuleCaseTree

-- ---- induction

out_roll : (a : Form) → out-RuleTree (roll-RuleTree a) ≡ a
out_roll a = search (rules, the_lemmas)

out_roll_case : (a : RuleCaseTree-F RuleTree RuleCaseTree)
    → out-RuleCaseTree (roll-RuleCaseTree a) ≡ a
out_roll_case a = search (rules, the_lemmas)

module _ (P : RuleTree → Type 0) where
  abbrev pub OfCase : RuleCaseTree → Type 0
  OfCase c = P (out-RuleCaseTree c).rule

  -- of each rule of the form
  abbrev pub OfParts : Form → Type 0
  OfParts (RuleTree-F.Skip span) = Unit {0}
  OfParts (RuleTree-F.Call name args span) = Unit {0}
  OfParts (RuleTree-F.Update name args value span) = Unit {0}
  OfParts (RuleTree-F.Par first others span) = P first × AllByRecursion P others
  OfParts (RuleTree-F.Seq first others span) = P first × AllByRecursion P others
  OfParts (RuleTree-F.If guard first other span) = P first × AllByRecursion P (optional other)
  OfParts (RuleTree-F.Forall ranges guard body span) = P body
  OfParts (RuleTree-F.Choose ranges guard body other span) =
      P body × AllByRecursion P (optional other)
  OfParts (RuleTree-F.Let binds body span) = P body
  OfParts (RuleTree-F.Switch t cases other span) =
      AllByRecursion OfCase cases × AllByRecursion P (optional other)
  OfParts (RuleTree-F.Extend name first others body span) = P body

  abbrev Held : Type 0
  Held = (r : RuleTree) × P r

  abbrev HeldCase : Type 0
  HeldCase = (c : RuleCaseTree) × OfCase c

  parts_held : (y : RuleTree-F Held HeldCase)
      → OfParts (map-RuleTree Held HeldCase RuleTree RuleCaseTree (λ h. h.0) (λ h. h.0) y)
  parts_held (RuleTree-F.Skip span) = tt
  parts_held (RuleTree-F.Call name args span) = tt
  parts_held (RuleTree-F.Update name args value span) = tt
  parts_held (RuleTree-F.Par first others span) = (first.1, all_held P others)
  parts_held (RuleTree-F.Seq first others span) = (first.1, all_held P others)
  parts_held (RuleTree-F.If guard first None span) = (first.1, tt)
  parts_held (RuleTree-F.If guard first (Some other) span) = (first.1, (other.1, tt))
  parts_held (RuleTree-F.Forall ranges guard body span) = body.1
  parts_held (RuleTree-F.Choose ranges guard body None span) = (body.1, tt)
  parts_held (RuleTree-F.Choose ranges guard body (Some other) span) = (body.1, (other.1, tt))
  parts_held (RuleTree-F.Let binds body span) = body.1
  parts_held (RuleTree-F.Switch t cases None span) = (all_held OfCase cases, tt)
  parts_held (RuleTree-F.Switch t cases (Some other) span) =
      (all_held OfCase cases, (other.1, tt))
  parts_held (RuleTree-F.Extend name first others body span) = body.1

  pub by_parts : ((r : RuleTree) (a : Form) → out-RuleTree r ≡ a → OfParts a → P r)
      → (r : RuleTree) → P r
  by_parts step r = ind-RuleTree P OfCase
      (λ x y is. step (roll-RuleTree x) x (out_roll x) (subst OfParts is (parts_held y)))
      (λ x y is. subst (λ z. P z.rule) (is ∙ sym (out_roll_case x)) y.rule.1)
      r

-- ---- what the checker tells, by the form

module _ (scope : Scope) where
  abbrev pub case_typing : RuleCaseTree → TermTree × RuleTyping
  case_typing c = ((out-RuleCaseTree c).value, checked_rule scope (out-RuleCaseTree c).rule)

  -- one level, with what the checker tells of each rule in its place
  abbrev pub told : Form → RuleTree-F RuleTyping (TermTree × RuleTyping)
  told a =
      map-RuleTree RuleTree RuleCaseTree RuleTyping (TermTree × RuleTyping) (checked_rule scope)
      case_typing a

  -- what the checker tells of some rules, and of some cases
  abbrev pub rules_at : Variables → List RuleTree → List CheckedRule
  rules_at variables rs = at variables (map (checked_rule scope) rs)

  abbrev pub cases_of : Variables → List RuleCaseTree → List (Checked × CheckedRule)
  cases_of variables cs = cases_at scope variables (map case_typing cs)

  case_out : (c : RuleCaseTree)
      → fold-RuleCaseTree RuleTyping (TermTree × RuleTyping) (check_rule_level scope)
      (rule_case scope) c ≡ case_typing c
  unfolding checked_rule
  case_out c =
      fold_out-RuleCaseTree RuleTyping (TermTree × RuleTyping) (check_rule_level scope)
      (rule_case scope) c

  pub checked_rule-out : (r : RuleTree) (a : Form) → out-RuleTree r ≡ a
      → checked_rule scope r ≡ check_rule_level scope (told a)
  unfolding checked_rule
  checked_rule-out r a e =
      fold_out-RuleTree RuleTyping (TermTree × RuleTyping) (check_rule_level scope)
      (rule_case scope) r
      ∙ (λ i. check_rule_level scope (map-RuleTree RuleTree RuleCaseTree RuleTyping
      (TermTree × RuleTyping) (checked_rule scope) (λ c. case_out c i) (e i)))
