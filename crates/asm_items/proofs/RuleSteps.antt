-- The items of rules, step by step.
use Rattle.std.proofs.Common.{◌≡◌, ℕ, ◌+◌, ◌<◌, ◌≤◌, Option, Some, None, List, [], ◌∷◌, ◌++◌, length, map, drop, get_or, refl, ap, ◌∙◌}
use Rattle.std.proofs.lemmas.List.{drop_all, drop_more}
use Rattle.asm_syntax.specs.declared.token.Token.{Token}
use Rattle.asm_syntax.specs.declared.tree.RangesTree.{RangesTree}
use Rattle.asm_syntax.specs.declared.tree.BindsTree.{BindsTree}
use Rattle.asm_syntax.specs.declared.tree.TermTree.{TermTree}
use Rattle.asm_syntax.specs.declared.tree.TermsTree.{TermsTree}
use Rattle.asm_syntax.specs.declared.tree.RuleTree.{RuleTree}
use Rattle.asm_syntax.specs.declared.tree.RuleTree.TheOpen.{RuleTree-F}
use Rattle.asm_syntax.specs.declared.tree.RuleTree.TheFolds.{fold-RuleCaseTree, fold_out-RuleTree, fold_out-RuleCaseTree, map-RuleTree}
use Rattle.asm_syntax.specs.declared.tree.RuleTree.TheViews.{out-RuleTree, out-RuleCaseTree, the_lemmas}
use Rattle.asm_syntax.specs.declared.tree.RuleCaseTree.{RuleCaseTree}
use Rattle.asm_program.specs.Items.{Items, NamesMacro, joined, term_items, rule_items, rule_level, rule_case_level}
use Rattle.asm_items.specs.Views.{with_items}
use Rattle.asm_items.specs.Parts.{all_variables, all_ranges, args_of, maybe_term, all_binds, quantifier, more_rules, maybe_rule, rule_cases}
use Rattle.asm_items.proofs.Steps.{with_items-append, with_items-none}

abbrev Form : Type 0
Form = RuleTree-F RuleTree RuleCaseTree

abbrev folded_case : RuleCaseTree → Items
folded_case = fold-RuleCaseTree Items Items rule_level rule_case_level

case-is : (c : RuleCaseTree) → folded_case c ≡ term_items (out-RuleCaseTree c).value ++ rule_items (out-RuleCaseTree c).rule
unfolding rule_items
case-is c = fold_out-RuleCaseTree Items Items rule_level rule_case_level c

cases-are : (cs : List RuleCaseTree) → joined (map folded_case cs) ≡ rule_cases cs
unfolding rule_cases
cases-are [] = refl
cases-are (c ∷ cs) = λ i. case-is c i ++ cases-are cs i

abbrev pub rule_form : Form → Items
rule_form (RuleTree-F.Skip span) = []
rule_form (RuleTree-F.Call name args span) = NamesMacro name ∷ args_of args
rule_form (RuleTree-F.Update name args value span) = args_of args ++ term_items value
rule_form (RuleTree-F.Par first others span) = rule_items first ++ more_rules others
rule_form (RuleTree-F.Seq first others span) = rule_items first ++ more_rules others
rule_form (RuleTree-F.If guard first other span) = term_items guard ++ rule_items first ++ maybe_rule other
rule_form (RuleTree-F.Forall ranges guard body span) = quantifier ranges guard ++ rule_items body
rule_form (RuleTree-F.Choose ranges guard body other span) = quantifier ranges guard ++ rule_items body ++ maybe_rule other
rule_form (RuleTree-F.Let binds body span) = all_binds binds ++ rule_items body
rule_form (RuleTree-F.Switch t cases other span) = term_items t ++ rule_cases cases ++ maybe_rule other
rule_form (RuleTree-F.Extend name first others body span) = all_variables first others ++ rule_items body

abbrev mapped : Form → RuleTree-F Items Items
mapped f = map-RuleTree RuleTree RuleCaseTree Items Items rule_items folded_case f

same_form : (f : Form) → rule_level (mapped f) ≡ rule_form f
unfolding all_variables all_ranges args_of maybe_term all_binds quantifier more_rules maybe_rule
same_form (RuleTree-F.Skip span) = refl
same_form (RuleTree-F.Call name args span) = refl
same_form (RuleTree-F.Update name args value span) = refl
same_form (RuleTree-F.Par first others span) = refl
same_form (RuleTree-F.Seq first others span) = refl
same_form (RuleTree-F.If guard first None span) = refl
same_form (RuleTree-F.If guard first (Some other) span) = refl
same_form (RuleTree-F.Forall ranges guard body span) = refl
same_form (RuleTree-F.Choose ranges guard body None span) = refl
same_form (RuleTree-F.Choose ranges guard body (Some other) span) = refl
same_form (RuleTree-F.Let binds body span) = refl
same_form (RuleTree-F.Switch t cases None span) = ap (λ is. term_items t ++ is ++ []) (cases-are cases)
same_form (RuleTree-F.Switch t cases (Some other) span) = ap (λ is. term_items t ++ is ++ rule_items other) (cases-are cases)
same_form (RuleTree-F.Extend name first others body span) = refl

pub rule_items-out : (r : RuleTree) → rule_items r ≡ rule_form (out-RuleTree r)
unfolding rule_items
rule_items-out r = fold_out-RuleTree Items Items rule_level rule_case_level r ∙ same_form (out-RuleTree r)

module _ (w : Items) where
  pub adds_call : (name : Token) (args : Option TermsTree) → with_items w (NamesMacro name ∷ args_of args) ≡ with_items (with_items w (NamesMacro name ∷ [])) (args_of args)
  adds_call name args = with_items-append w (NamesMacro name ∷ []) (args_of args)

  pub adds_update : (args : Option TermsTree) (value : TermTree) → with_items w (args_of args ++ term_items value) ≡ with_items (with_items w (args_of args)) (term_items value)
  adds_update args value = with_items-append w (args_of args) (term_items value)

  pub adds_rules : (first : RuleTree) (others : List RuleTree) → with_items w (rule_items first ++ more_rules others) ≡ with_items (with_items w (rule_items first)) (more_rules others)
  adds_rules first others = with_items-append w (rule_items first) (more_rules others)

  pub adds_if : (guard : TermTree) (first : RuleTree) (other : Option RuleTree)
      → with_items w (term_items guard ++ rule_items first ++ maybe_rule other) ≡ with_items (with_items (with_items w (term_items guard)) (rule_items first)) (maybe_rule other)
  adds_if guard first other = simp with_items-append

  pub adds_forall : (ranges : RangesTree) (guard : Option TermTree) (body : RuleTree)
      → with_items w (quantifier ranges guard ++ rule_items body) ≡ with_items (with_items w (quantifier ranges guard)) (rule_items body)
  adds_forall ranges guard body = with_items-append w (quantifier ranges guard) (rule_items body)

  pub adds_choose : (ranges : RangesTree) (guard : Option TermTree) (body : RuleTree) (other : Option RuleTree)
      → with_items w (quantifier ranges guard ++ rule_items body ++ maybe_rule other)
      ≡ with_items (with_items (with_items w (quantifier ranges guard)) (rule_items body)) (maybe_rule other)
  adds_choose ranges guard body other = simp with_items-append

  pub adds_let : (binds : BindsTree) (body : RuleTree) → with_items w (all_binds binds ++ rule_items body) ≡ with_items (with_items w (all_binds binds)) (rule_items body)
  adds_let binds body = with_items-append w (all_binds binds) (rule_items body)

  pub adds_switch : (t : TermTree) (cases : List RuleCaseTree) (other : Option RuleTree)
      → with_items w (term_items t ++ rule_cases cases ++ maybe_rule other) ≡ with_items (with_items (with_items w (term_items t)) (rule_cases cases)) (maybe_rule other)
  adds_switch t cases other = simp with_items-append

  pub adds_extend : (first : Token) (others : List Token) (body : RuleTree)
      → with_items w (all_variables first others ++ rule_items body) ≡ with_items (with_items w (all_variables first others)) (rule_items body)
  adds_extend first others body = with_items-append w (all_variables first others) (rule_items body)

  pub adds_quantifier : (ranges : RangesTree) (guard : Option TermTree) → with_items w (quantifier ranges guard) ≡ with_items (with_items w (all_ranges ranges)) (maybe_term guard)
  unfolding quantifier
  adds_quantifier ranges guard = with_items-append w (all_ranges ranges) (maybe_term guard)

  pub more_rules-drop : (rs : List RuleTree) (i : ℕ) (d : RuleTree) → i < length rs
      → with_items w (more_rules (drop i rs)) ≡ with_items (with_items w (rule_items (get_or rs i d))) (more_rules (drop (i + 1) rs))
  unfolding more_rules
  more_rules-drop rs i d h =
      ap (λ es. with_items w (joined (map rule_items es))) (drop_more rs i d h)
      ∙ with_items-append w (rule_items (get_or rs i d)) (joined (map rule_items (drop (i + 1) rs)))

  pub more_rules-end : (rs : List RuleTree) (i : ℕ) → length rs ≤ i → with_items w (more_rules (drop i rs)) ≡ w
  unfolding more_rules
  more_rules-end rs i h = ap (λ es. with_items w (joined (map rule_items es))) (drop_all i rs h) ∙ with_items-none w

  pub adds_no_rule : with_items w (maybe_rule None) ≡ w
  unfolding maybe_rule
  adds_no_rule = with_items-none w

  pub adds_rule : (r : RuleTree) → with_items w (maybe_rule (Some r)) ≡ with_items w (rule_items r)
  unfolding maybe_rule
  adds_rule r = refl

  pub rule_cases-drop : (cs : List RuleCaseTree) (i : ℕ) (d : RuleCaseTree) → i < length cs
      → with_items w (rule_cases (drop i cs))
      ≡ with_items (with_items (with_items w (term_items (out-RuleCaseTree (get_or cs i d)).value)) (rule_items (out-RuleCaseTree (get_or cs i d)).rule)) (rule_cases (drop (i + 1) cs))
  unfolding rule_cases
  rule_cases-drop cs i d h = ap (λ es. with_items w (rule_cases es)) (drop_more cs i d h) ∙ simp with_items-append

  pub rule_cases-end : (cs : List RuleCaseTree) (i : ℕ) → length cs ≤ i → with_items w (rule_cases (drop i cs)) ≡ w
  unfolding rule_cases
  rule_cases-end cs i h = ap (λ es. with_items w (rule_cases es)) (drop_all i cs h) ∙ with_items-none w

pub ruleset rule_steps = (rule_items-out, adds_call, adds_update, adds_rules, adds_if, adds_forall, adds_choose, adds_let, adds_switch, adds_extend, with_items-none, the_lemmas)

pub ruleset quantifier_steps = (adds_quantifier)

pub ruleset more_rules_steps = (more_rules-drop, more_rules-end, the_lemmas)

pub ruleset maybe_rule_steps = (adds_no_rule, adds_rule, the_lemmas)

pub ruleset rule_cases_steps = (rule_cases-drop, rule_cases-end, the_lemmas)
