-- Typing of rules: what is refused of a rule, and the rule with numbers for its names.
use Rattle.std.specs.Prelude.{ℕ, ◌+◌, Bool, true, false, not, ◌&&◌, if◌then◌else◌, Option, Some, None, is_some, List, [], ◌∷◌, ◌++◌, map, length, slice_get}
use Rattle.std.specs.Option.{option_map_or}
use Rattle.asm_value.specs.declared.domain.Domain.{Domain}
use Rattle.asm_syntax.specs.declared.token.Span.{Span}
use Rattle.asm_syntax.specs.declared.token.Token.{Token}
use Rattle.asm_syntax.specs.declared.tree.RangesTree.{RangesTree}
use Rattle.asm_syntax.specs.declared.tree.BindsTree.{BindsTree}
use Rattle.asm_syntax.specs.declared.tree.TermTree.{TermTree}
use Rattle.asm_syntax.specs.declared.tree.TermsTree.{TermsTree}
use Rattle.asm_syntax.specs.declared.tree.RuleTree.{RuleTree}
use Rattle.asm_syntax.specs.declared.tree.RuleTree.TheOpen.{RuleTree-F, RuleCaseTree-F}
use Rattle.asm_syntax.specs.declared.tree.RuleTree.TheFolds.{fold-RuleTree}
use Rattle.asm_syntax.specs.Marks.{text_of}
use Rattle.asm_typing.specs.declared.types.Type.{«Type» as TermType}
use Rattle.asm_typing.specs.declared.types.Type.TheVariants as type
use Rattle.asm_typing.specs.Domains.{type_of}
use Rattle.asm_typing.specs.Fits.{fits}
use Rattle.asm_program.specs.declared.named.Named.{Named}
use Rattle.asm_program.specs.declared.named.Named.TheVariants as named
use Rattle.asm_program.specs.declared.program.FunctionKind.{FunctionKind}
use Rattle.asm_program.specs.declared.program.FunctionKind.TheVariants as kinds
use Rattle.asm_program.specs.declared.trees.Term.{Term}
use Rattle.asm_program.specs.declared.trees.Rule.{Rule}
use Rattle.asm_program.specs.declared.trees.RuleCase.{RuleCase}
use Rattle.asm_program.specs.declared.trees.Rule.TheVariants as rules
use Rattle.asm_program.specs.declared.trees.Rule.TheViews.{roll-RuleCase}
use Rattle.asm_program.specs.declared.type_refusal.TypeRefusal.{TypeRefusal}
use Rattle.asm_program.specs.declared.type_refusal.TypeRefusal.TheVariants.{Mismatch}
use Rattle.asm_program.specs.Items.{bind_of, binds_of, terms_of, list_of_ranges}
use Rattle.asm_program.specs.Signatures.{Header, find}
use Rattle.asm_program.specs.TypedTerms.{Scope, Variables, Checked, Typing, Bound, or_else, unless, unknown, with_variable, ranges_refused, range_domains, with_ranges, all_refused, types, checked_terms, at, truth_refused, args_fit, call_refused, bound, join_with, checked, some_checked, some_term, option_at}

-- what is refused of a rule; where that is nothing, its program's rule, given how many `choose`
-- words are before it in the text, and how many it has
pub record CheckedRule : Type 0 where
  pub refused : List TypeRefusal
  pub rule : ℕ → Rule
  pub chooses : ℕ

abbrev pub RuleTyping : Type 0
RuleTyping = Variables → CheckedRule

abbrev pub simple : List TypeRefusal → Rule → CheckedRule
simple refused rule = record { refused = refused; rule = λ n. rule; chooses = 0 }

-- ---- updates and calls

abbrev pub is_updated : FunctionKind → Bool
is_updated kinds.Controlled = true
is_updated kinds.Shared = true
is_updated kinds.Out = true
is_updated _ = false

-- the function is controlled, shared or out, and its arguments and the value fit
abbrev pub update_fits : Header → List TermType → TermType → Bool
update_fits h args value =
    is_updated h.kind && args_fit args h.args && fits value (type_of h.result)

abbrev pub update_checked : ℕ → List TypeRefusal → List Checked → Checked → Span → CheckedRule
update_checked f refused args value span =
    simple refused (rules.Update f (checked_terms args) value.term span)

abbrev pub parts_refused : List Checked → Checked → List TypeRefusal
parts_refused args value = all_refused args ++ value.refused

module _ (scope : Scope) where
  abbrev pub function_updated : ℕ → Option Header → List Checked → Checked → Span → CheckedRule
  function_updated f None args value span = update_checked f [] args value span
  function_updated f (Some h) args value span =
      update_checked f
      (or_else (parts_refused args value)
      (unless (update_fits h (types args) value.type) (Mismatch span)))
      args value span

  abbrev pub named_updated : Option Named → Token → List Checked → Checked → Span → CheckedRule
  named_updated None name args value span =
      update_checked 0 (unknown name ∷ parts_refused args value) args value span
  named_updated (Some (named.Function f)) name args value span =
      function_updated f (slice_get scope.functions f) args value span
  named_updated (Some _) name args value span =
      update_checked 0 (or_else (parts_refused args value) (Mismatch span ∷ [])) args value span

  abbrev pub macro_called : ℕ → List Domain → List Checked → Span → CheckedRule
  macro_called m params args span =
      simple (call_refused args params span) (rules.Call m (checked_terms args))

  abbrev pub not_called : TypeRefusal → List Checked → CheckedRule
  not_called r args = simple (r ∷ all_refused args) rules.Skip

  -- what is called is a macro rule other than the main rule
  abbrev pub rule_called : Option Named → Token → List Checked → Span → CheckedRule
  rule_called None name args span = not_called (unknown name) args
  rule_called (Some (named.Macro m)) name args span =
      option_map_or (λ params. macro_called m params args span) (slice_get scope.macros m)
      (simple [] rules.Skip)
  rule_called (Some _) name args span = not_called (Mismatch name.span) args

-- ---- rules with rules in them

abbrev pub rules_refused : List CheckedRule → List TypeRefusal
rules_refused [] = []
rules_refused (r ∷ rs) = r.refused ++ rules_refused rs

abbrev pub all_chooses : List CheckedRule → ℕ
all_chooses [] = 0
all_chooses (r ∷ rs) = r.chooses + all_chooses rs

-- each rule with the `choose` words of those before it counted
abbrev pub numbered : List CheckedRule → ℕ → List Rule
numbered [] n = []
numbered (r ∷ rs) n = r.rule n ∷ numbered rs (n + r.chooses)

abbrev pub many : (List Rule → Span → Rule) → List CheckedRule → Span → CheckedRule
many form rs span = record {
  refused = rules_refused rs;
  rule = λ n. form (numbered rs n) span;
  chooses = all_chooses rs;
}

abbrev pub other_rules : Option CheckedRule → List CheckedRule
other_rules None = []
other_rules (Some r) = r ∷ []

abbrev pub other_rule : Option CheckedRule → ℕ → Option Rule
other_rule None n = None
other_rule (Some r) n = Some (r.rule n)

-- a guard is Boolean
abbrev pub guard_refused : Checked → List TypeRefusal
guard_refused guard = or_else guard.refused (truth_refused guard)

abbrev pub guards_refused : Option Checked → List TypeRefusal
guards_refused None = []
guards_refused (Some guard) = guard_refused guard

abbrev pub if_checked : Checked → CheckedRule → Option CheckedRule → CheckedRule
if_checked guard first other = record {
  refused = guard_refused guard ++ first.refused ++ rules_refused (other_rules other);
  rule = λ n. rules.If guard.term (first.rule n) (other_rule other (n + first.chooses));
  chooses = first.chooses + all_chooses (other_rules other);
}

abbrev pub forall_checked : List TypeRefusal → List Domain → Option Checked → CheckedRule → Span
    → CheckedRule
forall_checked ranges domains guard body span = record {
  refused = ranges ++ guards_refused guard ++ body.refused;
  rule = λ n. rules.Forall domains (some_term guard) (body.rule n) span;
  chooses = body.chooses;
}

-- the word `choose` itself is before its body
abbrev pub choose_checked : List TypeRefusal → List Domain → Option Checked → CheckedRule
    → Option CheckedRule → CheckedRule
choose_checked ranges domains guard body other = record {
  refused = ranges ++ guards_refused guard ++ body.refused ++ rules_refused (other_rules other);
  rule = λ n.
      rules.Choose domains (some_term guard) (body.rule (n + 1))
      (other_rule other (n + 1 + body.chooses)) n;
  chooses = 1 + body.chooses + all_chooses (other_rules other);
}

abbrev pub let_checked : Bound → CheckedRule → CheckedRule
let_checked b body = record {
  refused = b.refused ++ body.refused;
  rule = λ n. rules.Let b.terms (body.rule n);
  chooses = body.chooses;
}

-- ---- switches

abbrev pub case_refused : List (Checked × CheckedRule) → List TypeRefusal
case_refused [] = []
case_refused (c ∷ cs) = c.0.refused ++ c.1.refused ++ case_refused cs

abbrev pub case_values : List (Checked × CheckedRule) → List Checked
case_values = map (λ c. c.0)

abbrev pub case_rules : List (Checked × CheckedRule) → List CheckedRule
case_rules = map (λ c. c.1)

abbrev pub numbered_cases : List (Checked × CheckedRule) → ℕ → List RuleCase
numbered_cases [] n = []
numbered_cases (c ∷ cs) n =
    roll-RuleCase (record {
      value =
          c.0.term;
      rule = c.1.rule n;
    }) ∷ numbered_cases cs (n + c.1.chooses)

-- the whole is tested where no part is refused
abbrev pub own_refused : List TypeRefusal → List TypeRefusal → List TypeRefusal
own_refused [] own = own
own_refused (r ∷ rs) own = []

-- each case joins with the term after `switch`, at the rule
abbrev pub switch_checked : Checked → List (Checked × CheckedRule) → Option CheckedRule → Span
    → CheckedRule
switch_checked value cases other span = record {
  refused =
      own_refused (all_refused (value ∷ case_values cases))
      (unless (join_with value.type (types (case_values cases))) (Mismatch span))
      ++ value.refused ++ case_refused cases ++ rules_refused (other_rules other);
  rule = λ n.
      rules.Switch value.term (numbered_cases cases n)
      (other_rule other (n + all_chooses (case_rules cases)));
  chooses = all_chooses (case_rules cases) + all_chooses (other_rules other);
}

-- ---- new members

abbrev pub with_members : Variables → List Token → TermType → Variables
with_members variables [] type = variables
with_members variables (t ∷ ts) type = with_members (with_variable variables t type) ts type

abbrev pub extend_checked : List TypeRefusal → ℕ → ℕ → CheckedRule → Span → CheckedRule
extend_checked own d count body span = record {
  refused = own ++ body.refused;
  rule = λ n. rules.Extend d count (body.rule n) span;
  chooses = body.chooses;
}

-- what has new members is an abstract domain
abbrev pub extended : Option Named → Token → List Token → (TermType → CheckedRule) → Span
    → CheckedRule
extended None name ts body span =
    extend_checked (unknown name ∷ []) 0 (length ts) (body type.Untyped) span
extended (Some (named.Abstract d)) name ts body span =
    extend_checked [] d (length ts) (body (type.Abstract d)) span
extended (Some _) name ts body span =
    extend_checked (Mismatch name.span ∷ []) 0 (length ts) (body type.Untyped) span

-- ---- rules

module _ (scope : Scope) where
  abbrev pub terms_at : Variables → List TermTree → List Checked
  terms_at variables = map (λ t. checked scope t variables)

  abbrev pub option_term : Variables → Option TermTree → Option Checked
  option_term variables None = None
  option_term variables (Some t) = Some (checked scope t variables)

  abbrev pub binds_typing : BindsTree → List (Token × Typing)
  binds_typing b = map (λ c. ((bind_of c).0, checked scope (bind_of c).1)) (binds_of b)

  abbrev pub cases_at : Variables → List (TermTree × RuleTyping) → List (Checked × CheckedRule)
  cases_at variables = map (λ c. (checked scope c.0 variables, c.1 variables))

  abbrev pub check_rule_level : RuleTree-F RuleTyping (TermTree × RuleTyping) → RuleTyping
  check_rule_level (RuleTree-F.Skip span) variables = simple [] rules.Skip
  check_rule_level (RuleTree-F.Call name args span) variables =
      rule_called scope (find scope.names (text_of name)) name
      (terms_at variables (terms_of args)) span
  check_rule_level (RuleTree-F.Update name args value span) variables =
      named_updated scope (find scope.names (text_of name)) name
      (terms_at variables (terms_of args))
      (checked scope value variables) span
  check_rule_level (RuleTree-F.Par first others span) variables =
      many rules.Par (at variables (first ∷ others)) span
  check_rule_level (RuleTree-F.Seq first others span) variables =
      many rules.Seq (at variables (first ∷ others)) span
  check_rule_level (RuleTree-F.If guard first other span) variables =
      if_checked (checked scope guard variables) (first variables) (option_at variables other)
  check_rule_level (RuleTree-F.Forall ranges guard body span) variables =
      let all = list_of_ranges ranges in
      let inner = with_ranges scope variables all in
      forall_checked (ranges_refused scope all) (range_domains scope all) (option_term inner guard)
      (body inner) span
  check_rule_level (RuleTree-F.Choose ranges guard body other span) variables =
      let all = list_of_ranges ranges in
      let inner = with_ranges scope variables all in
      choose_checked (ranges_refused scope all) (range_domains scope all) (option_term inner guard)
      (body inner) (option_at variables other)
  check_rule_level (RuleTree-F.Let binds body span) variables =
      let b = bound variables (binds_typing binds) in let_checked b (body b.variables)
  check_rule_level (RuleTree-F.Switch t cases other span) variables =
      switch_checked (checked scope t variables) (cases_at variables cases)
      (option_at variables other) span
  check_rule_level (RuleTree-F.Extend name first others body span) variables =
      extended (find scope.names (text_of name)) name (first ∷ others)
      (λ type. body (with_members variables (first ∷ others) type)) span

  abbrev pub rule_case : RuleCaseTree-F RuleTyping (TermTree × RuleTyping) → TermTree × RuleTyping
  rule_case c = (c.value, c.rule)

  -- a rule over some variables
  unfoldable pub checked_rule : RuleTree → RuleTyping
  checked_rule = fold-RuleTree RuleTyping (TermTree × RuleTyping) check_rule_level rule_case
