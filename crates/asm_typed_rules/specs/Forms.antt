-- The forms of rules with their parts, as the definition of typing has them.
use Rattle.std.specs.Prelude.{◌≡◌, ℕ, Bool, true, false, Option, Some, None, Result, Ok, Err, List, [], ◌∷◌, ◌++◌, map}
use Rattle.asm_value.specs.declared.domain.Domain.{Domain}
use Rattle.asm_syntax.specs.declared.token.Span.{Span}
use Rattle.asm_syntax.specs.declared.token.Token.{Token}
use Rattle.asm_syntax.specs.declared.tree.RuleTree.{RuleTree}
use Rattle.asm_syntax.specs.declared.tree.RuleCaseTree.{RuleCaseTree}
use Rattle.asm_syntax.specs.declared.tree.TermTree.{TermTree}
use Rattle.asm_syntax.specs.declared.tree.RuleTree.TheViews.{out-RuleCaseTree}
use Rattle.asm_syntax.specs.Marks.{text_of}
use Rattle.asm_typing.specs.declared.types.Type.{«Type» as TermType}
use Rattle.asm_typing.specs.declared.types.Type.TheVariants as type
use Rattle.asm_program.specs.declared.named.Named.{Named}
use Rattle.asm_program.specs.declared.trees.Rule.{Rule}
use Rattle.asm_program.specs.declared.trees.RuleCase.{RuleCase}
use Rattle.asm_program.specs.declared.trees.Rule.TheVariants as rules
use Rattle.asm_program.specs.declared.trees.Rule.TheViews.{roll-RuleCase}
use Rattle.asm_program.specs.declared.type_refusal.TypeRefusal.{TypeRefusal}
use Rattle.asm_program.specs.declared.type_refusal.TypeRefusal.TheVariants.{Mismatch, NoMemory}
use Rattle.asm_program.specs.Signatures.{Header, find}
use Rattle.asm_program.specs.TypedTerms.{Scope, Variables, Checked, Bound, or_else, unless, types, all_refused, checked}
use Rattle.asm_program.specs.TypedRules as typed
use Rattle.asm_program.specs.TypedRules.{CheckedRule, checked_rule}
use Rattle.asm_typed.specs.Answers.{Gives}
use Rattle.asm_typed.specs.Own.{joins_refused}
use Rattle.asm_typed_rules.specs.declared.typed.TypedRule.{TypedRule}

-- the rule where so many `choose` words are before it, and how many it has
abbrev pub IsRule : TypedRule → CheckedRule → ℕ → Type 0
IsRule r c before = (r.rule ≡ c.rule before) × (r.chooses ≡ c.chooses)

abbrev pub GivesRule : Result TypedRule TypeRefusal → CheckedRule → ℕ → Type 0
GivesRule result c before = Gives result c.refused (λ r. IsRule r c before)

-- a rule without `choose` words
abbrev pub GivesSimple : Result Rule TypeRefusal → CheckedRule → Type 0
GivesSimple result c = Gives result c.refused (λ r. (n : ℕ) → r ≡ c.rule n)

-- ---- updates and calls

unfoldable pub update_refused : Header → List TermType → TermType → Span → List TypeRefusal
update_refused h ts t span = unless (typed.update_fits h ts t) (Mismatch span)

unfoldable pub updated : Scope → ℕ → Header → List Checked → Checked → Span → CheckedRule
updated scope f h cs v span = typed.function_updated scope f (Some h) cs v span

unfoldable pub not_updated : List Checked → Checked → Span → List TypeRefusal
not_updated cs v span = or_else (typed.parts_refused cs v) (Mismatch span ∷ [])

unfoldable pub update : Scope → Token → List Checked → Checked → Span → CheckedRule
update scope name cs v span =
    typed.named_updated scope (find scope.names (text_of name)) name cs v span

unfoldable pub called : Scope → ℕ → List Domain → List Checked → Span → CheckedRule
called scope m params cs span = typed.macro_called scope m params cs span

unfoldable pub call : Scope → Token → List Checked → Span → CheckedRule
call scope name cs span = typed.rule_called scope (find scope.names (text_of name)) name cs span

-- ---- parts

unfoldable pub rules_at : Scope → Variables → List RuleTree → List CheckedRule
rules_at scope variables rs = map (λ r. checked_rule scope r variables) rs

unfoldable pub other_at : Scope → Variables → Option RuleTree → Option CheckedRule
other_at scope variables None = None
other_at scope variables (Some r) = Some (checked_rule scope r variables)

unfoldable pub guard_at : Scope → Variables → Option TermTree → Option Checked
guard_at scope variables None = None
guard_at scope variables (Some t) = Some (checked scope t variables)

-- what each case is compared with
unfoldable pub values_at : Scope → Variables → List RuleCaseTree → List Checked
values_at scope variables cs = map (λ c. checked scope (out-RuleCaseTree c).value variables) cs

-- what a case is compared with, and its rule
abbrev pub case_at : Scope → Variables → RuleCaseTree → Checked × CheckedRule
case_at scope variables c = (
  checked scope (out-RuleCaseTree c).value variables,
  checked_rule scope (out-RuleCaseTree c).rule variables,
)

unfoldable pub cases_at : Scope → Variables → List RuleCaseTree → List (Checked × CheckedRule)
cases_at scope variables cs = map (case_at scope variables) cs

unfoldable pub one_case_refused : Checked × CheckedRule → List TypeRefusal
one_case_refused c = c.0.refused ++ c.1.refused

-- the words of lists of rules and cases
unfoldable pub all_rules_refused : List CheckedRule → List TypeRefusal
all_rules_refused rs = typed.rules_refused rs

unfoldable pub all_chooses : List CheckedRule → ℕ
all_chooses rs = typed.all_chooses rs

unfoldable pub numbered : List CheckedRule → ℕ → List Rule
numbered rs n = typed.numbered rs n

unfoldable pub other_refused : Option CheckedRule → List TypeRefusal
other_refused o = typed.rules_refused (typed.other_rules o)

unfoldable pub other_chooses : Option CheckedRule → ℕ
other_chooses o = typed.all_chooses (typed.other_rules o)

unfoldable pub other_rule : Option CheckedRule → ℕ → Option Rule
other_rule o n = typed.other_rule o n

unfoldable pub all_case_refused : List (Checked × CheckedRule) → List TypeRefusal
all_case_refused cs = typed.case_refused cs

unfoldable pub case_chooses : List (Checked × CheckedRule) → ℕ
case_chooses cs = typed.all_chooses (typed.case_rules cs)

unfoldable pub numbered_cases : List (Checked × CheckedRule) → ℕ → List RuleCase
numbered_cases cs n = typed.numbered_cases cs n

unfoldable pub guard_refused : Checked → List TypeRefusal
guard_refused g = typed.guard_refused g

unfoldable pub guards_refused : Option Checked → List TypeRefusal
guards_refused g = typed.guards_refused g

-- what is said of a switch before its cases, where none of their values is refused
unfoldable pub values_refused : TermType → List Checked → Span → List TypeRefusal
values_refused t cs span = typed.own_refused (all_refused cs) (joins_refused t (types cs) span)

-- the types of the values, or none where one of them is refused
abbrev pub GivesTypes : Result (Option (List TermType)) TypeRefusal → List Checked → Type 0
GivesTypes (Ok (Some ts)) cs = (all_refused cs ≡ []) × (ts ≡ types cs)
GivesTypes (Ok None) cs = (own : List TypeRefusal) → typed.own_refused (all_refused cs) own ≡ []
GivesTypes (Err why) cs = why ≡ NoMemory

-- ---- forms

unfoldable pub par : List CheckedRule → Span → CheckedRule
par rs span = typed.many rules.Par rs span

unfoldable pub seq : List CheckedRule → Span → CheckedRule
seq rs span = typed.many rules.Seq rs span

unfoldable pub conditional : Checked → CheckedRule → Option CheckedRule → CheckedRule
conditional guard first other = typed.if_checked guard first other

unfoldable pub forall_rule : List TypeRefusal → List Domain → Option Checked → CheckedRule → Span
    → CheckedRule
forall_rule refused domains guard body span = typed.forall_checked refused domains guard body span

unfoldable pub choose_rule : List TypeRefusal → List Domain → Option Checked → CheckedRule
    → Option CheckedRule → CheckedRule
choose_rule refused domains guard body other = typed.choose_checked refused domains guard body other

unfoldable pub let_in : Bound → CheckedRule → CheckedRule
let_in b body = typed.let_checked b body

unfoldable pub switched : Checked → List (Checked × CheckedRule) → Option CheckedRule → Span
    → CheckedRule
switched value cases other span = typed.switch_checked value cases other span

unfoldable pub with_members : Variables → List Token → ℕ → Variables
with_members variables ts d = typed.with_members variables ts (type.Abstract d)

unfoldable pub extended_by : Scope → Variables → Option Named → Token → List Token → RuleTree → Span
    → CheckedRule
extended_by scope variables meant name ts body span =
    typed.extended meant name ts
    (λ t. checked_rule scope body (typed.with_members variables ts t)) span

unfoldable pub extended : Scope → Variables → Token → List Token → RuleTree → Span → CheckedRule
extended scope variables name ts body span =
    extended_by scope variables (find scope.names (text_of name)) name ts body span

-- a case with its rule where so many `choose` words are before it
abbrev pub numbered_case : Checked × CheckedRule → ℕ → RuleCase
numbered_case c n = roll-RuleCase (record { value = c.0.term; rule = c.1.rule n })

abbrev pub is_memory : TypeRefusal → Bool
is_memory NoMemory = true
is_memory _ = false
