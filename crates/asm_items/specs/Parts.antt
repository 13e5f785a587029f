-- The items of the parts of domains, terms, rules and models.
use Rattle.std.specs.Prelude.{ℕ, ◌+◌, ◌==◌, Option, Some, None, List, [], ◌∷◌, ◌++◌, map, if◌then◌else◌}
use Rattle.asm_syntax.specs.declared.token.Span.{Span}
use Rattle.asm_syntax.specs.declared.token.Token.{Token}
use Rattle.asm_syntax.specs.declared.tree.DomainTree.{DomainTree}
use Rattle.asm_syntax.specs.declared.tree.RangeTree.{RangeTree}
use Rattle.asm_syntax.specs.declared.tree.RangesTree.{RangesTree}
use Rattle.asm_syntax.specs.declared.tree.ParamsTree.{ParamsTree}
use Rattle.asm_syntax.specs.declared.tree.TermTree.{TermTree}
use Rattle.asm_syntax.specs.declared.tree.TermTree.TheViews.{out-CaseTree}
use Rattle.asm_syntax.specs.declared.tree.TermsTree.{TermsTree}
use Rattle.asm_syntax.specs.declared.tree.BindTree.{BindTree}
use Rattle.asm_syntax.specs.declared.tree.BindsTree.{BindsTree}
use Rattle.asm_syntax.specs.declared.tree.CaseTree.{CaseTree}
use Rattle.asm_syntax.specs.declared.tree.RuleTree.{RuleTree}
use Rattle.asm_syntax.specs.declared.tree.RuleTree.TheViews.{out-RuleCaseTree}
use Rattle.asm_syntax.specs.declared.tree.RuleCaseTree.{RuleCaseTree}
use Rattle.asm_syntax.specs.declared.tree.DeclTree.{DeclTree}
use Rattle.asm_syntax.specs.declared.tree.DefTree.{DefTree}
use Rattle.asm_syntax.specs.declared.tree.DefTree.TheVariants as defs
use Rattle.asm_syntax.specs.declared.tree.StartTree.{StartTree}
use Rattle.asm_syntax.specs.declared.tree.InitTree.{InitTree}
use Rattle.asm_syntax.specs.declared.tree.ModelTree.{ModelTree}
use Rattle.asm_program.specs.declared.type_refusal.Limited.{Limited}
use Rattle.asm_program.specs.declared.type_refusal.Limited.TheVariants as limited
use Rattle.asm_program.specs.Items as items
use Rattle.asm_program.specs.Items.{Items, Counts, Exceeds, NeedsIntegers, GivesInterval, GivesIntegers, NamesFunction, numbered, numbered_from, all_items, joined, domain_part, domain_items, ranges_items, range_items, param_items, params_items, repeated_among, term_part, term_items, listed_terms, terms_of, some_term_items, bind_part, binds_from, bound_items, rule_items, declares, literal_items, next_items, starts_of}

-- ---- domains, ranges and parameters

-- domains as the parts of a product from this number on
unfoldable pub domains_from : ℕ → List DomainTree → Items
domains_from n ds = numbered_from n (map domain_part ds)

unfoldable pub maybe_domain : Option DomainTree → Items
maybe_domain d = next_items d

unfoldable pub more_variables : List (List ℕ) → List Token → Items
more_variables seen ts = repeated_among seen ts

unfoldable pub all_variables : Token → List Token → Items
all_variables first others = repeated_among [] (first ∷ others)

unfoldable pub more_ranges : List (List ℕ) → List RangeTree → Items
more_ranges seen rs = range_items seen rs

unfoldable pub all_ranges : RangesTree → Items
all_ranges r = ranges_items r

-- parameters from this number on
unfoldable pub more_params : ℕ → List (List ℕ) → List RangeTree → Items
more_params n seen rs = param_items n seen rs

unfoldable pub all_params : Option ParamsTree → Items
all_params params = params_items params

-- ---- terms

-- terms as the parts of a form from this number on
unfoldable pub terms_from : ℕ → List TermTree → Items
terms_from n ts = numbered_from n (map term_part ts)

unfoldable pub numbered_terms : TermsTree → Items
numbered_terms ts = numbered (map term_part (listed_terms ts))

unfoldable pub args_of : Option TermsTree → Items
args_of args = numbered (map term_part (terms_of args))

unfoldable pub named : Token → Option TermsTree → Items
named name args = NamesFunction name ∷ args_of args

unfoldable pub more_terms : List TermTree → Items
more_terms ts = all_items (map term_part ts)

unfoldable pub listed_of : Option TermsTree → Items
listed_of ts = more_terms (terms_of ts)

unfoldable pub quantified : RangesTree → TermTree → Items
quantified ranges body = all_ranges ranges ++ term_items body

unfoldable pub maybe_term : Option TermTree → Items
maybe_term t = some_term_items t

unfoldable pub cases_of : List CaseTree → Items
cases_of [] = []
cases_of (c ∷ cs) =
    term_items (out-CaseTree c).value ++ term_items (out-CaseTree c).term ++ cases_of cs

unfoldable pub more_binds : List (List ℕ) → List BindTree → Items
more_binds seen bs = binds_from seen (map bind_part bs)

unfoldable pub all_binds : BindsTree → Items
all_binds b = bound_items b

-- ---- rules

unfoldable pub quantifier : RangesTree → Option TermTree → Items
quantifier ranges guard = all_ranges ranges ++ maybe_term guard

unfoldable pub more_rules : List RuleTree → Items
more_rules rs = joined (map rule_items rs)

unfoldable pub maybe_rule : Option RuleTree → Items
maybe_rule None = []
maybe_rule (Some r) = rule_items r

unfoldable pub rule_cases : List RuleCaseTree → Items
rule_cases [] = []
rule_cases (c ∷ cs) =
    term_items (out-RuleCaseTree c).value ++ rule_items (out-RuleCaseTree c).rule ++ rule_cases cs

-- ---- declarations

unfoldable pub counted : Limited → Token → Span → Items
counted kind name span = Counts kind span ∷ declares name ∷ []

unfoldable pub literal : ℕ → Token → Items
literal n t = declares t ∷ (if n == 257 then Exceeds limited.Members 257 t.span ∷ [] else [])

unfoldable pub more_literals : ℕ → List Token → Items
more_literals n ts = literal_items n ts

unfoldable pub literals : Token → List Token → Items
literals first others = literal_items 1 (first ∷ others)

unfoldable pub enum_items : Token → Token → List Token → Span → Items
enum_items name first others span = counted limited.Domains name span ++ literals first others

unfoldable pub subset_items : Token → Span → Items
subset_items name span =
    Counts limited.Domains span ∷ NeedsIntegers name span ∷ declares name ∷ []

unfoldable pub function_items : Token → DomainTree → Option DomainTree → Span → Items
function_items name first next span =
    counted limited.Functions name span ++ domain_items first ++ maybe_domain next

unfoldable pub decl_part : DeclTree → Items
decl_part d = items.decl_items d

unfoldable pub decls_items : List DeclTree → Items
decls_items ds = joined (map items.decl_items ds)

-- ---- definitions

unfoldable pub invariant_part : ℕ → Option Token → Span → Items
invariant_part k name span = items.invariant_items k name span

unfoldable pub named_invariant : Token → Span → Items
named_invariant name span = items.invariant_items 0 (Some name) span

unfoldable pub body_items : Option ParamsTree → TermTree → Items
body_items params term = all_params params ++ term_items term

unfoldable pub macro_items : Token → Option ParamsTree → RuleTree → Span → Items
macro_items name params body span =
    counted limited.Macros name span ++ all_params params ++ rule_items body

-- a definition, where the k-th invariant comes next
unfoldable pub def_items : ℕ → DefTree → Items
def_items k (defs.Interval name from to span) = GivesInterval name from to ∷ []
def_items k (defs.Integers name first others span) = GivesIntegers name (first ∷ others) ∷ []
def_items k (defs.Function name params term span) = body_items params term
def_items k (defs.Rule name params body span) = macro_items name params body span
def_items k (defs.Invariant name first others term span) =
    invariant_part k name span ++ term_items term

-- the invariant that comes next after a definition
abbrev pub number_after : ℕ → DefTree → ℕ
number_after k (defs.Interval name from to span) = k
number_after k (defs.Integers name first others span) = k
number_after k (defs.Function name params term span) = k
number_after k (defs.Rule name params body span) = k
number_after k (defs.Invariant name first others term span) = k + 1

unfoldable pub defs_from : ℕ → List DefTree → Items
defs_from k ds = items.defs_items k ds

-- ---- models

unfoldable pub starts_items : List StartTree → Items
starts_items ss = items.start_items ss

unfoldable pub init_items : Option InitTree → Items
init_items init = starts_items (starts_of init)

unfoldable pub model : ModelTree → Items
model tree = items.model_items tree
