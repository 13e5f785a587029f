-- The forms of terms with their parts, as the definition of typing has them.
use Rattle.std.specs.Prelude.{◌≡◌, ℕ, if◌then◌else◌, Option, Some, None, List, [], ◌∷◌, ◌++◌, map, codes}
use Rattle.std.specs.Str.{bytes_eq}
use Rattle.asm_value.specs.declared.domain.Domain.{Domain}
use Rattle.asm_value.specs.declared.value.Value.TheVariants as values
use Rattle.asm_syntax.specs.declared.token.Span.{Span}
use Rattle.asm_syntax.specs.declared.token.Token.{Token}
use Rattle.asm_syntax.specs.declared.tree.RangeTree.{RangeTree}
use Rattle.asm_syntax.specs.declared.tree.TermTree.{TermTree}
use Rattle.asm_syntax.specs.declared.tree.TermsTree.{TermsTree}
use Rattle.asm_syntax.specs.declared.tree.BindTree.{BindTree}
use Rattle.asm_syntax.specs.declared.tree.BindsTree.{BindsTree}
use Rattle.asm_syntax.specs.declared.tree.CaseTree.{CaseTree}
use Rattle.asm_syntax.specs.declared.tree.TermTree.TheViews.{out-CaseTree}
use Rattle.asm_syntax.specs.Marks.{text_of}
use Rattle.asm_typing.specs.declared.types.Type.{«Type» as TermType}
use Rattle.asm_typing.specs.declared.types.Type.TheVariants as type
use Rattle.asm_typing.specs.Operators.{is_operator}
use Rattle.asm_program.specs.declared.named.Named.{Named}
use Rattle.asm_program.specs.declared.trees.Term.{Term}
use Rattle.asm_program.specs.declared.trees.Case.{Case}
use Rattle.asm_program.specs.declared.trees.Term.TheVariants as terms
use Rattle.asm_program.specs.declared.type_refusal.TypeRefusal.{TypeRefusal}
use Rattle.asm_program.specs.Items.{bind_of, binds_of, terms_of, listed_terms}
use Rattle.asm_program.specs.Signatures.{Header}
use Rattle.asm_program.specs.TypedTerms as typed
use Rattle.asm_typed.specs.declared.forms.Cases.{Cases}
use Rattle.asm_typed.specs.declared.forms.Quantifier.{Quantifier}
use Rattle.asm_typed.specs.declared.forms.Quantifier.TheVariants as quantifiers
use Rattle.asm_typed.specs.declared.forms.Connective.{Connective}
use Rattle.asm_typed.specs.declared.forms.Connective.TheVariants as connectives
use Rattle.asm_program.specs.TypedTerms.{Scope, Variables, Checked, Typing, Bound, checked}

-- ---- parts

-- the terms over the same variables
unfoldable pub terms_at : Scope → Variables → List TermTree → List Checked
terms_at scope variables ts = map (λ t. checked scope t variables) ts

unfoldable pub args_at : Scope → Variables → Option TermsTree → List Checked
args_at scope variables ts = terms_at scope variables (terms_of ts)

-- those of a list, one or more
unfoldable pub listed_at : Scope → Variables → TermsTree → List Checked
listed_at scope variables ts = terms_at scope variables (listed_terms ts)

unfoldable pub other_at : Scope → Variables → Option TermTree → Option Checked
other_at scope variables None = None
other_at scope variables (Some t) = Some (checked scope t variables)

unfoldable pub other_refused : Option Checked → List TypeRefusal
other_refused other = typed.all_refused (typed.some_checked other)

unfoldable pub bound_at : Scope → Variables → List BindTree → Bound
bound_at scope variables bs =
    typed.bound variables (map (λ b. ((bind_of b).0, checked scope (bind_of b).1)) bs)

unfoldable pub all_bound : Scope → Variables → BindsTree → Bound
all_bound scope variables b = bound_at scope variables (binds_of b)

-- what a case is compared with, and its term
abbrev pub case_at : Scope → Variables → CaseTree → Checked × Checked
case_at scope variables c =
    (checked scope (out-CaseTree c).value variables, checked scope (out-CaseTree c).term variables)

unfoldable pub cases_at : Scope → Variables → List CaseTree → List (Checked × Checked)
cases_at scope variables cs = map (case_at scope variables) cs

unfoldable pub one_case_refused : Checked × Checked → List TypeRefusal
one_case_refused c = c.0.refused ++ c.1.refused

unfoldable pub case_values : List (Checked × Checked) → List TermType
case_values = map (λ c. c.0.type)

unfoldable pub case_terms : List (Checked × Checked) → List TermType
case_terms = map (λ c. c.1.type)

unfoldable pub all_cases : List (Checked × Checked) → List Case
all_cases = map typed.case_of

unfoldable pub all_case_refused : List (Checked × Checked) → List TypeRefusal
all_case_refused cs = typed.case_refused cs

-- the types and the cases are those of these
abbrev pub AreCases : Cases → List (Checked × Checked) → Type 0
AreCases cases cs =
    (cases.values ≡ case_values cs) × (cases.terms ≡ case_terms cs) × (cases.cases ≡ all_cases cs)

-- ---- words

abbrev pub quantifier_form : Quantifier → List Domain → Term → Term
quantifier_form quantifiers.Forall = terms.Forall
quantifier_form quantifiers.Exist = terms.Exist
quantifier_form quantifiers.ExistUnique = terms.ExistUnique

abbrev pub connective : List ℕ → Option Connective
connective op =
    if bytes_eq op (codes "and") then Some connectives.And
    else (if bytes_eq op (codes "or") then Some connectives.Or
    else (if bytes_eq op (codes "implies") then Some connectives.Implies else None))

abbrev pub connection : Connective → Term → Term → Term
connection connectives.And = terms.And
connection connectives.Or = terms.Or
connection connectives.Implies = terms.Implies

-- ---- forms

unfoldable pub connected : (Term → Term → Term) → Checked → Checked → Span → Checked
connected form left right span = typed.connected form left right span

unfoldable pub operated : List ℕ → List Checked → Span → Checked
operated name cs span = typed.operator_checked name cs span

unfoldable pub binary : List ℕ → Checked → Checked → Span → Checked
binary op left right span = typed.binary_checked op left right span

unfoldable pub called : Scope → ℕ → Header → List Checked → Span → Checked
called scope f h cs span = typed.function_checked scope f (Some h) cs span

unfoldable pub literal : Scope → ℕ → ℕ → List Checked → Span → Checked
literal scope d i cs span = typed.literal_checked scope d i cs span

unfoldable pub other_name : Scope → Token → List Checked → Span → Checked
other_name scope name cs span = typed.other_checked scope name cs span

unfoldable pub named : Scope → Token → List Checked → Span → Checked
named scope name cs span = typed.name_checked scope name cs span

unfoldable pub tuple : List Checked → Span → Checked
tuple cs span = typed.tuple_checked cs span

unfoldable pub set : List Checked → Span → Checked
set cs span = typed.items_checked type.Set terms.Set cs span

unfoldable pub sequence : List Checked → Span → Checked
sequence cs span = typed.items_checked type.Seq terms.Seq cs span

unfoldable pub interval : Checked → Checked → Span → Checked
interval from to span = typed.interval_checked from to span

unfoldable pub quantified : (List Domain → Term → Term) → List TypeRefusal → List Domain → Checked
    → Span → Checked
quantified form refused domains body span = typed.quantified form refused domains body span

unfoldable pub conditional : Checked → Checked → Option Checked → Span → Checked
conditional guard first other span = typed.if_checked guard first other span

unfoldable pub let_in : Bound → Checked → Span → Checked
let_in b body span = typed.let_checked b body span

unfoldable pub switched : Checked → List (Checked × Checked) → Option Checked → Span → Checked
switched value cases other span = typed.switch_checked value cases other span
