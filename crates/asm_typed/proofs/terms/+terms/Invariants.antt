-- What was typed so far, with the rest, is the whole.
use Rattle.std.proofs.Common.{◌≡◌, ◌++◌, drop, take, length}
use Rattle.asm_program.specs.TypedTerms.{all_refused, types, checked_terms}
use Rattle.asm_typed.specs.Forms.{terms_at, bound_at, cases_at, case_values, case_terms, all_cases, all_case_refused}
use Rattle.asm_typed.proofs.terms.+terms.Given as goal

abbrev pub invariant-add_terms-loop-term : goal.invariant-add_terms-loop-term
invariant-add_terms-loop-term l =
    (all_refused (terms_at l.scope l.initial.variables (drop l.term-index l.terms)) ≡ all_refused (terms_at l.scope l.initial.variables l.terms))
    × (l.typed.types ++ types (terms_at l.scope l.initial.variables (drop l.term-index l.terms))
    ≡ l.initial.typed.types ++ types (terms_at l.scope l.initial.variables l.terms))
    × (l.typed.terms ++ checked_terms (terms_at l.scope l.initial.variables (drop l.term-index l.terms))
    ≡ l.initial.typed.terms ++ checked_terms (terms_at l.scope l.initial.variables l.terms))
    × (l.variables ≡ l.initial.variables)

abbrev pub invariant-more_binds-loop-tree : goal.invariant-more_binds-loop-tree
invariant-more_binds-loop-tree l =
    ((bound_at l.scope l.variables (drop l.tree-index l.trees)).refused ≡ (bound_at l.scope l.initial.variables l.trees).refused)
    × (l.values.terms ++ (bound_at l.scope l.variables (drop l.tree-index l.trees)).terms
    ≡ l.initial.values.terms ++ (bound_at l.scope l.initial.variables l.trees).terms)
    × ((bound_at l.scope l.variables (drop l.tree-index l.trees)).variables ≡ (bound_at l.scope l.initial.variables l.trees).variables)
    × (take (length l.initial.variables) l.variables ≡ l.initial.variables)

abbrev pub invariant-cases_typed-loop-tree : goal.invariant-cases_typed-loop-tree
invariant-cases_typed-loop-tree l =
    (all_case_refused (cases_at l.scope l.initial.variables (drop l.tree-index l.trees)) ≡ all_case_refused (cases_at l.scope l.initial.variables l.trees))
    × (l.cases.values ++ case_values (cases_at l.scope l.initial.variables (drop l.tree-index l.trees)) ≡ case_values (cases_at l.scope l.initial.variables l.trees))
    × (l.cases.terms ++ case_terms (cases_at l.scope l.initial.variables (drop l.tree-index l.trees)) ≡ case_terms (cases_at l.scope l.initial.variables l.trees))
    × (l.cases.cases ++ all_cases (cases_at l.scope l.initial.variables (drop l.tree-index l.trees)) ≡ all_cases (cases_at l.scope l.initial.variables l.trees))
    × (l.variables ≡ l.initial.variables)
