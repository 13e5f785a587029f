-- What was typed so far, with the rest, is the whole.
use Rattle.std.proofs.Common.{◌≡◌, ◌+◌, ◌++◌, drop}
use Rattle.asm_typed_rules.specs.Forms.{rules_at, all_rules_refused, all_chooses, numbered, cases_at, all_case_refused, numbered_cases, case_chooses}
use Rattle.asm_typed_rules.proofs.rules.+rules.Given as goal

abbrev pub invariant-add_rules-loop-tree : goal.invariant-add_rules-loop-tree
invariant-add_rules-loop-tree l =
    (all_rules_refused (rules_at l.scope l.initial.variables (drop l.tree-index l.trees)) ≡ all_rules_refused (rules_at l.scope l.initial.variables l.trees))
    × (l.parts.rules ++ numbered (rules_at l.scope l.initial.variables (drop l.tree-index l.trees)) (l.before + l.parts.chooses)
    ≡ l.initial.parts.rules ++ numbered (rules_at l.scope l.initial.variables l.trees) (l.before + l.initial.parts.chooses))
    × (l.parts.chooses + all_chooses (rules_at l.scope l.initial.variables (drop l.tree-index l.trees))
    ≡ l.initial.parts.chooses + all_chooses (rules_at l.scope l.initial.variables l.trees))
    × (l.variables ≡ l.initial.variables)

abbrev pub invariant-cases_typed-loop-tree : goal.invariant-cases_typed-loop-tree
invariant-cases_typed-loop-tree l =
    (all_case_refused (cases_at l.scope l.initial.variables (drop l.tree-index l.trees)) ≡ all_case_refused (cases_at l.scope l.initial.variables l.trees))
    × (l.cases.cases ++ numbered_cases (cases_at l.scope l.initial.variables (drop l.tree-index l.trees)) (l.before + l.cases.chooses)
    ≡ numbered_cases (cases_at l.scope l.initial.variables l.trees) l.before)
    × (l.cases.chooses + case_chooses (cases_at l.scope l.initial.variables (drop l.tree-index l.trees)) ≡ case_chooses (cases_at l.scope l.initial.variables l.trees))
    × (l.variables ≡ l.initial.variables)
