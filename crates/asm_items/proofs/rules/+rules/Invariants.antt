use Rattle.std.proofs.Common.{◌≡◌, drop}
use Rattle.asm_items.specs.Views.{with_items}
use Rattle.asm_items.specs.Parts.{more_rules, rule_cases}
use Rattle.asm_items.proofs.rules.+rules.Given as goal

abbrev pub invariant-more_rule_items-loop-rule : goal.invariant-more_rule_items-loop-rule
invariant-more_rule_items-loop-rule l = with_items l.items (more_rules (drop l.rule-index l.rules)) ≡ with_items l.initial.items (more_rules l.rules)

abbrev pub invariant-rule_case_items-loop-case : goal.invariant-rule_case_items-loop-case
invariant-rule_case_items-loop-case l = with_items l.items (rule_cases (drop l.case-index l.cases)) ≡ with_items l.initial.items (rule_cases l.cases)
