use Rattle.std.proofs.Common.{◌≡◌, drop}
use Rattle.asm_print_terms.specs.Lines.{with_words}
use Rattle.asm_print.specs.RuleParts.{rules_words, rule_cases_words}
use Rattle.asm_print.proofs.rules.+rules.Given as goal

abbrev pub invariant-put_rules-loop-rule : goal.invariant-put_rules-loop-rule
invariant-put_rules-loop-rule l = with_words l.out (rules_words (drop l.rule-index l.rules)) ≡ with_words l.initial.out (rules_words l.rules)

abbrev pub invariant-put_rule_cases-loop-case : goal.invariant-put_rule_cases-loop-case
invariant-put_rule_cases-loop-case l = with_words l.out (rule_cases_words (drop l.case-index l.cases)) ≡ with_words l.initial.out (rule_cases_words l.cases)
