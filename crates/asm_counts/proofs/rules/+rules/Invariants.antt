-- The counts so far are those of the parts that were passed.
use Rattle.std.proofs.Common.{◌≡◌, take}
use Rattle.asm_counts.specs.CountLevels.{known, term_counts, rules_counts, rule_cases_counts}
use Rattle.asm_counts.proofs.rules.+rules.Given as goal

abbrev pub invariant-all-loop-rule : goal.invariant-all-loop-rule
invariant-all-loop-rule l =
    l.counts
    ≡ rules_counts l.domains (term_counts l.domains (known l.functions)) (known l.macros)
    (take l.rule-index l.rules)

abbrev pub invariant-cases-loop-next : goal.invariant-cases-loop-next
invariant-cases-loop-next l =
    l.counts
    ≡ rule_cases_counts l.domains (term_counts l.domains (known l.functions)) (known l.macros)
    (take l.next-index l.cases)
