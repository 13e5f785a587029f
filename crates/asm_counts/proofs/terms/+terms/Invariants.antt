-- The counts so far are those of the parts that were passed.
use Rattle.std.proofs.Common.{◌≡◌, take}
use Rattle.asm_counts.specs.CountLevels.{known, terms_counts, cases_counts}
use Rattle.asm_counts.proofs.terms.+terms.Given as goal

abbrev pub invariant-all_counts-loop-term : goal.invariant-all_counts-loop-term
invariant-all_counts-loop-term l =
    l.counts ≡ terms_counts l.domains (known l.functions) (take l.term-index l.terms)

abbrev pub invariant-cases-loop-next : goal.invariant-cases-loop-next
invariant-cases-loop-next l =
    l.counts ≡ cases_counts l.domains (known l.functions) (take l.next-index l.cases)
