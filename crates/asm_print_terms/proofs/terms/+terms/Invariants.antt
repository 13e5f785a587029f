use Rattle.std.proofs.Common.{◌≡◌, drop}
use Rattle.asm_print_terms.specs.Lines.{with_words}
use Rattle.asm_print_terms.specs.Parts.{more_terms_words, more_binds_words, cases_words}
use Rattle.asm_print_terms.proofs.terms.+terms.Given as goal

abbrev pub invariant-put_more_terms-loop-term : goal.invariant-put_more_terms-loop-term
invariant-put_more_terms-loop-term l = with_words l.out (more_terms_words (drop l.term-index l.terms)) ≡ with_words l.initial.out (more_terms_words l.terms)

abbrev pub invariant-put_more_binds-loop-bind : goal.invariant-put_more_binds-loop-bind
invariant-put_more_binds-loop-bind l = with_words l.out (more_binds_words (drop l.bind-index l.binds)) ≡ with_words l.initial.out (more_binds_words l.binds)

abbrev pub invariant-put_cases-loop-case : goal.invariant-put_cases-loop-case
invariant-put_cases-loop-case l = with_words l.out (cases_words (drop l.case-index l.cases)) ≡ with_words l.initial.out (cases_words l.cases)
