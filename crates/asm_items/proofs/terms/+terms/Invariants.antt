use Rattle.std.proofs.Common.{◌≡◌, ◌+◌, drop}
use Rattle.asm_items.specs.Views.{with_items}
use Rattle.asm_items.specs.Parts.{terms_from, more_terms, cases_of, more_binds}
use Rattle.asm_items.proofs.terms.+terms.Given as goal

abbrev pub invariant-more_numbered_items-loop-at : goal.invariant-more_numbered_items-loop-at
invariant-more_numbered_items-loop-at l = with_items l.items (terms_from (l.at + 2) (drop l.at l.terms)) ≡ with_items l.initial.items (terms_from 2 l.terms)

abbrev pub invariant-more_listed_items-loop-term : goal.invariant-more_listed_items-loop-term
invariant-more_listed_items-loop-term l = with_items l.items (more_terms (drop l.term-index l.terms)) ≡ with_items l.initial.items (more_terms l.terms)

abbrev pub invariant-case_items-loop-case : goal.invariant-case_items-loop-case
invariant-case_items-loop-case l = with_items l.items (cases_of (drop l.case-index l.cases)) ≡ with_items l.initial.items (cases_of l.cases)

abbrev pub invariant-more_bind_items-loop-bind : goal.invariant-more_bind_items-loop-bind
invariant-more_bind_items-loop-bind l = with_items l.items (more_binds l.seen (drop l.bind-index l.binds)) ≡ with_items l.initial.items (more_binds l.initial.seen l.binds)
