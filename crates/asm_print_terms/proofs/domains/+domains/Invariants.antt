use Rattle.std.proofs.Common.{◌≡◌, drop}
use Rattle.asm_syntax.specs.Written.{after_each, comma, domain_words}
use Rattle.asm_print_terms.specs.Lines.{with_words}
use Rattle.asm_print_terms.proofs.domains.+domains.Given as goal

abbrev pub invariant-put_more_domains-loop-domain : goal.invariant-put_more_domains-loop-domain
invariant-put_more_domains-loop-domain l =
    with_words l.out (after_each comma domain_words (drop l.domain-index l.domains)) ≡ with_words l.initial.out (after_each comma domain_words l.domains)
