use Rattle.std.proofs.Common.{◌≡◌, drop}
use Rattle.asm_syntax.specs.Written.{after_each, comma, int_words}
use Rattle.asm_print_terms.specs.Lines.{with_words}
use Rattle.asm_print_terms.proofs.domains.put_more_ints.Given as goal

abbrev pub invariant-loop-int : goal.invariant-loop-int
invariant-loop-int l = with_words l.out (after_each comma int_words (drop l.int-index l.ints)) ≡ with_words l.initial.out (after_each comma int_words l.ints)
