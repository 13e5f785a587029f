use Rattle.std.proofs.Common.{◌≡◌, drop}
use Rattle.asm_syntax.specs.Written.{after_each, comma, range_words}
use Rattle.asm_print_terms.specs.Lines.{with_words}
use Rattle.asm_print_terms.proofs.domains.put_more_ranges.Given as goal

abbrev pub invariant-loop-range : goal.invariant-loop-range
invariant-loop-range l = with_words l.out (after_each comma range_words (drop l.range-index l.ranges)) ≡ with_words l.initial.out (after_each comma range_words l.ranges)
