use Rattle.std.proofs.Common.{◌≡◌, drop}
use Rattle.asm_syntax.specs.Written.{after_each, single}
use Rattle.asm_print_terms.specs.Lines.{with_words}
use Rattle.asm_print_terms.proofs.domains.put_more_tokens.Given as goal

abbrev pub invariant-loop-token : goal.invariant-loop-token
invariant-loop-token l = with_words l.out (after_each l.separator single (drop l.token-index l.tokens)) ≡ with_words l.initial.out (after_each l.separator single l.tokens)
