use Rattle.std.proofs.Common.{◌≡◌, ◌-◌, length, codes}
use Rattle.asm_grammar.specs.Parser.{climb, expect}
use Rattle.asm_syntax.specs.Forms.{any, one_more}
use Rattle.asm_syntax.specs.Marks.{is, symbol, variable}
use Rattle.asm_parse_theory.specs.Forms.{after_sign}
use Rattle.asm_parse_rules.proofs.rules.Grammar.further_variables.Given as goal

abbrev pub invariant-loop-turn : goal.invariant-loop-turn
invariant-loop-turn g l =
    climb any one_more (is (symbol (codes ","))) (after_sign (codes ",") (expect (is variable))) (length l.fn.tokens) l.fn.found l.fn.tokens
    ≡ climb any one_more (is (symbol (codes ","))) (after_sign (codes ",") (expect (is variable))) (l._turn-end - l._turn) l.found l.tokens
