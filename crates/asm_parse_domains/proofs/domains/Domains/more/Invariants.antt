use Rattle.std.proofs.Common.{◌≡◌, ◌-◌, length}
use Rattle.std.specs.Prelude.{codes}
use Rattle.asm_grammar.specs.Parser.{climb}
use Rattle.asm_syntax.specs.Marks.{is, symbol}
use Rattle.asm_syntax.specs.Forms.{any, one_more}
use Rattle.asm_parse_theory.specs.Forms.{after_sign}
use Rattle.asm_parse_theory.specs.Domains.{inside}
use Rattle.asm_parse_domains.proofs.domains.Domains.more.Given as goal

abbrev pub invariant-loop-turn : goal.invariant-loop-turn
invariant-loop-turn g l =
    climb any one_more (is (symbol (codes ","))) (after_sign (codes ",") (inside l.self.depth)) (length l.fn.tokens) l.fn.found l.fn.tokens
    ≡ climb any one_more (is (symbol (codes ","))) (after_sign (codes ",") (inside l.self.depth)) (l._turn-end - l._turn) l.found l.tokens
