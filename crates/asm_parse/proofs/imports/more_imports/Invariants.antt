use Rattle.std.proofs.Common.{◌≡◌, ◌-◌, length, codes}
use Rattle.asm_grammar.specs.Parser.{climb}
use Rattle.asm_syntax.specs.Forms.{any, one_more}
use Rattle.asm_syntax.specs.Marks.{is, keyword}
use Rattle.asm_parse_theory.specs.Models.{imported}
use Rattle.asm_parse.proofs.imports.more_imports.Given as goal

abbrev pub invariant-loop-turn : goal.invariant-loop-turn
invariant-loop-turn l =
    climb any one_more (is (keyword (codes "import"))) imported (length l.fn.tokens) l.fn.found l.fn.tokens
    ≡ climb any one_more (is (keyword (codes "import"))) imported (l._turn-end - l._turn) l.found l.tokens
