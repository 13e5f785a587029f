use Rattle.std.proofs.Common.{◌≡◌, ◌-◌, length}
use Rattle.asm_grammar.specs.Parser.{climb, expect, mapped, both}
use Rattle.asm_syntax.specs.Forms.{any, one_more, second}
use Rattle.asm_syntax.specs.Marks.{is, id}
use Rattle.asm_parse_theory.specs.Models.{is_literal_sign}
use Rattle.asm_parse_definitions.proofs.declarations.further_literals.Given as goal

abbrev pub invariant-loop-turn : goal.invariant-loop-turn
invariant-loop-turn l =
    climb any one_more is_literal_sign (mapped second (both (expect is_literal_sign) (expect (is id)))) (length l.fn.tokens) l.fn.found l.fn.tokens
    ≡ climb any one_more is_literal_sign (mapped second (both (expect is_literal_sign) (expect (is id)))) (l._turn-end - l._turn) l.found l.tokens
