use Rattle.std.proofs.Common.{◌≡◌, ◌-◌, length}
use Rattle.asm_grammar.specs.Parser.{climb}
use Rattle.asm_syntax.specs.Heights.{fits}
use Rattle.asm_syntax.specs.Terms.{joined}
use Rattle.asm_parse_terms.specs.Lines.{is_operator, step}
use Rattle.asm_parse_terms.proofs.lines.Lines.chain.Given as goal

abbrev pub invariant-loop-turn : goal.invariant-loop-turn
invariant-loop-turn g l =
    climb fits joined (is_operator l.operators) (step l.self.at.depth l.operators) (length l.fn.tokens) l.fn.left l.fn.tokens
    ≡ climb fits joined (is_operator l.operators) (step l.self.at.depth l.operators) (l._turn-end - l._turn) l.left l.tokens
