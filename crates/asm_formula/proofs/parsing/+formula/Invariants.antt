use Rattle.std.proofs.Common.{◌≡◌, ◌+◌, ◌-◌, ◌*◌, length}
use Rattle.asm_grammar.specs.Parser.{climb}
use Rattle.asm_formula.specs.Grammar.{is_operator, join, any}
use Rattle.asm_formula.specs.Parsing.{operand, formula}
use Rattle.asm_formula.proofs.parsing.+formula.Given as goal

abbrev pub decreases-formula : goal.decreases-formula
decreases-formula l = 5 * l.depth

abbrev pub decreases-enclosed : goal.decreases-enclosed
decreases-enclosed l = 5 * l.depth + 1

abbrev pub decreases-part : goal.decreases-part
decreases-part l = 5 * l.depth + 2

abbrev pub decreases-operand : goal.decreases-operand
decreases-operand l = 5 * l.depth + 3

abbrev pub decreases-further : goal.decreases-further
decreases-further l = 5 * l.depth + 4

abbrev pub invariant-further-loop-turn : goal.invariant-further-loop-turn
invariant-further-loop-turn l =
    climb any (join l.operator) (is_operator l.operator) (operand (formula l.depth) l.operator) (length l.fn.tokens) l.fn.first l.fn.tokens
    ≡ climb any (join l.operator) (is_operator l.operator) (operand (formula l.depth) l.operator) (l._turn-end - l._turn) l.left l.tokens
