use Rattle.std.proofs.Common.{◌≡◌, true, refl, rules}
use Rattle.asm_grammar.specs.Parser.{sees}
use Rattle.asm_formula.specs.Grammar.{is_operator, join, any}
use Rattle.asm_formula.specs.Parsing.{operand, formula}
use Rattle.asm_formula.proofs.Turns.{turn_keeps, formula_none, formula_deeper}
use Rattle.asm_formula.proofs.parsing.+formula.Goals as goal

pub formula-returns-then-depth-eq0 : goal.formula-returns-then-depth-eq0
formula-returns-then-depth-eq0 t c n = formula_none c.args.depth c.args.tokens.now c.if-depth-eq0.true

pub formula-returns-in_err-first : goal.formula-returns-in_err-first
formula-returns-in_err-first t c = rw (formula_deeper c.args.depth c.if-depth-eq0.false) (search rules)

pub formula-returns-in-Some : goal.formula-returns-in-Some
formula-returns-in-Some t c = rw (formula_deeper c.args.depth c.if-depth-eq0.false) (search rules)

pub formula-returns-in-None : goal.formula-returns-in-None
formula-returns-in-None t c = rw (formula_deeper c.args.depth c.if-depth-eq0.false) (search rules)

pub further-loop-turn-preserved : goal.further-loop-turn-preserved
further-loop-turn-preserved t c =
    let seen : sees (is_operator c.args.operator) c.loop-turn.tokens ≡ true = search rules in
    turn_keeps any (join c.args.operator) (is_operator c.args.operator) (operand (formula c.args.depth) c.args.operator) _ _ c.loop-turn._turn c.loop-turn.left _ c.loop-turn.tokens _ _ c.loop-turn-test.true c.loop-turn.invariant seen refl
    c.in_ok-right.ensures c.in_ok-left.ensures
