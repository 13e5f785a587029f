use Rattle.std.proofs.Common.{◌≡◌, true, rules}
use Rattle.asm_grammar.specs.Parser.{sees}
use Rattle.asm_syntax.specs.Heights.{fits}
use Rattle.asm_syntax.specs.Terms.{joined}
use Rattle.asm_parse_cursor.proofs.Turns.{turn_keeps}
use Rattle.asm_parse_terms.specs.Lines.{is_operator, step}
use Rattle.asm_parse_terms.proofs.lines.Lines.chain.Goals as goal

pub loop-turn-preserved : goal.loop-turn-preserved
loop-turn-preserved g c =
    let seen : sees (is_operator c.args.operators) c.loop-turn.tokens ≡ true = search rules in
    let fit : fits c.loop-turn.left ≡ true = search rules in
    turn_keeps fits joined (is_operator c.args.operators) (step c.args.self.now.at.depth c.args.operators)
    _ _ c.loop-turn._turn c.loop-turn.left _ c.loop-turn.tokens _ _ c.loop-turn-test.true c.loop-turn.invariant seen fit
    c.in_ok-operator.ensures c.in_ok-left.ensures
