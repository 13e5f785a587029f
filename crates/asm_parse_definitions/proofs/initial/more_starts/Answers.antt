use Rattle.std.proofs.Common.{◌≡◌, ◌∙◌, true, false, rules, codes}
use Rattle.asm_grammar.specs.Parser.{sees}
use Rattle.asm_syntax.specs.Marks.{is, keyword}
use Rattle.asm_parse_theory.specs.Models.{start}
use Rattle.asm_parse_definitions.proofs.Turns.{turn_keeps, turn_fails, turn_ends}
use Rattle.asm_parse_definitions.proofs.initial.more_starts.Goals as goal

pub loop-turn-preserved : goal.loop-turn-preserved
loop-turn-preserved c =
    let seen : sees (is (keyword (codes "function"))) c.loop-turn.tokens ≡ true = search rules in
    turn_keeps (is (keyword (codes "function"))) (start c.args.depth) _ _ c.loop-turn._turn c.loop-turn.found _ c.loop-turn.tokens _ _ c.loop-turn-test.true c.loop-turn.invariant seen
    c.in-Ok.ensures c.in_ok-push.ensures.ok

pub returns-in-Err : goal.returns-in-Err
returns-in-Err c =
    let seen : sees (is (keyword (codes "function"))) c.loop-turn.tokens ≡ true = search rules in
    turn_fails (is (keyword (codes "function"))) (start c.args.depth) _ _ c.loop-turn._turn c.loop-turn.found c.loop-turn.tokens _ _ c.loop-turn-test.true c.loop-turn.invariant seen
    c.in-Err.ensures

pub returns-then-not-sees_word : goal.returns-then-not-sees_word
returns-then-not-sees_word c =
    let seen : sees (is (keyword (codes "function"))) c.loop-turn.tokens ≡ false = search rules in
    c.loop-turn.invariant ∙ turn_ends (is (keyword (codes "function"))) (start c.args.depth) _ c.loop-turn.found c.loop-turn.tokens seen
