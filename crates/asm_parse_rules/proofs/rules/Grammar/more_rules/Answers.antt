use Rattle.std.proofs.Common.{◌≡◌, ◌∙◌, true, false, rules}
use Rattle.asm_grammar.specs.Parser.{sees}
use Rattle.asm_parse_theory.specs.Firsts.{starts_rule}
use Rattle.asm_parse_theory.specs.Rules.{inside}
use Rattle.asm_parse_rules.proofs.Turns.{turn_keeps, turn_fails, turn_ends}
use Rattle.asm_parse_rules.proofs.rules.Grammar.more_rules.Goals as goal

pub loop-turn-preserved : goal.loop-turn-preserved
loop-turn-preserved g c =
    let seen : sees starts_rule c.loop-turn.tokens ≡ true = search rules in
    turn_keeps starts_rule (inside c.args.self.now.depth) _ _ c.loop-turn._turn c.loop-turn.found _ c.loop-turn.tokens _ _ c.loop-turn-test.true c.loop-turn.invariant seen
    c.in-Ok.ensures c.in_ok-push.ensures.ok

pub returns-in-Err : goal.returns-in-Err
returns-in-Err g c =
    let seen : sees starts_rule c.loop-turn.tokens ≡ true = search rules in
    turn_fails starts_rule (inside c.args.self.now.depth) _ _ c.loop-turn._turn c.loop-turn.found c.loop-turn.tokens _ _ c.loop-turn-test.true c.loop-turn.invariant seen
    c.in-Err.ensures

pub returns-then-not-starts_rule : goal.returns-then-not-starts_rule
returns-then-not-starts_rule g c =
    let seen : sees starts_rule c.loop-turn.tokens ≡ false = search rules in
    c.loop-turn.invariant ∙ turn_ends starts_rule (inside c.args.self.now.depth) _ c.loop-turn.found c.loop-turn.tokens seen
