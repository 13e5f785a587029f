use Rattle.std.proofs.Common.{◌≡◌, ◌∙◌, true, false, rules}
use Rattle.asm_grammar.specs.Parser.{sees}
use Rattle.asm_parse_theory.specs.Firsts.{starts_def}
use Rattle.asm_parse_theory.specs.Models.{def}
use Rattle.asm_parse_definitions.proofs.Turns.{turn_keeps, turn_fails, turn_ends}
use Rattle.asm_parse_definitions.proofs.definitions.Defs.more_defs.Goals as goal

pub loop-turn-preserved : goal.loop-turn-preserved
loop-turn-preserved g c =
    let seen : sees starts_def c.loop-turn.tokens ≡ true = search rules in
    turn_keeps starts_def (def c.args.self.now.depth) _ _ c.loop-turn._turn c.loop-turn.found _ c.loop-turn.tokens _ _ c.loop-turn-test.true c.loop-turn.invariant seen
    c.in-Ok.ensures c.in_ok-push.ensures.ok

pub returns-in-Err : goal.returns-in-Err
returns-in-Err g c =
    let seen : sees starts_def c.loop-turn.tokens ≡ true = search rules in
    turn_fails starts_def (def c.args.self.now.depth) _ _ c.loop-turn._turn c.loop-turn.found c.loop-turn.tokens _ _ c.loop-turn-test.true c.loop-turn.invariant seen
    c.in-Err.ensures

pub returns-then-not-starts_def : goal.returns-then-not-starts_def
returns-then-not-starts_def g c =
    let seen : sees starts_def c.loop-turn.tokens ≡ false = search rules in
    c.loop-turn.invariant ∙ turn_ends starts_def (def c.args.self.now.depth) _ c.loop-turn.found c.loop-turn.tokens seen
