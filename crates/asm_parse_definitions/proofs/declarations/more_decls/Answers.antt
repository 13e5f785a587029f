use Rattle.std.proofs.Common.{◌≡◌, ◌∙◌, true, false, rules}
use Rattle.asm_grammar.specs.Parser.{sees}
use Rattle.asm_parse_theory.specs.Firsts.{starts_decl}
use Rattle.asm_parse_theory.specs.Models.{decl}
use Rattle.asm_parse_definitions.proofs.Turns.{turn_keeps, turn_fails, turn_ends}
use Rattle.asm_parse_definitions.proofs.declarations.more_decls.Goals as goal

pub loop-turn-preserved : goal.loop-turn-preserved
loop-turn-preserved c =
    let seen : sees starts_decl c.loop-turn.tokens ≡ true = search rules in
    turn_keeps starts_decl (decl c.args.depth) _ _ c.loop-turn._turn c.loop-turn.found _ c.loop-turn.tokens _ _ c.loop-turn-test.true c.loop-turn.invariant seen
    c.in-Ok.ensures c.in_ok-push.ensures.ok

pub returns-in-Err : goal.returns-in-Err
returns-in-Err c =
    let seen : sees starts_decl c.loop-turn.tokens ≡ true = search rules in
    turn_fails starts_decl (decl c.args.depth) _ _ c.loop-turn._turn c.loop-turn.found c.loop-turn.tokens _ _ c.loop-turn-test.true c.loop-turn.invariant seen
    c.in-Err.ensures

pub returns-then-not-starts_decl : goal.returns-then-not-starts_decl
returns-then-not-starts_decl c =
    let seen : sees starts_decl c.loop-turn.tokens ≡ false = search rules in
    c.loop-turn.invariant ∙ turn_ends starts_decl (decl c.args.depth) _ c.loop-turn.found c.loop-turn.tokens seen
