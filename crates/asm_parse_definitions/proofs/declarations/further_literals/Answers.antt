use Rattle.std.proofs.Common.{◌≡◌, ◌∙◌, true, false, rules}
use Rattle.asm_grammar.specs.Parser.{sees, expect, mapped, both}
use Rattle.asm_syntax.specs.Forms.{second}
use Rattle.asm_syntax.specs.Marks.{is, id}
use Rattle.asm_parse_theory.specs.Models.{is_literal_sign}
use Rattle.asm_parse_definitions.proofs.Turns.{turn_keeps, turn_fails, turn_ends}
use Rattle.asm_parse_definitions.proofs.declarations.further_literals.Goals as goal

pub loop-turn-preserved : goal.loop-turn-preserved
loop-turn-preserved c =
    let seen : sees is_literal_sign c.loop-turn.tokens ≡ true = search rules in
    turn_keeps is_literal_sign (mapped second (both (expect is_literal_sign) (expect (is id)))) _ _ c.loop-turn._turn c.loop-turn.found _ c.loop-turn.tokens _ _ c.loop-turn-test.true c.loop-turn.invariant seen
    c.in-Ok.ensures c.in_ok-push.ensures.ok

pub returns-in-Err : goal.returns-in-Err
returns-in-Err c =
    let seen : sees is_literal_sign c.loop-turn.tokens ≡ true = search rules in
    turn_fails is_literal_sign (mapped second (both (expect is_literal_sign) (expect (is id)))) _ _ c.loop-turn._turn c.loop-turn.found c.loop-turn.tokens _ _ c.loop-turn-test.true c.loop-turn.invariant seen
    c.in-Err.ensures

pub returns-then-not-sees_one : goal.returns-then-not-sees_one
returns-then-not-sees_one c =
    let seen : sees is_literal_sign c.loop-turn.tokens ≡ false = search rules in
    c.loop-turn.invariant ∙ turn_ends is_literal_sign (mapped second (both (expect is_literal_sign) (expect (is id)))) _ c.loop-turn.found c.loop-turn.tokens seen
