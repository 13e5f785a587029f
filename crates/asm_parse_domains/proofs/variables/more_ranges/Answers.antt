use Rattle.std.proofs.Common.{◌≡◌, true, refl, rules}
use Rattle.std.specs.Prelude.{codes}
use Rattle.asm_grammar.specs.Parser.{sees}
use Rattle.asm_syntax.specs.Marks.{is, symbol}
use Rattle.asm_syntax.specs.Forms.{any, one_more}
use Rattle.asm_parse_theory.specs.Forms.{after_sign}
use Rattle.asm_parse_theory.specs.Domains.{range, domain}
use Rattle.asm_parse_cursor.proofs.Turns.{turn_keeps}
use Rattle.asm_parse_domains.proofs.variables.more_ranges.Goals as goal

pub loop-turn-preserved : goal.loop-turn-preserved
loop-turn-preserved c =
    let seen : sees (is (symbol (codes ","))) c.loop-turn.tokens ≡ true = search rules in
    turn_keeps any one_more (is (symbol (codes ","))) (after_sign (codes ",") (range (domain c.args.depth))) _ _ c.loop-turn._turn c.loop-turn.found _ c.loop-turn.tokens _ _ c.loop-turn-test.true c.loop-turn.invariant seen refl
    c.in_ok-range.ensures c.in_ok-push.ensures.ok
