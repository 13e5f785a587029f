use Rattle.std.proofs.Common.{sym, ◌∙◌, arith}
use Rattle.asm_formula.specs.Scan.{lexed_from}
use Rattle.asm_formula.proofs.Places.{token_moves, space_keeps, token_keeps, stop_gives, end_gives}
use Rattle.asm_formula.proofs.lexing.lex.Goals as goal

pub overflow_add-at-in-Taken : goal.overflow_add-at-in-Taken
overflow_add-at-in-Taken c = let m = token_moves c.args.text.now c.loop-at.at c.in-Taken.len c.in-Taken.kind c.loop-at-test.true (sym c.in-Taken.is ∙ c.in_ok-front.ensures) in omega (arith, m.within)

pub loop-at-smaller : goal.loop-at-smaller
loop-at-smaller c = let m = token_moves c.args.text.now c.loop-at.at c.in-Taken.len c.in-Taken.kind c.loop-at-test.true (sym c.in-Taken.is ∙ c.in_ok-front.ensures) in omega (arith, m.within, m.some)

pub loop-at-preserved-in-Blank : goal.loop-at-preserved-in-Blank
loop-at-preserved-in-Blank c = record {
  within = omega arith;
  rest = space_keeps c.args.text.now (lexed_from c.args.text.now 0 0) c.loop-at.tokens c.loop-at.at c.loop-at.invariant.rest c.loop-at-test.true (sym c.in-Blank.is ∙ c.in_ok-front.ensures);
}

pub loop-at-preserved : goal.loop-at-preserved
loop-at-preserved c =
    let f = sym c.in-Taken.is ∙ c.in_ok-front.ensures in
    let m = token_moves c.args.text.now c.loop-at.at c.in-Taken.len c.in-Taken.kind c.loop-at-test.true f in
    record {
      within = m.within;
      rest = token_keeps c.args.text.now (lexed_from c.args.text.now 0 0) c.loop-at.tokens c.loop-at.at c.loop-at.invariant.rest c.in-Taken.len c.in-Taken.kind _ c.loop-at-test.true f c.in_ok-push-in-Taken.ensures.ok;
    }

pub returns-in-Nothing : goal.returns-in-Nothing
returns-in-Nothing c = λ n. stop_gives c.args.text.now (lexed_from c.args.text.now 0 0) c.loop-at.tokens c.loop-at.at c.loop-at.invariant.rest c.loop-at-test.true (sym c.in-Nothing.is ∙ c.in_ok-front.ensures)

pub returns : goal.returns
returns c = end_gives c.args.text.now (lexed_from c.args.text.now 0 0) c.loop-at.tokens c.loop-at.at c.loop-at.invariant.rest c.loop-at-test.false
