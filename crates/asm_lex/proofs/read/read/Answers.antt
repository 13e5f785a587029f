use Rattle.std.proofs.Common.{◌+◌, List, drop, arith, sym, ap, ◌∙◌}
use Rattle.asm_syntax.specs.declared.token.Token.{Token}
use Rattle.asm_lex_theory.specs.Scan.{lexed_from, after_tokens}
use Rattle.asm_lex_theory.proofs.Places.{gap_moves, token_moves}
use Rattle.asm_lex.proofs.Laws.{gap_keeps, token_keeps, refusal_gives, end_gives}
use Rattle.asm_lex.proofs.read.read.Goals as goal

pub overflow_add-at : goal.overflow_add-at
overflow_add-at c = let m = gap_moves c.args.text.now c.loop-at.at c.in-Gap.len c.loop-at-test.true (sym c.in-Gap.is ∙ c.in_ok-len.ensures) in omega (arith, m.within, c.requires)

pub loop-at-smaller-in-Gap : goal.loop-at-smaller-in-Gap
loop-at-smaller-in-Gap c = let m = gap_moves c.args.text.now c.loop-at.at c.in-Gap.len c.loop-at-test.true (sym c.in-Gap.is ∙ c.in_ok-len.ensures) in omega (arith, m.within, m.some)

pub loop-at-preserved-in-Gap : goal.loop-at-preserved-in-Gap
loop-at-preserved-in-Gap c =
    let f = sym c.in-Gap.is ∙ c.in_ok-len.ensures in
    let m = gap_moves c.args.text.now c.loop-at.at c.in-Gap.len c.loop-at-test.true f in
    record { within = m.within; rest = gap_keeps c.args.text.now (lexed_from c.args.text.now 0 0) c.loop-at.tokens c.loop-at.at c.in-Gap.len c.loop-at.invariant.rest c.loop-at-test.true f }

pub overflow_add-span : goal.overflow_add-span
overflow_add-span c = let m = token_moves c.args.text.now c.loop-at.at c.in-Taken.len c.in-Taken.kind c.loop-at-test.true (sym c.in-Taken.is ∙ c.in_ok-len.ensures) in omega (arith, m.within, c.requires)

pub overflow_cast-span-in-Taken : goal.overflow_cast-span-in-Taken
overflow_cast-span-in-Taken c = let m = token_moves c.args.text.now c.loop-at.at c.in-Taken.len c.in-Taken.kind c.loop-at-test.true (sym c.in-Taken.is ∙ c.in_ok-len.ensures) in omega (arith, m.within, c.requires)

pub overflow_add-at-in-Taken : goal.overflow_add-at-in-Taken
overflow_add-at-in-Taken c = let m = token_moves c.args.text.now c.loop-at.at c.in-Taken.len c.in-Taken.kind c.loop-at-test.true (sym c.in-Taken.is ∙ c.in_ok-len.ensures) in omega (arith, m.within, c.requires)

pub loop-at-smaller : goal.loop-at-smaller
loop-at-smaller c = let m = token_moves c.args.text.now c.loop-at.at c.in-Taken.len c.in-Taken.kind c.loop-at-test.true (sym c.in-Taken.is ∙ c.in_ok-len.ensures) in omega (arith, m.within, m.some)

pub loop-at-preserved : goal.loop-at-preserved
loop-at-preserved c =
    let f = sym c.in-Taken.is ∙ c.in_ok-len.ensures in
    let m = token_moves c.args.text.now c.loop-at.at c.in-Taken.len c.in-Taken.kind c.loop-at-test.true f in
    record {
      within = m.within;
      rest = token_keeps c.args.text.now (lexed_from c.args.text.now 0 0) c.loop-at.tokens c.loop-at.at c.in-Taken.len c.in-Taken.kind c.loop-at.invariant.rest c.loop-at-test.true f
          ∙ ap (λ (ts : List Token). after_tokens ts (lexed_from (drop (c.loop-at.at + c.in-Taken.len) c.args.text.now) 0 (c.loop-at.at + c.in-Taken.len))) (sym c.in_ok-push-in-Taken.ensures.ok);
    }

pub returns-in-Refusal : goal.returns-in-Refusal
returns-in-Refusal c = refusal_gives c.args.text.now (lexed_from c.args.text.now 0 0) c.loop-at.tokens c.loop-at.at c.in-Refusal.why c.refusal.result c.loop-at.invariant.rest c.loop-at-test.true (sym c.in-Refusal.is ∙ c.in_ok-len.ensures) c.refusal.ensures

pub returns : goal.returns
returns c = end_gives c.args.text.now (lexed_from c.args.text.now 0 0) c.loop-at.tokens c.loop-at.at c.loop-at.invariant.rest c.loop-at-test.false
