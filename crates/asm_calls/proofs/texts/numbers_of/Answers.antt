-- The names of one more definition, the one before the last ones.
use Rattle.std.proofs.Common.{◌+◌, ◌-◌, length, arith}
use Rattle.std.proofs.lemmas.List.{length-map}
use Rattle.asm_calls.specs.Texts.{all_defined, defined_as}
use Rattle.asm_calls.proofs.TextSteps.{numbers_first, numbers_more, numbers_all}
use Rattle.asm_calls.proofs.texts.numbers_of.Goals as goal

pub loop-past-init : goal.loop-past-init
loop-past-init c =
    numbers_first c.args.rules (length c.args.all.now - 0) (all_defined c.args.all.now)
    c.new-numbers.result c.new-numbers.ensures.empty
    (omega (arith, length-map c.args.all.now defined_as))

pub loop-past-preserved : goal.loop-past-preserved
loop-past-preserved c =
    let low = c.loop-past-test.true in
    numbers_more c.args.rules (length c.args.all.now - 1 - c.loop-past.past)
    (length c.args.all.now - c.loop-past.past) (length c.args.all.now - (c.loop-past.past + 1))
    c.args.all.now c.index-all-at.result c.loop-past.numbers c.add_number.new.numbers
    (omega (arith, low)) (omega (arith, low)) (omega (arith, low)) c.index-all-at.is
    c.loop-past.invariant c.in_ok-add_number.ensures

pub returns : goal.returns
returns c =
    numbers_all c.args.rules (length c.args.all.now - c.loop-past.past)
    (all_defined c.args.all.now) c.loop-past.numbers (omega (arith, c.loop-past-test.false))
    c.loop-past.invariant
