use Rattle.asm_typed_alone.specs.Listed.{with_names, functions_named}
use Rattle.asm_typed_alone.proofs.ListingSteps.{functions-next, functions-end}
use Rattle.asm_typed_alone.proofs.listing.add_functions.Goals as goal

pub loop-at-preserved : goal.loop-at-preserved
loop-at-preserved c =
    functions-next c.loop-at.names c.add.new.names
    (with_names c.args.names.now (functions_named 0 c.args.functions.now)) c.args.functions.now
    c.loop-at.at c.in_ok-function.function c.index-functions-at.result c.loop-at-test.true
    c.index-functions-at.is c.in_ok-function.ensures c.in_ok-add.ensures c.loop-at.invariant

pub returns : goal.returns
returns c =
    functions-end c.loop-at.names c.loop-at.names
    (with_names c.args.names.now (functions_named 0 c.args.functions.now)) c.args.functions.now
    c.loop-at.at c.loop-at-test.false c.loop-at.invariant
