use Rattle.asm_typed_alone.specs.Listed.{with_names, literals_named}
use Rattle.asm_typed_alone.proofs.ListingSteps.{literals-next, literals-end}
use Rattle.asm_typed_alone.proofs.listing.add_literals.Goals as goal

pub loop-at-preserved : goal.loop-at-preserved
loop-at-preserved c =
    literals-next c.loop-at.names c.add.new.names
    (with_names c.args.names.now (literals_named c.args.domain 0 c.args.literals.now))
    c.args.domain c.args.literals.now c.loop-at.at c.in_ok-index.index c.index-literals-at.result
    c.loop-at-test.true c.index-literals-at.is c.in_ok-index.ensures c.in_ok-add.ensures
    c.loop-at.invariant

pub returns : goal.returns
returns c =
    literals-end c.loop-at.names c.loop-at.names
    (with_names c.args.names.now (literals_named c.args.domain 0 c.args.literals.now))
    c.args.domain c.args.literals.now c.loop-at.at c.loop-at-test.false c.loop-at.invariant
