use Rattle.asm_typed_alone.specs.Listed.{with_names, infos_named}
use Rattle.asm_typed_alone.proofs.ListingSteps.{infos-next, infos-end}
use Rattle.asm_typed_alone.proofs.listing.add_infos.Goals as goal

pub loop-at-preserved : goal.loop-at-preserved
loop-at-preserved c =
    infos-next c.loop-at.names c.add_info.new.names
    (with_names c.args.names.now (infos_named 0 c.args.domains.now)) c.args.domains.now
    c.loop-at.at c.in_ok-domain.domain c.index-domains-at.result c.loop-at-test.true
    c.index-domains-at.is c.in_ok-domain.ensures c.in_ok-add_info.ensures c.loop-at.invariant

pub returns : goal.returns
returns c =
    infos-end c.loop-at.names c.loop-at.names
    (with_names c.args.names.now (infos_named 0 c.args.domains.now)) c.args.domains.now
    c.loop-at.at c.loop-at-test.false c.loop-at.invariant
