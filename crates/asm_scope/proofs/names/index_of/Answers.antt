use Rattle.asm_scope.proofs.IndexSteps.{no_names, one_more}
use Rattle.asm_scope.proofs.names.index_of.Goals as goal

pub loop-entry-init : goal.loop-entry-init
loop-entry-init c = no_names c.new-index.result c.new-index.ensures.empty

pub loop-entry-preserved : goal.loop-entry-preserved
loop-entry-preserved c =
    one_more c.loop-entry.index c.add_name.new.index c.args.names.now c.loop-entry.entry-index c.entry-item.result c.loop-entry-test.true c.entry-item.is c.loop-entry.invariant
    c.in_ok-add_name.ensures
