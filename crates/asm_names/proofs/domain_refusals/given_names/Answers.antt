use Rattle.std.proofs.Common.{ap, ◌∙◌}
use Rattle.asm_items.specs.Views.{item_of}
use Rattle.asm_names.specs.Passes.{given_with}
use Rattle.asm_names.proofs.Lists.{given-step}
use Rattle.asm_names.proofs.domain_refusals.given_names.Goals as goal

pub loop-item-preserved : goal.loop-item-preserved
loop-item-preserved c =
    given-step item_of c.loop-item.names c.add_given.new.names c.args.items.now c.loop-item.item-index c.item-item.result c.loop-item-test.true c.loop-item.invariant
    (c.in-Ok.ensures ∙ ap (λ x. given_with c.loop-item.names (item_of x)) c.item-item.is)
