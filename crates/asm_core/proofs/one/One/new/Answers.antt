use Rattle.asm_core.proofs.Kept.{keeps_new}
use Rattle.asm_core.proofs.one.One.new.Goals as goal

pub invariant_of-result : goal.invariant_of-result
invariant_of-result c = keeps_new c.args.room c.new.result _ c.new.ensures c.in_ok-with_capacity.ensures.items c.requires
