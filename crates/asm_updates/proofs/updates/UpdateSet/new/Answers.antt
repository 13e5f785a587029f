-- The set without updates weighs nothing.
use Rattle.asm_updates.proofs.Weights.{weight-none}
use Rattle.asm_updates.proofs.updates.UpdateSet.new.Goals as goal

pub invariant_of-result : goal.invariant_of-result
invariant_of-result c = weight-none c.new.result.keys c.new.ensures.empty
