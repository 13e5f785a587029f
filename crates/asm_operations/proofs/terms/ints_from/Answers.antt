-- One more integer.
use Rattle.std.proofs.Common.{arith, to_z-of_z}
use Rattle.std.proofs.lemmas.Grind.{common_steps}
use Rattle.asm_operations.proofs.Intervals.{ints_from-more}
use Rattle.asm_operations.proofs.terms.ints_from.Goals as goal

pub loop-step-preserved : goal.loop-step-preserved
loop-step-preserved c =
    let more = ints_from-more c.args.first c.loop-step.step in
    grind (arith, common_steps, to_z-of_z, more)
