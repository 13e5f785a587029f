-- the inputs still to set lead to the same state
use Rattle.std.proofs.Common.{◌≡◌, drop}
use Rattle.asm_value.specs.State.{fire_all}
use Rattle.asm_step.proofs.inputs.with_inputs.Given as goal

abbrev pub invariant-loop-input : goal.invariant-loop-input
invariant-loop-input l =
    fire_all l.before (drop l.input-index l.inputs) ≡ fire_all l.initial.before l.inputs
