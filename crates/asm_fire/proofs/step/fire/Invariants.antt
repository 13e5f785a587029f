-- What is left to fire leads to the same state.
use Rattle.std.proofs.Common.{◌≡◌, drop}
use Rattle.asm_value.specs.State.{fire_all}
use Rattle.asm_fire.proofs.step.fire.Given as goal

abbrev pub invariant-loop-update : goal.invariant-loop-update
invariant-loop-update l =
    fire_all l.next (drop l.update-index l.update-items) ≡ fire_all l.initial.next l.update-items
