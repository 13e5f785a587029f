use Rattle.std.proofs.Common.{◌≡◌}
use Rattle.asm_demo.specs.Calls.{steps}
use Rattle.asm_demo.specs.Runs.{asked_all}
use Rattle.asm_demo.proofs.run.Run.ask_steps.Given as goal

abbrev pub invariant-loop-done : goal.invariant-loop-done
invariant-loop-done l = l.self ≡ asked_all l.initial.self (steps l._done)
