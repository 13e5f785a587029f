-- the invariants shared, and those still to share
use Rattle.std.proofs.Common.{◌≡◌, ◌++◌, drop}
use Rattle.asm_step.proofs.start.text_invariants.Given as goal

abbrev pub invariant-loop-inv : goal.invariant-loop-inv
invariant-loop-inv l = l.invs ++ drop l.inv-index l.program.invariants ≡ l.program.invariants
