use Rattle.std.proofs.Common.{◌≡◌, ◌++◌, drop}
use Rattle.asm_core.proofs.invariants.with_one.Given as goal

-- those that are there, and those still to come
abbrev pub invariant-loop-other : goal.invariant-loop-other
invariant-loop-other l = l.all ++ drop l.other-index l.invs ≡ l.invs
