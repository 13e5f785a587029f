use Rattle.std.proofs.Common.{◌≡◌, ◌+◌, ◌^◌, ◌≤◌, min, drop}
use Rattle.asm_core.proofs.Works.{works_of}
use Rattle.asm_core.proofs.invariants.whole_work.Given as goal

-- with the invariants that are left it is the whole work, as it is told
abbrev pub invariant-loop-inv : goal.invariant-loop-inv
invariant-loop-inv l = record {
  whole : min (l.work + works_of l.program (drop l.inv-index l.invs)) (2 ^ 32) ≡ min (l.program.work + works_of l.program l.invs) (2 ^ 32);
  within : l.work ≤ 2 ^ 32;
}
