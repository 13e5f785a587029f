-- All invariants so far hold, so the first of the rest that is broken is the first of all.
use Rattle.std.proofs.Common.{◌≡◌, drop}
use Rattle.asm_program.specs.Invariants.{first_broken}
use Rattle.asm_terms.specs.Views.{program_of, map_of}
use Rattle.asm_invariant.proofs.broken.broken_in.Given as goal

abbrev pub invariant-loop-inv : goal.invariant-loop-inv
invariant-loop-inv l =
    first_broken (program_of l.view) (map_of l.view) (drop l.inv-index l.invs)
    ≡ first_broken (program_of l.view) (map_of l.view) l.invs
