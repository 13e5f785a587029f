-- The work of a text with its added invariants, one after another.
use Rattle.std.specs.Prelude.{ℕ, ◌+◌, min, if◌then◌else◌}
use Rattle.asm_program.specs.declared.program.Inv.{Inv}
use Rattle.asm_program.specs.declared.program.Program.{Program}
use Rattle.asm_board.specs.Changes.{invariant_work, most_work_told}

-- a work with that of an invariant, where it was added, as it is told
abbrev pub told_with : Program → ℕ → Inv → ℕ
told_with program work inv =
    if inv.added then min (work + invariant_work program inv) most_work_told else work
