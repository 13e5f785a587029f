-- The work of a text with its added invariants, one after another.
use Rattle.std.proofs.Common.{ℕ, List, filter, sum_by}
use Rattle.asm_program.specs.declared.program.Inv.{Inv}
use Rattle.asm_program.specs.declared.program.Program.{Program}
use Rattle.asm_board.specs.Changes.{invariant_work}

-- the work of the added ones among these invariants
abbrev pub works_of : Program → List Inv → ℕ
works_of p invs = sum_by (invariant_work p) (filter (λ inv. inv.added) invs)
