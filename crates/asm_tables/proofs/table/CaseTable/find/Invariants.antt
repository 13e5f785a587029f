use Rattle.std.proofs.Common.{◌≡◌, ◌<◌, ℕ, false}
use Rattle.asm_tables.specs.Table.{matches_at}
use Rattle.asm_tables.proofs.table.CaseTable.find.Given as goal

-- no row before this one matches
abbrev pub invariant-loop-at : goal.invariant-loop-at
invariant-loop-at g l = (k : ℕ) → k < l.at → matches_at l.self.rows l.name l.kinds k ≡ false
