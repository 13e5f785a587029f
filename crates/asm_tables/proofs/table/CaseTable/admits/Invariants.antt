use Rattle.std.proofs.Common.{◌≡◌, drop}
use Rattle.asm_tables.specs.Table.{admits}
use Rattle.asm_tables.proofs.table.CaseTable.admits.Given as goal

abbrev pub invariant-loop-row : goal.invariant-loop-row
invariant-loop-row g l = admits (drop l.row-index l.self.rows) l.name l.kinds ≡ admits l.self.rows l.name l.kinds
