use Rattle.std.proofs.Common.{◌≡◌, ◌++◌, map, drop}
use Rattle.asm_board.specs.Logs.{entry_shown}
use Rattle.asm_showing.proofs.entries.entries_shown.Given as goal

-- the entries shown, and those still to show
abbrev pub invariant-loop-entry : goal.invariant-loop-entry
invariant-loop-entry l = l.trees ++ map entry_shown (drop l.entry-index l.entries) ≡ map entry_shown l.entries
