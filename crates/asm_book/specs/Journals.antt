-- A part of a journal.
use Rattle.std.specs.Prelude.{ℕ, ◌+◌, ◌-◌, List, take, drop}
use Rattle.asm_board.specs.declared.entry.Entry.{Entry}

-- the entries with count numbers from this one on, those that exist; the first has the number 1
abbrev pub entries_in : ℕ → ℕ → List Entry → List Entry
entries_in from count journal = drop (from - 1) (take (from + count - 1) journal)
