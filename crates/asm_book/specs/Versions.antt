-- The first version that is another at a board.
use Rattle.std.specs.Prelude.{ℕ, List, Option, Some, None}
use Rattle.asm_board.specs.declared.board.Board.{Board}
use Rattle.asm_board.specs.declared.prepared.NameVersion.{NameVersion}
use Rattle.asm_board.specs.Boards.{version_of}

-- a model with the version that it had, and the one that it has now
abbrev pub stale_at : Board → Option NameVersion → Option (List ℕ × (ℕ × ℕ))
stale_at board None = None
stale_at board (Some v) = Some (v.name, (v.version, version_of board v.name))
