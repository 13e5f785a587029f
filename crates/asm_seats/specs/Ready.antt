-- Changes that may be committed.
use Rattle.std.specs.Prelude.{◌≡◌, true, List}
use Rattle.asm_board.specs.declared.entry.Entry.{Entry}
use Rattle.asm_board.specs.declared.prepared.Prepared.{Prepared}
use Rattle.asm_board.specs.Meanings.{Meanings}
use Rattle.asm_board.specs.Boards.{board_of}
use Rattle.asm_board.specs.Calls.{is_change}
use Rattle.asm_board.specs.Answers.{Stands}

-- the change was prepared at the board of this history
pub record IsReady (m : Meanings) (history : List Entry) (p : Prepared) : Type 0 where
  pub change : is_change p.call ≡ true
  pub stands : Stands m p p.call (board_of m history)
