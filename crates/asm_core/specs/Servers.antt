-- The server of one thread: a journal, and the room that it has.
use Rattle.std.specs.Prelude.{◌≡◌, ℕ, ◌≤◌, ◌^◌, List, ◌++◌, length, Option, option_to_list}
use Rattle.asm_board.specs.declared.board.Board.{Board}
use Rattle.asm_board.specs.declared.entry.Entry.{Entry}
use Rattle.asm_board.specs.Boards.{board_of}
use Rattle.asm_core.specs.Language.{asmeta}

pub record Server : Type 0 where
  pub room : ℕ
  pub journal : List Entry

-- its journal goes on with an entry, if there is one
abbrev pub grown : Server → Option Entry → Server
grown server entry = record { room = server.room; journal = server.journal ++ option_to_list entry }

-- the board is that of the journal, which keeps to its room
pub record Keeps (room : ℕ) (journal : List Entry) (board : Board) : Type 0 where
  pub is_board : board ≡ board_of asmeta journal
  pub front : board.front ≡ length journal
  pub light : board.front ≤ board.weight
  pub within : board.weight ≤ room
  pub small : room ≤ 2 ^ 23
