-- The board of a journal, and what a call is at a board.
use Rattle.std.specs.Prelude.{ℕ, ◌+◌, Bool, false, ◌&&◌, nat_lt, List, [], fold, if◌then◌else◌, is_none, Ok, Err}
use Rattle.asm_portable.specs.declared.port.Port.{Port}
use Rattle.asm_board.specs.declared.board.Board.{Board}
use Rattle.asm_board.specs.declared.call.Call.{Call}
use Rattle.asm_board.specs.declared.call.Call.TheVariants as call
use Rattle.asm_board.specs.declared.reply.Body.{Body}
use Rattle.asm_board.specs.declared.reply.Body.TheVariants as bodies
use Rattle.asm_board.specs.declared.entry.Entry.{Entry}
use Rattle.asm_board.specs.declared.prepared.NameVersion.{NameVersion}
use Rattle.asm_board.specs.declared.prepared.Changed.{Changed}
use Rattle.asm_board.specs.Meanings.{Meanings}
use Rattle.asm_board.specs.Refusals.{Tried, ahead}
use Rattle.asm_board.specs.Slots.{Models, slot_in, version_in, only, versions_in, new_slots, changed}
use Rattle.asm_board.specs.Calls.{footprint, is_change, since_of, entry_weight, capped}
use Rattle.asm_board.specs.Changes.{Change, change, is_right_name}
use Rattle.asm_board.specs.Reads.{read}

-- the most models of a board
abbrev pub model_limit : ℕ
model_limit = 32

abbrev pub empty_board : Board
empty_board = record { front = 0; weight = 0; slots = [] }

abbrev pub version_of : Board → List ℕ → ℕ
version_of board name = version_in board.slots name

abbrev pub body_of_change : Change → Body
body_of_change (Ok accepted) = bodies.Ok accepted.ok
body_of_change (Err why) = bodies.No why

abbrev pub body_of_read : Tried Port → Body
body_of_read (Ok tree) = bodies.Ok tree
body_of_read (Err why) = bodies.No why

-- this body, unless the call is to be answered after more entries than these
abbrev pub unless_ahead : ℕ → Call → Body → Body
unless_ahead front c body = if nat_lt front (since_of c) then bodies.No (ahead front) else body

abbrev pub slots_of_change : Models → Change → List Changed
slots_of_change models (Ok accepted) = new_slots models accepted.news
slots_of_change models (Err why) = []

-- what the entry of a change weighs, 0 where there is none
abbrev pub weight_of_change : Call → Change → ℕ
weight_of_change c (Ok accepted) = entry_weight c accepted.ok
weight_of_change c (Err why) = 0

-- what an entry weighs, which holds an Ok
abbrev pub body_weight : Call → Body → ℕ
body_weight c (bodies.Ok tree) = entry_weight c tree
body_weight c (bodies.No why) = 0

-- a load under a right name that isn't taken
abbrev pub is_new_model : Models → Call → Bool
is_new_model models (call.Load name source) = is_right_name name && is_none (slot_in models name)
is_new_model models _ = false

-- the models of which a change speaks, as they are on a board: all that it depends on
abbrev pub spoken_of : Board → Call → Models
spoken_of board c = only board.slots (footprint c)

abbrev pub loads_at : Board → Call → Bool
loads_at board c = is_new_model (spoken_of board c) c

-- each model of the footprint with its version
abbrev pub versions_at : Board → Call → List NameVersion
versions_at board c = versions_in board.slots (footprint c)

-- the board with one more entry of this weight, whose number is the version of all that it changed
abbrev pub with_entry : Board → ℕ → List Changed → Board
with_entry board weight slots = record {
  front = board.front + 1;
  weight = capped (board.weight + weight);
  slots = changed (board.front + 1) board.slots slots;
}

module _ (m : Meanings) where
  abbrev pub change_at : Board → Call → Change
  change_at board c = change m (spoken_of board c) c

  abbrev pub read_at : Board → Call → Body
  read_at board c = unless_ahead board.front c (body_of_read (read m board.slots c))

  -- what a call gives at a board, were there room
  abbrev pub body_at : Board → Call → Body
  body_at board c =
      if is_change c then body_of_change (change_at board c) else read_at board c

  abbrev pub slots_at : Board → Call → List Changed
  slots_at board c =
      if is_change c then slots_of_change (spoken_of board c) (change_at board c) else []

  abbrev pub weight_at : Board → Call → ℕ
  weight_at board c = if is_change c then weight_of_change c (change_at board c) else 0

  -- the board after one more entry
  abbrev pub applied : Board → Entry → Board
  applied board entry =
      with_entry board (body_weight entry.call entry.body) (slots_at board entry.call)

  -- The board of a journal.
  unfoldable pub board_of : List Entry → Board
  board_of journal = fold applied empty_board journal
