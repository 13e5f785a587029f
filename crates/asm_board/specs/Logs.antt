-- What a log shows of a journal.
use Rattle.std.specs.Prelude.{ℕ, ◌+◌, ◌-◌, Bool, ◌&&◌, nat_le, nat_lt, List, [], ◌∷◌, length, map, take, drop, codes}
use Rattle.asm_portable.specs.declared.port.Port.{Port}
use Rattle.asm_portable.specs.Ports.{number, list, field, fields}
use Rattle.asm_board.specs.declared.call.Call.{Call}
use Rattle.asm_board.specs.declared.call.Call.TheVariants as call
use Rattle.asm_board.specs.declared.entry.Entry.{Entry}
use Rattle.asm_board.specs.declared.reply.Body.{Body}
use Rattle.asm_board.specs.declared.reply.Body.TheVariants as bodies
use Rattle.asm_board.specs.Replies.{reply_port}
use Rattle.asm_board.specs.CallPorts.{call_port}
use Rattle.asm_board.specs.Boards.{unless_ahead}

-- the entries for which a log asks: so many from this number on, as far as there are such; the
-- first entry has the number 1
abbrev pub asked_of : Call → List Entry → List Entry
asked_of (call.Log from count since) journal = drop (from - 1) (take (from + count - 1) journal)
asked_of _ journal = []

-- the entry has one of so many numbers from this one on
abbrev pub is_numbered : ℕ → ℕ → Entry → Bool
is_numbered from count e = nat_le from e.number && nat_lt e.number (from + count)

-- an entry: its call as the request that asks for it, and its reply
abbrev pub entry_shown : Entry → Port
entry_shown e = fields
    (field (codes "call") (call_port e.call)
    ∷ field (codes "number") (number e.number)
    ∷ field (codes "reply") (reply_port e.number e.body)
    ∷ field (codes "seat") (number e.seat) ∷ [])

abbrev pub log_shown : List Entry → Port
log_shown entries = fields (field (codes "entries") (list (map entry_shown entries)) ∷ [])

-- what a log of these entries tells after so many
abbrev pub log_body : ℕ → List Entry → Call → Body
log_body front entries c = unless_ahead front c (bodies.Ok (log_shown entries))

-- What a log tells of a journal.
abbrev pub log_of : List Entry → Call → Body
log_of journal c = log_body (length journal) (asked_of c journal) c
