-- How a prepared change ends at a board, before it is reported.
use Rattle.std.specs.Prelude.{ℕ, ◌≡◌, None, Some}
use Rattle.asm_portable.specs.declared.port.Port.{Port}
use Rattle.asm_board.specs.declared.board.Board.{Board}
use Rattle.asm_board.specs.declared.call.Call.{Call}
use Rattle.asm_board.specs.declared.entry.Entry.{Entry}
use Rattle.asm_board.specs.declared.outcome.End.{End}
use Rattle.asm_board.specs.declared.outcome.End.TheVariants as ends
use Rattle.asm_board.specs.declared.prepared.Prepared.{Prepared}
use Rattle.asm_board.specs.declared.reply.Body.TheVariants as bodies
use Rattle.asm_board.specs.Answers.{Answer, told}

-- the entry of this number, with this tree
abbrev pub entered_at : ℕ → ℕ → Call → Port → Entry
entered_at number seat c tree =
    record { seat = seat; number = number; call = c; body = bodies.Ok tree }

-- what is answered to a change of a seat that ends so, after this many entries
abbrev pub answer_of : Prepared → ℕ → ℕ → End → Answer
answer_of p front seat ends.Told = record { reply = told front p.body p.tail; entry = None }
answer_of p front seat (ends.Refused reply) = record { reply = reply; entry = None }
answer_of p front seat (ends.Entered tree board) = record {
  reply = told board.front p.body p.tail;
  entry = Some (entered_at board.front seat p.call tree);
}

-- where there is an entry, the board after it is this one
abbrev pub LeavesBoard : Board → End → Type 0
LeavesBoard after ends.Told = Unit {0}
LeavesBoard after (ends.Refused reply) = Unit {0}
LeavesBoard after (ends.Entered tree board) = board ≡ after
