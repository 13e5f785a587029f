-- What is said of journals: which entries they have, what they weigh, and what still stands after
-- more entries.
use Rattle.std.specs.Prelude.{ℕ, ◌≡◌, true, List, ⊤}
use Rattle.std.specs.List.{sum_by}
use mathlib.Core.List.{IsPrefix}
use Rattle.asm_board.specs.declared.call.Call.{Call}
use Rattle.asm_board.specs.declared.reply.Body.{Body}
use Rattle.asm_board.specs.declared.reply.Body.TheVariants as bodies
use Rattle.asm_board.specs.declared.entry.Entry.{Entry}
use Rattle.asm_board.specs.declared.prepared.Prepared.{Prepared}
use Rattle.asm_board.specs.Meanings.{Meanings}
use Rattle.asm_board.specs.Calls.{is_change}
use Rattle.asm_board.specs.Boards.{body_weight, board_of, versions_at}
use Rattle.asm_board.specs.Answers.{Stands, Settled, answer, settle}

-- the body is an answer, and no refusal
abbrev pub IsAnswer : Body → Type 0
IsAnswer (bodies.Ok tree) = ⊤
IsAnswer (bodies.No why) = ⊥

-- the call may change the models, and isn't refused
pub record IsAcceptedChange (call : Call) (body : Body) : Type 0 where
  pub changes : is_change call ≡ true
  pub accepted : IsAnswer body

-- the entries weigh what their calls and bodies do
abbrev pub entries_weight : List Entry → ℕ
entries_weight journal = sum_by (λ entry. body_weight entry.call entry.body) journal

-- What was prepared for a change after a beginning of a journal, and whose versions are still the
-- same, stands after the whole journal and is settled as the one-thread server answers.
abbrev pub PreparedStillStands : ℕ → Type 0
PreparedStillStands room =
    (m : Meanings) (journal prefix : List Entry) (p : Prepared) (c : Call)
    → IsPrefix prefix journal → is_change c ≡ true
    → Stands m p c (board_of m prefix) → p.versions ≡ versions_at (board_of m journal) c
    → Stands m p c (board_of m journal)
    × ((seat : ℕ) → settle m room journal seat p ≡ Settled (answer m room journal seat c))
