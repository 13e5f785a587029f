-- What the one-thread server answers, which journals are legal, how a prepared change is settled.
use Rattle.std.specs.Prelude.{ℕ, ◌+◌, ◌≡◌, Bool, ◌&&◌, Option, Some, None, List, [], ◌∷◌, length, option_map, if◌then◌else◌, nat_lt, nat_le, ◌==◌}
use Rattle.asm_board.specs.declared.board.Board.{Board}
use Rattle.asm_board.specs.declared.call.Call.{Call}
use Rattle.asm_board.specs.declared.reply.Body.{Body}
use Rattle.asm_board.specs.declared.reply.Body.TheVariants as bodies
use Rattle.asm_board.specs.declared.reply.Reply.{Reply}
use Rattle.asm_board.specs.declared.entry.Entry.{Entry}
use Rattle.asm_board.specs.declared.outcome.Outcome.{Outcome}
use Rattle.asm_board.specs.declared.prepared.NameVersion.{NameVersion}
use Rattle.asm_board.specs.declared.prepared.Prepared.{Prepared}
use Rattle.asm_board.specs.Meanings.{Meanings}
use Rattle.asm_board.specs.Refusals.{models_full, journal_full}
use Rattle.asm_board.specs.Replies.{tail_of, reply_of}
use Rattle.asm_board.specs.Calls.{is_change, is_log}
use Rattle.asm_board.specs.Logs.{log_of}
use Rattle.asm_board.specs.Boards.{model_limit, empty_board, version_of, body_at, slots_at, weight_at, loads_at, versions_at, applied, board_of}

-- ---- outcomes

-- a reply, and the entry that it adds to the journal, if any
pub record Answer : Type 0 where
  pub reply : Reply
  pub entry : Option Entry

-- what a settled call is answered
abbrev pub answer_in : Outcome → Answer
answer_in o = record { reply = o.reply; entry = option_map (λ next. next.entry) o.next }

abbrev pub without_entry : ℕ → Body → Answer
without_entry at body = record { reply = reply_of at body; entry = None }

abbrev pub entry_at : Board → ℕ → Call → Body → Entry
entry_at board seat c body = record { seat = seat; number = board.front + 1; call = c; body = body }

abbrev pub told : ℕ → Body → List ℕ → Reply
told at body tail = record { at = at; body = body; tail = tail }

-- what a body with this tail comes to at a board: a refusal, or an entry if there is room for it
abbrev pub with_room : ℕ → Board → ℕ → Call → ℕ → Body → List ℕ → Answer
with_room room board seat c weight (bodies.No why) tail =
    record { reply = told board.front (bodies.No why) tail; entry = None }
with_room room board seat c weight (bodies.Ok tree) tail =
    if nat_lt room (board.weight + weight) then
    without_entry board.front (bodies.No (journal_full weight board.weight))
    else record {
      reply = told (board.front + 1) (bodies.Ok tree) tail;
      entry = Some (entry_at board seat c (bodies.Ok tree));
    }

-- a new model is one more besides
abbrev pub outcome : ℕ → Board → ℕ → Call → Bool → ℕ → Body → List ℕ → Answer
outcome room board seat c loads weight body tail =
    if loads && nat_le model_limit (length board.slots) then
    without_entry board.front (bodies.No (models_full model_limit))
    else with_room room board seat c weight body tail

-- ---- the one-thread server

module _ (m : Meanings) where
  abbrev pub answer_change : ℕ → Board → ℕ → Call → Answer
  answer_change room board seat c =
      outcome room board seat c (loads_at board c) (weight_at m board c)
      (body_at m board c) (tail_of (body_at m board c))

  -- the answer at a board, to a call that is no log
  abbrev pub answer_at : ℕ → Board → ℕ → Call → Answer
  answer_at room board seat c =
      if is_change c then answer_change room board seat c
      else without_entry board.front (body_at m board c)

  -- The answer to a call after a journal. The journal goes on with its entry, if it has one. A read
  -- that is to be answered after more entries is refused; else a log shows the entries for which it
  -- asks, and any other call is answered at the journal's board.
  abbrev pub answer : ℕ → List Entry → ℕ → Call → Answer
  answer room journal seat c =
      if is_log c then without_entry (length journal) (log_of journal c)
      else answer_at room (board_of m journal) seat c

  -- ---- legal journals

  -- from this board on, each entry is the one that the one-thread server makes there
  abbrev pub LegalFrom : ℕ → Board → List Entry → Type 0
  LegalFrom room board [] = Unit {0}
  LegalFrom room board (e ∷ es) =
      ((answer_at room board e.seat e.call).entry ≡ Some e)
      × LegalFrom room (applied m board e) es

  -- Each entry is the accepted change that the one-thread server makes after those before it.
  abbrev pub Legal : ℕ → List Entry → Type 0
  Legal room journal = LegalFrom room empty_board journal

  -- ---- prepared calls

  -- What was prepared is what its call is at this board: a read that is to be answered after more
  -- entries is refused there too. A log isn't prepared.
  pub record Stands (p : Prepared) (c : Call) (board : Board) : Type 0 where
    pub is_call : p.call ≡ c
    pub versions : p.versions ≡ versions_at board c
    pub body : p.body ≡ body_at m board c
    pub tail : p.tail ≡ tail_of (body_at m board c)
    pub slots : p.slots ≡ slots_at m board c
    pub loads : p.loads ≡ loads_at board c
    pub weight : p.weight ≡ weight_at m board c

-- ---- settling

-- how a prepared change is settled: a model's version is another now, or it is answered
pub data Verdict : Type 0 where
  Stale : (model : List ℕ) (had now : ℕ) → Verdict
  Settled : Answer → Verdict

-- the first model whose version is another, with both versions
abbrev pub first_stale : List NameVersion → Board → Option (List ℕ × (ℕ × ℕ))
first_stale [] board = None
first_stale (v ∷ vs) board =
    if v.version == version_of board v.name then first_stale vs board
    else Some (v.name, (v.version, version_of board v.name))

abbrev pub unless_stale : Option (List ℕ × (ℕ × ℕ)) → Answer → Verdict
unless_stale None answered = Settled answered
unless_stale (Some s) answered = Stale s.0 s.1.0 s.1.1

-- what was prepared comes to this, where its versions still hold
abbrev pub outcome_of : ℕ → Board → ℕ → Prepared → Answer
outcome_of room board seat p = outcome room board seat p.call p.loads p.weight p.body p.tail

-- a prepared change at a board that may be later than its own
abbrev pub settle_at : ℕ → Board → ℕ → Prepared → Verdict
settle_at room board seat p =
    unless_stale (first_stale p.versions board) (outcome_of room board seat p)

abbrev pub settle : Meanings → ℕ → List Entry → ℕ → Prepared → Verdict
settle m room journal seat p = settle_at room (board_of m journal) seat p
