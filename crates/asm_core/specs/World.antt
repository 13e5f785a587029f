-- The world of a server: what its seats can do, one atomic step after another.
use Rattle.std.specs.Prelude.{ℕ, ◌≡◌, ◌≤◌, true, false, Option, Some, None, List, [], ◌∷◌, ◌++◌, length, take, filter, if◌then◌else◌, ◌==◌, option_to_list, ⊤}
use Rattle.asm_board.specs.declared.call.Call.{Call}
use Rattle.asm_board.specs.declared.entry.Entry.{Entry}
use Rattle.asm_board.specs.declared.prepared.Prepared.{Prepared}
use Rattle.asm_board.specs.Meanings.{Meanings}
use Rattle.asm_board.specs.Calls.{is_change, is_log}
use Rattle.asm_board.specs.Boards.{board_of}
use Rattle.asm_board.specs.Answers.{Answer, told, answer, Legal, Stands, Verdict, Stale, Settled, settle}

-- the front that a seat has seen, and what it keeps prepared
pub record Seat : Type 0 where
  pub seen : ℕ
  pub kept : Option Prepared

pub record World : Type 0 where
  pub journal : List Entry
  pub seats : ℕ → Seat

pub data Event : Type 0 where
  -- looks at the board of this many entries
  Peek : (seat front : ℕ) → Event
  -- evaluates a call other than a log at the board that it has seen; a read is answered there
  Prepare : (seat : ℕ) (call : Call) (prepared : Prepared) → Event
  -- settles the change that it keeps at the newest board
  Commit : (seat : ℕ) → Event
  -- is answered at the newest board
  Hold : (seat : ℕ) (call : Call) → Event

abbrev pub new_world : World
new_world = record { journal = []; seats = λ s. record { seen = 0; kept = None } }

abbrev pub with_seat : World → ℕ → Seat → World
with_seat w seat new = record w { seats = λ s. if s == seat then new else w.seats s }

abbrev pub seen_by : World → ℕ → List Entry
seen_by w seat = take (w.seats seat).seen w.journal

-- the entry that a verdict adds to the journal, if any
abbrev pub entry_of : Verdict → Option Entry
entry_of (Stale model had now) = None
entry_of (Settled answered) = answered.entry

-- the journal with the entry that a verdict adds, which the seat has seen
abbrev pub with_verdict : World → ℕ → Option Prepared → Verdict → World
with_verdict w seat kept v =
    let journal = w.journal ++ option_to_list (entry_of v) in
    with_seat (record w { journal = journal }) seat (record { seen = length journal; kept = kept })

abbrev pub after_reply : World → ℕ → Option Prepared → Option Verdict → World
after_reply w seat kept None = w
after_reply w seat kept (Some v) = with_verdict w seat kept v

abbrev pub KeepsChange : Option Prepared → Type 0
KeepsChange None = ⊥
KeepsChange (Some p) = is_change p.call ≡ true

-- the answer to a prepared read: what was prepared, at this front
abbrev pub read_answer : ℕ → Prepared → Answer
read_answer front p = record { reply = told front p.body p.tail; entry = None }

abbrev pub seat_of : Event → ℕ
seat_of (Peek seat front) = seat
seat_of (Prepare seat c p) = seat
seat_of (Commit seat) = seat
seat_of (Hold seat c) = seat

abbrev pub entries_told : Option Verdict → List Entry
entries_told None = []
entries_told (Some v) = option_to_list (entry_of v)

abbrev pub entries_of : ℕ → List Entry → List Entry
entries_of seat journal = filter (λ e. e.seat == seat) journal

module _ (m : Meanings) (room : ℕ) where
  abbrev pub IsPossible : World → Event → Type 0
  IsPossible w (Peek seat front) = ((w.seats seat).seen ≤ front) × (front ≤ length w.journal)
  IsPossible w (Prepare seat c p) = (is_log c ≡ false) × Stands m p c (board_of m (seen_by w seat))
  IsPossible w (Commit seat) = KeepsChange (w.seats seat).kept
  IsPossible w (Hold seat c) = Unit {0}

  abbrev pub settle_kept : List Entry → ℕ → Option Prepared → Option Verdict
  settle_kept journal seat None = None
  settle_kept journal seat (Some p) = Some (settle m room journal seat p)

  -- what an event tells its seat: a prepared change isn't answered yet
  abbrev pub reply_to : World → Event → Option Verdict
  reply_to w (Peek seat front) = None
  reply_to w (Prepare seat c p) =
      if is_change c then None else Some (Settled (read_answer (w.seats seat).seen p))
  reply_to w (Commit seat) = settle_kept w.journal seat (w.seats seat).kept
  reply_to w (Hold seat c) = Some (Settled (answer m room w.journal seat c))

  -- the world after an event
  abbrev pub happened : World → Event → World
  happened w (Peek seat front) =
      with_seat w seat (record { seen = front; kept = (w.seats seat).kept })
  happened w (Prepare seat c p) =
      with_seat w seat (record { seen = (w.seats seat).seen; kept = Some p })
  happened w (Commit seat) = after_reply w seat None (reply_to w (Commit seat))
  happened w (Hold seat c) = after_reply w seat (w.seats seat).kept (reply_to w (Hold seat c))

  -- the events happen one after another, each where it is possible
  abbrev pub Happen : World → List Event → World → Type 0
  Happen w [] end = end ≡ w
  Happen w (e ∷ es) end = IsPossible w e × Happen (happened w e) es end

  -- a world that some run reaches
  abbrev pub IsReached : World → Type 0
  IsReached w = (es : List Event) × Happen new_world es w

  -- ---- what a seat is told in a run

  -- the entries of the changes that a seat was told to be accepted, in order
  abbrev pub accepted_of : ℕ → World → List Event → List Entry
  accepted_of seat w [] = []
  accepted_of seat w (e ∷ es) =
      (if seat_of e == seat then entries_told (reply_to w e) else [])
      ++ accepted_of seat (happened w e) es

  -- a verdict that isn't Stale is the one-thread server's answer to this call of the seat after a
  -- beginning of the journal
  abbrev pub IsAnswered : List Entry → ℕ → Call → Option Verdict → Type 0
  IsAnswered journal seat c None = ⊤
  IsAnswered journal seat c (Some (Stale model had now)) = ⊤
  IsAnswered journal seat c (Some (Settled answered)) =
      (k : ℕ) × ((k ≤ length journal) × (answer m room (take k journal) seat c ≡ answered))

  abbrev pub KeptIsAnswered : List Entry → ℕ → Option Prepared → Type 0
  KeptIsAnswered journal seat None = ⊤
  KeptIsAnswered journal seat (Some p) =
      IsAnswered journal seat p.call (Some (settle m room journal seat p))

  -- what an event tells is such an answer to its own call
  abbrev pub TellsRight : World → Event → Type 0
  TellsRight w (Peek seat front) = ⊤
  TellsRight w (Prepare seat c p) = IsAnswered w.journal seat c (reply_to w (Prepare seat c p))
  TellsRight w (Commit seat) = KeptIsAnswered w.journal seat (w.seats seat).kept
  TellsRight w (Hold seat c) = IsAnswered w.journal seat c (reply_to w (Hold seat c))

-- ---- the law

-- In each run the journal stays legal, each answer is the one-thread server's after a beginning of
-- it, what a seat has seen never shrinks, and its entries are those that it was told of, in order,
-- each once.
pub record WorldIsOrderly (m : Meanings) (room : ℕ) : Type 0 where
  pub legal : (w : World) → IsReached m room w → Legal m room w.journal
  pub answered : (w : World) (e : Event) → IsReached m room w → IsPossible m room w e
      → TellsRight m room w e
  pub never_shrinks : (w : World) (e : Event) (s : ℕ) → IsReached m room w
      → IsPossible m room w e → (w.seats s).seen ≤ ((happened m room w e).seats s).seen
  pub each_once : (w : World) (es : List Event) (s : ℕ) → Happen m room new_world es w
      → entries_of s w.journal ≡ accepted_of m room s new_world es
