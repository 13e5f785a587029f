-- The entry of an accepted change, and what it weighs.
use Rattle.std.proofs.Common.{◌≡◌, ℕ, ◌+◌, ◌≤◌, ◌^◌, ◌-◌, Bool, true, false, cond, ◌&&◌, nat_lt, nat_le, if◌then◌else◌, List, [], ◌∷◌, length, fold, Some, Ok, Err, All, IsSome, ◌↔◌, refl, sym, ap, subst, ◌∙◌, arith}
use Rattle.std.proofs.lemmas.Bool.{true≢false}
use Rattle.std.proofs.lemmas.Bool.Decides.{nat_tests}
use Rattle.std.proofs.lemmas.List.Elements.{All-nil, All-cons}
use Rattle.std.proofs.lemmas.List.Sums.{sum_by-cons}
use Rattle.asm_portable.specs.declared.port.Port.{Port}
use Rattle.asm_board.specs.declared.board.Board.{Board}
use Rattle.asm_board.specs.declared.call.Call.{Call}
use Rattle.asm_board.specs.declared.entry.Entry.{Entry}
use Rattle.asm_board.specs.declared.reply.Body.{Body}
use Rattle.asm_board.specs.declared.reply.Body.TheVariants as bodies
use Rattle.asm_board.specs.declared.prepared.Prepared.{Prepared}
use Rattle.asm_board.specs.Calls.{is_change, is_log, entry_weight}
use Rattle.asm_board.specs.Changes.{Change}
use Rattle.asm_board.specs.Meanings.{Meanings}
use Rattle.asm_board.specs.Boards.{model_limit, empty_board, body_of_change, read_at, weight_of_change, body_weight, with_entry, change_at, body_at, slots_at, weight_at, loads_at, applied, board_of}
use Rattle.asm_board.specs.Logs.{log_of}
use Rattle.asm_board.specs.Refusals.{models_full, journal_full}
use Rattle.asm_board.specs.Replies.{tail_of}
use Rattle.asm_board.specs.Journals.{IsAnswer, IsAcceptedChange, entries_weight}
use Rattle.asm_board.specs.Answers.{Answer, told, without_entry, entry_at, with_room, outcome_of, answer_change, answer_at, answer, LegalFrom, Legal, Stands}
use Rattle.asm_board.proofs.CallKinds.{no_log}
use Rattle.asm_board.proofs.Legal.{answer_at_of}

-- ---- an entry

-- an accepted change and the room for its entry
pub record IsEntry (room seat : ℕ) (board : Board) (c : Call) (weight : ℕ) (body : Body) (e : Entry) : Type 0 where
  pub tree : Port
  pub is_body : body ≡ bodies.Ok tree
  pub is : e ≡ entry_at board seat c (bodies.Ok tree)
  pub fits : nat_lt room (board.weight + weight) ≡ false

ok_is : (t u : Port) → bodies.Ok t ≡ bodies.Ok u → t ≡ u
ok_is t u e = cc

some_is : {A : Type 0} (x y : A) → Some x ≡ Some y → y ≡ x
some_is x y e = cc

by_room : (room seat : ℕ) (board : Board) (c : Call) (weight : ℕ) (tree : Port) (tail : List ℕ) (e : Entry) (t : Bool) → nat_lt room (board.weight + weight) ≡ t
    → (if t then without_entry board.front (bodies.No (journal_full weight board.weight))
    else record { reply = told (board.front + 1) (bodies.Ok tree) tail; entry = Some (entry_at board seat c (bodies.Ok tree)) }).entry ≡ Some e
    → IsEntry room seat board c weight (bodies.Ok tree) e
by_room room seat board c weight tree tail e true full is = absurd (cc (is))
by_room room seat board c weight tree tail e false fits is = record { tree = tree; is_body = refl; is = some_is _ _ is; fits = fits }

with_room_entry : (room seat : ℕ) (board : Board) (c : Call) (weight : ℕ) (body : Body) (tail : List ℕ) (e : Entry)
    → (with_room room board seat c weight body tail).entry ≡ Some e → IsEntry room seat board c weight body e
with_room_entry room seat board c weight (bodies.No why) tail e is = absurd (cc (is))
with_room_entry room seat board c weight (bodies.Ok tree) tail e is = by_room room seat board c weight tree tail e (nat_lt room (board.weight + weight)) refl is

by_count : (room seat : ℕ) (board : Board) (c : Call) (weight : ℕ) (body : Body) (tail : List ℕ) (e : Entry) (t : Bool)
    → (if t then without_entry board.front (bodies.No (models_full model_limit)) else with_room room board seat c weight body tail).entry ≡ Some e
    → IsEntry room seat board c weight body e
by_count room seat board c weight body tail e true is = absurd (cc (is))
by_count room seat board c weight body tail e false is = with_room_entry room seat board c weight body tail e is

pub outcome_entry : (room seat : ℕ) (board : Board) (p : Prepared) (e : Entry) → (outcome_of room board seat p).entry ≡ Some e → IsEntry room seat board p.call p.weight p.body e
outcome_entry room seat board p e is = by_count room seat board p.call p.weight p.body p.tail e (p.loads && nat_le model_limit (length board.slots)) is

-- what the body of an accepted change weighs with its call
weighs : (c : Call) (change : Change) (tree : Port) → body_of_change change ≡ bodies.Ok tree → weight_of_change c change ≡ entry_weight c tree
weighs c (Ok a) tree is = ap (entry_weight c) (ok_is a.ok tree is)
weighs c (Err why) tree is = absurd (cc (is))

pub weighs_at : (m : Meanings) (board : Board) (c : Call) (tree : Port) (t : Bool) → t ≡ true
    → (if t then body_of_change (change_at m board c) else read_at m board c) ≡ bodies.Ok tree
    → (if t then weight_of_change c (change_at m board c) else 0) ≡ entry_weight c tree
weighs_at m board c tree true is ok = weighs c (change_at m board c) tree ok
weighs_at m board c tree false is ok = absurd (cc (is))

pub some_weight : (c : Call) (tree : Port) → 4 ≤ entry_weight c tree
some_weight c tree = omega arith

-- ---- the board after an entry

-- the entry is the one that the definitions make of the call
pub made_by : (m : Meanings) (room seat : ℕ) (board : Board) (c : Call) (p : Prepared) (e : Entry) → Stands m p c board → is_change c ≡ true
    → (i : IsEntry room seat board p.call p.weight p.body e) → with_entry board p.weight p.slots ≡ applied m board e
made_by m room seat board c p e s is i =
    let call : e.call ≡ c = ap (λ (x : Entry). x.call) i.is ∙ s.is_call in
    let body : e.body ≡ bodies.Ok i.tree = ap (λ (x : Entry). x.body) i.is in
    let weight : p.weight ≡ body_weight e.call e.body =
    s.weight ∙ weighs_at m board c i.tree (is_change c) is (sym s.body ∙ i.is_body) ∙ (λ j. body_weight (sym call j) (sym body j)) in
    let slots = s.slots ∙ ap (slots_at m board) (sym call) in
    λ j. with_entry board (weight j) (slots j)

-- ---- an answer has an entry exactly where it is an accepted change

abbrev EnteredWhereAnswered : Answer → Type 0
EnteredWhereAnswered a = IsSome a.entry ↔ IsAnswer a.reply.body

refused_whole : (at : ℕ) (why : Body) → (IsAnswer why → ⊥) → EnteredWhereAnswered (without_entry at why)
refused_whole at why isnt = (λ some. absurd (true≢false (sym some)), λ yes. absurd (isnt yes))

entered_in_room : (board : Board) (seat : ℕ) (c : Call) (weight : ℕ) (tree : Port) (tail : List ℕ) (full : Bool)
    → EnteredWhereAnswered (cond full (without_entry board.front (bodies.No (journal_full weight board.weight)))
    (record { reply = told (board.front + 1) (bodies.Ok tree) tail; entry = Some (entry_at board seat c (bodies.Ok tree)) }))
entered_in_room board seat c weight tree tail true = refused_whole board.front (bodies.No (journal_full weight board.weight)) (λ h. h)
entered_in_room board seat c weight tree tail false = (λ _. tt, λ _. refl)

entered_with_room : (room : ℕ) (board : Board) (seat : ℕ) (c : Call) (weight : ℕ) (body : Body) (tail : List ℕ) → EnteredWhereAnswered (with_room room board seat c weight body tail)
entered_with_room room board seat c weight (bodies.No why) tail = (λ some. absurd (true≢false (sym some)), λ h. absurd h)
entered_with_room room board seat c weight (bodies.Ok tree) tail = entered_in_room board seat c weight tree tail (nat_lt room (board.weight + weight))

entered_by_count : (room : ℕ) (board : Board) (seat : ℕ) (c : Call) (weight : ℕ) (body : Body) (tail : List ℕ) (full : Bool)
    → EnteredWhereAnswered (cond full (without_entry board.front (bodies.No (models_full model_limit))) (with_room room board seat c weight body tail))
entered_by_count room board seat c weight body tail true = refused_whole board.front (bodies.No (models_full model_limit)) (λ h. h)
entered_by_count room board seat c weight body tail false = entered_with_room room board seat c weight body tail

module _ (m : Meanings) (room : ℕ) where
  entered_change : (board : Board) (seat : ℕ) (c : Call) → EnteredWhereAnswered (answer_change m room board seat c)
  entered_change board seat c =
      entered_by_count room board seat c (weight_at m board c) (body_at m board c) (tail_of (body_at m board c)) (loads_at board c && nat_le model_limit (length board.slots))

  abbrev EnteredWhereAccepted : Call → Answer → Type 0
  EnteredWhereAccepted c a = IsSome a.entry ↔ IsAcceptedChange c a.reply.body

  entered_where : (board : Board) (seat : ℕ) (c : Call) (t : Bool) → is_change c ≡ t → EnteredWhereAccepted c (cond t (answer_change m room board seat c) (without_entry board.front (body_at m board c)))
  entered_where board seat c true is =
      let h = entered_change board seat c in
      (λ some. record { changes = is; accepted = h.0 some }, λ accepted. h.1 accepted.accepted)
  entered_where board seat c false is = (λ some. absurd (true≢false (sym some)), λ accepted. let unlike : false ≡ true = sym is ∙ accepted.changes in absurd (cc (unlike)))

  entered_at : (board : Board) (seat : ℕ) (c : Call) → EnteredWhereAccepted c (answer_at m room board seat c)
  entered_at board seat c = entered_where board seat c (is_change c) refl

  entered_by : (journal : List Entry) (seat : ℕ) (c : Call) (t : Bool) → is_log c ≡ t
      → EnteredWhereAccepted c (cond t (without_entry (length journal) (log_of journal c)) (answer_at m room (board_of m journal) seat c))
  entered_by journal seat c true is =
      (λ some. absurd (true≢false (sym some)), λ accepted. let unlike : true ≡ false = sym is ∙ no_log c accepted.changes in absurd (cc (unlike)))
  entered_by journal seat c false is = entered_at (board_of m journal) seat c

  pub entered : (journal : List Entry) (seat : ℕ) (c : Call) → EnteredWhereAccepted c (answer m room journal seat c)
  entered journal seat c = entered_by journal seat c (is_log c) refl

  -- ---- each entry of a legal journal

  accepted_here : (board : Board) (e : Entry) → (answer_at m room board e.seat e.call).entry ≡ Some e → IsAcceptedChange e.call e.body
  accepted_here board e is =
      let next = answer_at_of m room board e.seat e.call e is in
      subst (IsAcceptedChange e.call) (sym next.body) ((entered_at board e.seat e.call).0 (subst IsSome (sym is) refl))

  accepted_from : (journal : List Entry) (board : Board) → LegalFrom m room board journal → All (λ e. IsAcceptedChange e.call e.body) journal
  accepted_from [] board legal = All-nil (λ (e : Entry). IsAcceptedChange e.call e.body)
  accepted_from (e ∷ es) board legal =
      All-cons (λ (x : Entry). IsAcceptedChange x.call x.body) e es (accepted_here board e legal.0) (accepted_from es (applied m board e) legal.1)

  pub accepted_each : (journal : List Entry) → Legal m room journal → All (λ e. IsAcceptedChange e.call e.body) journal
  accepted_each journal legal = accepted_from journal empty_board legal

  -- ---- what a legal journal weighs

  change_entry : (board : Board) (seat : ℕ) (c : Call) (e : Entry) (t : Bool) → is_change c ≡ t
      → (cond t (answer_change m room board seat c) (without_entry board.front (body_at m board c))).entry ≡ Some e → IsEntry room seat board c (weight_at m board c) (body_at m board c) e
  change_entry board seat c e true is made =
      by_count room seat board c (weight_at m board c) (body_at m board c) (tail_of (body_at m board c)) e (loads_at board c && nat_le model_limit (length board.slots)) made
  change_entry board seat c e false is made = absurd (cc (made))

  -- what the entry adds is what its body weighs, and there is room for it
  adds : (board : Board) (e : Entry) → (answer_at m room board e.seat e.call).entry ≡ Some e → board.weight + body_weight e.call e.body ≤ room
  adds board e made =
      let i = change_entry board e.seat e.call e (is_change e.call) refl made in
      let accepted = accepted_here board e made in
      let body : e.body ≡ bodies.Ok i.tree = ap (λ (x : Entry). x.body) i.is in
      let weight : weight_at m board e.call ≡ body_weight e.call e.body =
      weighs_at m board e.call i.tree (is_change e.call) accepted.changes i.is_body ∙ ap (body_weight e.call) (sym body) in
      grind (arith, nat_tests, i.fits, weight)

  weighs_from : (journal : List Entry) (board : Board) → room ≤ 2 ^ 64 - 1 → board.weight ≤ room → LegalFrom m room board journal
      → ((fold (applied m) board journal).weight ≡ board.weight + entries_weight journal) × (board.weight + entries_weight journal ≤ room)
  weighs_from [] board small light legal = (omega arith, omega (arith, light))
  weighs_from (e ∷ es) board small light legal =
      let w : ℕ = body_weight e.call e.body in
      let fits : board.weight + w ≤ room = adds board e legal.0 in
      let now : (applied m board e).weight ≡ board.weight + w = omega (arith, fits, small) in
      let sum : entries_weight (e ∷ es) ≡ w + entries_weight es = sum_by-cons (λ (x : Entry). body_weight x.call x.body) e es in
      let rest = weighs_from es (applied m board e) small (omega (arith, now, fits)) legal.1 in
      (omega (arith, rest.0, now, sum), omega (arith, rest.1, now, sum))

  pub journal_weighs : (journal : List Entry) → room ≤ 2 ^ 64 - 1 → Legal m room journal → ((board_of m journal).weight ≡ entries_weight journal) × (entries_weight journal ≤ room)
  unfolding board_of
  journal_weighs journal small legal =
      let h = weighs_from journal empty_board small (omega arith) legal in
      (omega (arith, h.0), omega (arith, h.1))
