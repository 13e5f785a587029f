-- What a settled change adds to a journal.
use Rattle.std.proofs.Common.{◌≡◌, ℕ, ◌+◌, ◌==◌, Bool, true, false, cond, ◌&&◌, nat_lt, nat_le, if◌then◌else◌, List, [], ◌∷◌, ◌++◌, length, fold, Some, None, Ok, Err, refl, sym, ap, subst, ◌∙◌, arith}
use Rattle.std.specs.Prelude.{option_to_list}
use Rattle.std.proofs.lemmas.Bool.Decides.{nat_tests}
use mathlib.Core.List.{IsPrefix}
use Rattle.asm_portable.specs.declared.port.Port.{Port}
use Rattle.asm_board.specs.declared.board.Board.{Board}
use Rattle.asm_board.specs.declared.call.Call.{Call}
use Rattle.asm_board.specs.declared.entry.Entry.{Entry}
use Rattle.asm_board.specs.declared.reply.Body.{Body}
use Rattle.asm_board.specs.declared.reply.Body.TheVariants as bodies
use Rattle.asm_board.specs.declared.prepared.Prepared.{Prepared}
use Rattle.asm_board.specs.Slots.{Models, version_in, versions_in}
use Rattle.asm_board.specs.Calls.{footprint, is_change, entry_weight}
use Rattle.asm_board.specs.Changes.{Change}
use Rattle.asm_board.specs.Meanings.{Meanings}
use Rattle.asm_board.specs.Boards.{model_limit, empty_board, version_of, body_of_change, read_at, weight_of_change, body_weight, with_entry, change_at, slots_at, versions_at, applied, board_of}
use Rattle.asm_board.specs.Refusals.{models_full, journal_full}
use Rattle.asm_board.specs.Answers.{Answer, told, without_entry, entry_at, with_room, outcome_of, answer, Legal, Stands, Settled, first_stale, unless_stale, settle}
use Rattle.asm_board.proofs.Legal.{grows_legally, front_is}
use Rattle.asm_board.proofs.StillStands.{still_stands, settled_is_answered}

-- ---- versions

fresh_by : (old : Models) (b : Board) (q : List ℕ) (qs : List (List ℕ)) (t : Bool) → (version_in old q == version_of b q) ≡ t
    → cond t (first_stale (versions_in old qs) b) (Some (q, (version_in old q, version_of b q))) ≡ None
    → (version_in old q ≡ version_of b q) × (first_stale (versions_in old qs) b ≡ None)
fresh_by old b q qs true test is = (grind (arith, nat_tests), is)
fresh_by old b q qs false test is = absurd (cc (is))

-- where none is stale, the versions are the board's
fresh_versions : (old : Models) (b : Board) (names : List (List ℕ)) → first_stale (versions_in old names) b ≡ None → versions_in old names ≡ versions_in b.slots names
fresh_versions old b [] is = refl
fresh_versions old b (q ∷ qs) is =
    let first = fresh_by old b q qs (version_in old q == version_of b q) refl is in
    λ i. record { name = q; version = first.0 i } ∷ fresh_versions old b qs first.1 i

-- ---- entries

-- an accepted change and the room for its entry
record IsEntry (seat : ℕ) (board : Board) (c : Call) (body : Body) (e : Entry) : Type 0 where
  tree : Port
  is_body : body ≡ bodies.Ok tree
  is : e ≡ entry_at board seat c (bodies.Ok tree)

ok_is : (t u : Port) → bodies.Ok t ≡ bodies.Ok u → t ≡ u
ok_is t u e = cc

some_is : {A : Type 0} (x y : A) → Some x ≡ Some y → y ≡ x
some_is x y e = cc

by_room : (seat : ℕ) (board : Board) (c : Call) (weight : ℕ) (tree : Port) (tail : List ℕ) (e : Entry) (t : Bool)
    → (if t then without_entry board.front (bodies.No (journal_full weight board.weight))
    else record { reply = told (board.front + 1) (bodies.Ok tree) tail; entry = Some (entry_at board seat c (bodies.Ok tree)) }).entry ≡ Some e
    → IsEntry seat board c (bodies.Ok tree) e
by_room seat board c weight tree tail e true is = absurd (cc (is))
by_room seat board c weight tree tail e false is = record { tree = tree; is_body = refl; is = some_is _ _ is }

with_room_entry : (room seat : ℕ) (board : Board) (c : Call) (weight : ℕ) (body : Body) (tail : List ℕ) (e : Entry)
    → (with_room room board seat c weight body tail).entry ≡ Some e → IsEntry seat board c body e
with_room_entry room seat board c weight (bodies.No why) tail e is = absurd (cc (is))
with_room_entry room seat board c weight (bodies.Ok tree) tail e is = by_room seat board c weight tree tail e (nat_lt room (board.weight + weight)) is

by_limit : (room seat : ℕ) (board : Board) (c : Call) (weight : ℕ) (body : Body) (tail : List ℕ) (e : Entry) (t : Bool)
    → (if t then without_entry board.front (bodies.No (models_full model_limit)) else with_room room board seat c weight body tail).entry ≡ Some e
    → IsEntry seat board c body e
by_limit room seat board c weight body tail e true is = absurd (cc (is))
by_limit room seat board c weight body tail e false is = with_room_entry room seat board c weight body tail e is

outcome_entry : (room seat : ℕ) (board : Board) (p : Prepared) (e : Entry) → (outcome_of room board seat p).entry ≡ Some e → IsEntry seat board p.call p.body e
outcome_entry room seat board p e is = by_limit room seat board p.call p.weight p.body p.tail e (p.loads && nat_le model_limit (length board.slots)) is

-- what the body of an accepted change weighs with its call
weighs : (c : Call) (change : Change) (tree : Port) → body_of_change change ≡ bodies.Ok tree → weight_of_change c change ≡ entry_weight c tree
weighs c (Ok a) tree is = ap (entry_weight c) (ok_is a.ok tree is)
weighs c (Err why) tree is = absurd (cc (is))

weighs_at : (m : Meanings) (board : Board) (c : Call) (tree : Port) (t : Bool) → t ≡ true
    → (if t then body_of_change (change_at m board c) else read_at m board c) ≡ bodies.Ok tree
    → (if t then weight_of_change c (change_at m board c) else 0) ≡ entry_weight c tree
weighs_at m board c tree true is ok = weighs c (change_at m board c) tree ok
weighs_at m board c tree false is ok = absurd (cc (is))

-- the entry is the one that the definitions make of the call
made_by : (m : Meanings) (seat : ℕ) (board : Board) (c : Call) (p : Prepared) (e : Entry) → Stands m p c board → is_change c ≡ true
    → (i : IsEntry seat board p.call p.body e) → with_entry board p.weight p.slots ≡ applied m board e
made_by m seat board c p e s is i =
    let call : e.call ≡ c = ap (λ (x : Entry). x.call) i.is ∙ s.is_call in
    let body : e.body ≡ bodies.Ok i.tree = ap (λ (x : Entry). x.body) i.is in
    let weight : p.weight ≡ body_weight e.call e.body =
    s.weight ∙ weighs_at m board c i.tree (is_change c) is (sym s.body ∙ i.is_body) ∙ (λ j. body_weight (sym call j) (sym body j)) in
    let slots = s.slots ∙ ap (slots_at m board) (sym call) in
    λ j. with_entry board (weight j) (slots j)

folded : (m : Meanings) (board : Board) (journal : List Entry) (e : Entry) → fold (applied m) board (journal ++ e ∷ []) ≡ applied m (fold (applied m) board journal) e
folded m board [] e = refl
folded m board (x ∷ xs) e = folded m (applied m board x) xs e

pub board_of-nil : (m : Meanings) → board_of m [] ≡ empty_board
unfolding board_of
board_of-nil m = refl

board_of-push : (m : Meanings) (journal : List Entry) (e : Entry) → board_of m (journal ++ e ∷ []) ≡ applied m (board_of m journal) e
unfolding board_of
board_of-push m journal e = folded m empty_board journal e

-- ---- what a settled change adds

settled_is : (a b : Answer) → Settled a ≡ Settled b → a ≡ b
settled_is a b e = cc

pub record Adds (m : Meanings) (room : ℕ) (journal : List Entry) (seat : ℕ) (p : Prepared) (e : Entry) : Type 0 where
  pub of_seat : e.seat ≡ seat
  pub number : e.number ≡ length journal + 1
  pub legal : Legal m room (journal ++ e ∷ [])
  pub board : with_entry (board_of m journal) p.weight p.slots ≡ board_of m (journal ++ e ∷ [])

-- a change that was prepared at a beginning of a legal journal, none of whose versions is another
-- now, adds its entry to the journal
pub adds : (m : Meanings) (room : ℕ) (prefix journal : List Entry) (seat : ℕ) (p : Prepared) (e : Entry) → is_change p.call ≡ true
    → Legal m room journal → IsPrefix prefix journal → Stands m p p.call (board_of m prefix)
    → first_stale p.versions (board_of m journal) ≡ None → (outcome_of room (board_of m journal) seat p).entry ≡ Some e
    → Adds m room journal seat p e
adds m room prefix journal seat p e is legal pre stands fresh made =
    let b : Board = board_of m journal in
    let old : Board = board_of m prefix in
    let c : Call = p.call in
    let none : first_stale (versions_at old c) b ≡ None = subst (λ vs. first_stale vs b ≡ None) stands.versions fresh in
    let same : p.versions ≡ versions_at b c = stands.versions ∙ fresh_versions old.slots b (footprint c) none in
    let now : Stands m p c b = still_stands m prefix journal p c is pre stands same in
    let there = settled_is_answered m room journal seat p c is now in
    let settled : settle m room journal seat p ≡ Settled (outcome_of room b seat p) = ap (λ s. unless_stale s (outcome_of room b seat p)) fresh in
    let answered : (answer m room journal seat c).entry ≡ Some e = ap (λ (a : Answer). a.entry) (settled_is _ _ (sym there ∙ settled)) ∙ made in
    let i = outcome_entry room seat b p e made in
    record {
      of_seat = ap (λ (x : Entry). x.seat) i.is;
      number = ap (λ (x : Entry). x.number) i.is ∙ ap (λ n. n + 1) (front_is m journal);
      legal = subst (λ o. Legal m room (journal ++ option_to_list o)) answered (grows_legally m room journal seat c legal);
      board = made_by m seat b c p e now is i ∙ sym (board_of-push m journal e);
    }
