-- What is true of each slot of a board, where it is true of each new one.
use Rattle.std.proofs.Common.{Bool, true, false, cond, not, ℕ, ◌+◌, Option, None, Some, List, [], ◌∷◌, ◌++◌, fold, IfSome}
use Rattle.std.specs.List.{AllByRecursion}
use Rattle.std.specs.Str.{bytes_eq}
use Rattle.std.specs.Ordering.{nat_cmp}
use Rattle.std.specs.Cmp.Lexicographic.{slice_cmp}
use Rattle.std.specs.declared.cmp.Ordering.{Ordering}
use Rattle.std.specs.declared.cmp.Ordering.TheVariants.{Less, Equal, Greater}
use Rattle.std.proofs.lemmas.List.Elements.{All-from_recursion, recursion_from_All, All-filter}
use Rattle.asm_board.specs.declared.board.Board.{Board}
use Rattle.asm_board.specs.declared.board.Slot.{Slot}
use Rattle.asm_board.specs.declared.board.NamedSlot.{NamedSlot}
use Rattle.asm_board.specs.declared.entry.Entry.{Entry}
use Rattle.asm_board.specs.declared.prepared.Changed.{Changed}
use Rattle.asm_board.specs.Meanings.{Meanings}
use Rattle.asm_board.specs.Slots.{Models, named, slot_in, listed, only, at_version, put, without, changed_to, changed}
use Rattle.asm_board.specs.Boards.{empty_board, slots_at, applied, board_of}

-- it is true of each slot, whose version is of no matter
module _ (W : Slot → Type 0) (aged : (k : ℕ) (s : Slot) → W s → W (at_version k s)) where
  abbrev pub Each : Models → Type 0
  Each ms = AllByRecursion (λ m. W m.slot) ms

  abbrev pub EachNew : List Changed → Type 0
  EachNew cs = AllByRecursion (λ c. IfSome c.slot W) cs

  slot_at : (m : NamedSlot) (t : Bool) (rest : Option Slot) → W m.slot → IfSome rest W → IfSome (cond t (Some m.slot) rest) W
  slot_at m true rest one others = one
  slot_at m false rest one others = others

  -- the slot of a name
  pub each_slot : (ms : Models) (q : List ℕ) → Each ms → IfSome (slot_in ms q) W
  each_slot [] q all = tt
  each_slot (m ∷ ms) q all = slot_at m (bytes_eq q m.name) (slot_in ms q) all.0 (each_slot ms q all.1)

  listed_each : (n : List ℕ) (o : Option Slot) (rest : Models) → IfSome o W → Each rest → Each (listed n o ++ rest)
  listed_each n None rest one others = others
  listed_each n (Some s) rest one others = (one, others)

  -- the models of some names
  pub only_each : (ms : Models) (names : List (List ℕ)) → Each ms → Each (only ms names)
  only_each ms [] all = tt
  only_each ms (n ∷ ns) all = listed_each n (slot_in ms n) (only ms ns) (each_slot ms n all) (only_each ms ns all)

  put_at : (name : List ℕ) (s : Slot) (m : NamedSlot) (ms : Models) (o : Ordering) → W s → W m.slot → Each ms → Each (put name s ms)
      → Each (elim o as (λ _. Models) [ Less ↦ named name s ∷ m ∷ ms | Equal ↦ named name s ∷ ms | Greater ↦ m ∷ put name s ms ])
  put_at name s m ms Less new one others rest = (new, (one, others))
  put_at name s m ms Equal new one others rest = (new, others)
  put_at name s m ms Greater new one others rest = (one, rest)

  put_each : (name : List ℕ) (s : Slot) (ms : Models) → W s → Each ms → Each (put name s ms)
  put_each name s [] new all = (new, tt)
  put_each name s (m ∷ ms) new all = put_at name s m ms (slice_cmp nat_cmp name m.name) new all.0 all.1 (put_each name s ms new all.1)

  without_each : (name : List ℕ) (ms : Models) → Each ms → Each (without name ms)
  without_each name ms all =
      let P : NamedSlot → Type 0 = λ m. W m.slot in
      recursion_from_All P (without name ms) (All-filter (λ (m : NamedSlot). not (bytes_eq name m.name)) P ms (All-from_recursion P ms all))

  changed_to_each : (k : ℕ) (ms : Models) (name : List ℕ) (o : Option Slot) → IfSome o W → Each ms → Each (changed_to k ms name o)
  changed_to_each k ms name None new all = without_each name ms all
  changed_to_each k ms name (Some s) new all = put_each name (at_version k s) ms (aged k s new) all

  changed_each : (k : ℕ) (ms : Models) (cs : List Changed) → EachNew cs → Each ms → Each (changed k ms cs)
  changed_each k ms [] new all = all
  changed_each k ms (c ∷ cs) new all =
      changed_each k (changed_to k ms c.name c.slot) cs new.1 (changed_to_each k ms c.name c.slot new.0 all)

  module _ (m : Meanings) (fresh : (b : Board) (e : Entry) → Each b.slots → EachNew (slots_at m b e.call)) where
    fold_each : (journal : List Entry) (b : Board) → Each b.slots → Each (fold (applied m) b journal).slots
    fold_each [] b all = all
    fold_each (e ∷ es) b all =
        fold_each es (applied m b e) (changed_each (b.front + 1) b.slots (slots_at m b e.call) (fresh b e all) all)

    pub board_each : (journal : List Entry) → Each (board_of m journal).slots
    unfolding board_of
    board_each journal = fold_each journal empty_board tt
