-- Where a slot is put whose name is there already.
use Rattle.std.proofs.Common.{◌≡◌, ℕ, ◌+◌, ◌<◌, List, ◌∷◌, ◌++◌, length, get_or, take, drop, sym, ap, ◌∙◌}
use Rattle.std.proofs.Math.ListN.{set}
use Rattle.std.proofs.lemmas.List.{take-append-drop, take-set, drop-set, drop_more}
use Rattle.std.specs.declared.cmp.Ordering.{Ordering}
use Rattle.std.specs.declared.cmp.Ordering.TheVariants.{Less, Equal, Greater}
use Rattle.std.specs.Ordering.{nat_cmp}
use Rattle.std.specs.Cmp.Lexicographic.{slice_cmp}
use Rattle.asm_board.specs.declared.board.Slot.{Slot}
use Rattle.asm_board.specs.declared.board.NamedSlot.{NamedSlot}
use Rattle.asm_board.specs.Slots.{Models, named, put}

-- a write splits the list at its place
set_split : (m : NamedSlot) (ms : Models) (at : ℕ) → at < length ms → set ms at m ≡ take at ms ++ (m ∷ drop (at + 1) ms)
set_split m ms at h = sym (take-append-drop at (set ms at m)) ∙ (λ i. take-set ms at m i ++ drop-set ms at m h i)

put_equal : (name : List ℕ) (slot : Slot) (m : NamedSlot) (ms : Models) → slice_cmp nat_cmp name m.name ≡ Equal → put name slot (m ∷ ms) ≡ named name slot ∷ ms
put_equal name slot m ms e = ap (λ (o : Ordering). elim o as (λ _. Models) [ Less ↦ named name slot ∷ m ∷ ms | Equal ↦ named name slot ∷ ms | Greater ↦ m ∷ put name slot ms ]) e

-- a slot takes the place of the one under its name
pub put_there : (name : List ℕ) (slot : Slot) (ms : Models) (at : ℕ) (m : NamedSlot) → at < length ms → m ≡ get_or ms at m → slice_cmp nat_cmp name m.name ≡ Equal
    → put name slot ms ≡ take at ms ++ put name slot (drop at ms) → put name slot ms ≡ set ms at (named name slot)
put_there name slot ms at m h is e before =
    before
    ∙ ap (λ r. take at ms ++ put name slot r) (drop_more ms at m h ∙ ap (λ x. x ∷ drop (at + 1) ms) (sym is))
    ∙ ap (λ r. take at ms ++ r) (put_equal name slot m (drop (at + 1) ms) e)
    ∙ sym (set_split (named name slot) ms at h)
