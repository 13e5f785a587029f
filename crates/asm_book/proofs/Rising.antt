-- A step that does not shorten what is published keeps its rule.
use Rattle.std.proofs.Common.{◌≡◌, ℕ, ◌≤◌, ◌≢◌, List, [], ◌∷◌, ◌++◌, length, fold, refl, subst, ⊎_elim, le_refl, le_trans, zero-le}
use Rattle.std.proofs.lemmas.List.Sums.{fold-append}
use mathlib.Core.Option.{some}
use lib.ListN.{get_elem?}
use Rattle.left_right.specs.Register.{Admits, TurnsAt}
use Rattle.logbook.specs.Pages.{Book}
use Rattle.atomic_table.proofs.Lists.{at_set, at_snoc}
use Rattle.asm_board.specs.Meanings.{Meanings}
use Rattle.asm_book.specs.Rules.{Notice, IsOf, Shows, Steps}

module _ (m : Meanings) (history : Book) (room : ℕ) where
  pub admits : Admits (Shows m history room) 0
  admits x views h = (h.0, λ seat v at. ⊎_elim (h.1 seat v) (λ (e : 0 ≡ v). subst (λ (z : ℕ). z ≤ length x.log) e zero-le) (at_snoc views 0 v seat at))

  pub rises : (seat v : ℕ) (x y : Notice) → length x.log ≤ length y.log → (IsOf m history room x → IsOf m history room y) → TurnsAt (Shows m history room) seat v x y (Steps m history room)
  rises seat v x y up of views h at = (
    length y.log,
    (
      of h.0,
      λ j u e. ⊎_elim (λ (t : (j ≡ seat) × (length y.log ≡ u)). subst (λ (z : ℕ). z ≤ length y.log) t.1 (le_refl (length y.log))) (λ (t : (j ≢ seat) × (get_elem? views j ≡ some u)). le_trans (h.1 j u t.1) up)
          (at_set views seat j (length y.log) u e),
    ),
    (h.1 seat v at, refl, of h.0),
  )

-- the last operation is what is published
pub last_counts : (s : Notice) (pending : List Notice) (o : Notice) → fold (λ (x y : Notice). y) s (pending ++ o ∷ []) ≡ o
last_counts s pending o = fold-append (λ (x y : Notice). y) s pending (o ∷ [])
