-- Lists that ascend by a key of their items: each key is below those after it.
use Rattle.std.specs.Prelude.{ℕ, List, [], ◌∷◌, map}
use Rattle.std.specs.List.Sorted.{IsStrictlySortedBy}
use Rattle.std.specs.declared.cmp.Ordering.TheVariants.{Less, Equal, Greater}
use Rattle.std.specs.Ordering.{nat_cmp}
use Rattle.std.specs.Cmp.Lexicographic.{slice_cmp}

module _ {A : Type 0} (key : A → List ℕ) where
  -- each key is below those after it, so each is there once
  abbrev pub AscendsBy : List A → Type 0
  AscendsBy items = IsStrictlySortedBy (slice_cmp nat_cmp) (map key items)

  -- an item before those of greater keys, in place of one with its key
  abbrev pub put_by : A → List A → List A
  put_by item [] = item ∷ []
  put_by item (other ∷ others) = elim (slice_cmp nat_cmp (key item) (key other)) as (λ _. List A) [
    | Less ↦ item ∷ other ∷ others
    | Equal ↦ item ∷ others
    | Greater ↦ other ∷ put_by item others
  ]
