-- Lists of values that are read back from their trees, and sets as they were.
use Rattle.std.proofs.Common.{◌≡◌, ◌≢◌, ℕ, ◌+◌, true, false, cond, Ok, List, [], ◌∷◌, ◌++◌, map, refl, sym, ap, subst, ◌∙◌, append_assoc, append-nil}
use Rattle.std.specs.List.{AllByRecursion}
use Rattle.std.specs.List.Sorted.{IsStrictlySortedBy}
use Rattle.std.specs.declared.cmp.Ordering.{Ordering}
use Rattle.std.specs.declared.cmp.Ordering.TheVariants.{Less, Equal, Greater}
use Rattle.std.specs.Ordering.{is_eq, ordering_reverse}
use Rattle.asm_value.specs.declared.value.Value.{Value}
use Rattle.asm_value.specs.declared.value.Value.TheVariants.{Undef, Tuple, Seq, Set}
use Rattle.asm_value.specs.Value.{compare}
use Rattle.asm_value.specs.State.{is_undef}
use Rattle.asm_value.specs.Proper.{AreDefined}
use Rattle.asm_value.specs.TotalOrders.{compare_total, compare-IsAntisymmetric}
use Rattle.asm_operations.specs.declared.applied.Applied.{Applied}
use Rattle.asm_operations.specs.declared.applied.Applied.TheVariants as applied
use Rattle.asm_operations.specs.Limits.{keeps_limits, limited}
use Rattle.asm_operations.specs.Readers.{any_undef}
use Rattle.asm_operations.specs.Results.{undefined}
use Rattle.asm_operations.specs.Sets.{by_order, with_item, with_items, set_items}
use Rattle.asm_operations.specs.Operations.{tuple_of, sequence_of, set_of}
use Rattle.asm_portable.specs.declared.port.Port.{Port}
use Rattle.asm_portable.specs.Reading.{Read, of_part, with_first, items_read, parts_read, kept}

-- ---- items and parts

module _ (write : Value → Port) where
  pub items_back : (read : Port → Read Value) (xs : List Value)
      → AllByRecursion (λ x. read (write x) ≡ Ok x) xs → (at : ℕ)
      → items_read read at (map write xs) ≡ Ok xs
  items_back read [] h at = refl
  items_back read (x ∷ xs) h at =
      let later = items_back read xs h.1 (at + 1) in
      λ i. with_first (of_part at (h.0 i)) (later i)

  -- each part is read back by its own reading, and there are as many
  abbrev pub EachBack : List (Port → Read Value) → List Value → Type 0
  EachBack [] [] = Unit {0}
  EachBack [] (x ∷ xs) = ⊥
  EachBack (f ∷ fs) [] = ⊥
  EachBack (f ∷ fs) (x ∷ xs) = (f (write x) ≡ Ok x) × EachBack fs xs

  pub parts_back : (fs : List (Port → Read Value)) (xs : List Value) → EachBack fs xs → (at : ℕ)
      → parts_read fs at (map write xs) ≡ Ok xs
  parts_back [] [] h at = refl
  parts_back [] (x ∷ xs) h at = absurd h
  parts_back (f ∷ fs) [] h at = absurd h
  parts_back (f ∷ fs) (x ∷ xs) h at =
      let later = parts_back fs xs h.1 (at + 1) in
      λ i. with_first (of_part at (h.0 i)) (later i)

-- ---- no part is undef

tie_off : (o : Ordering) → (o ≡ Equal → ⊥) → is_eq o ≡ false
tie_off Less h = refl
tie_off Equal h = absurd (h refl)
tie_off Greater h = refl

pub defined : (v : Value) → v ≢ Undef → is_undef v ≡ false
defined v h = tie_off (compare v Undef) (λ e. h (compare-IsAntisymmetric v Undef e))

pub all_defined : (xs : List Value) → AreDefined xs → any_undef xs ≡ false
all_defined [] h = refl
all_defined (x ∷ xs) h =
    let first = defined x h.0 in
    let later = all_defined xs h.1 in
    cc

-- ---- what keeps the limits is given

limited_is : (v : Value) → keeps_limits v ≡ true → kept (limited v) ≡ Ok v
limited_is v h = ap (λ b. kept (cond b (applied.Value v) applied.TooLarge)) h

of_defined_is : (xs : List Value) (outcome : Applied) → AreDefined xs
    → kept (cond (any_undef xs) undefined outcome) ≡ kept outcome
of_defined_is xs outcome h = ap (λ b. kept (cond b undefined outcome)) (all_defined xs h)

pub tuple_kept : (xs : List Value) → AreDefined xs → keeps_limits (Tuple xs) ≡ true
    → kept (tuple_of xs) ≡ Ok (Tuple xs)
tuple_kept xs h k = of_defined_is xs (limited (Tuple xs)) h ∙ limited_is (Tuple xs) k

pub sequence_kept : (xs : List Value) → AreDefined xs → keeps_limits (Seq xs) ≡ true
    → kept (sequence_of xs) ≡ Ok (Seq xs)
sequence_kept xs h k = of_defined_is xs (limited (Seq xs)) h ∙ limited_is (Seq xs) k

-- ---- sets

later_item : (x v : Value) → compare x v ≡ Less → compare v x ≡ Greater
later_item x v e = compare_total.antisymm v x ∙ ap ordering_reverse e

-- an item above all others comes last
with_last : (v : Value) (xs : List Value) → AllByRecursion (λ x. compare x v ≡ Less) xs
    → with_item v xs ≡ xs ++ v ∷ []
with_last v [] h = refl
with_last v (x ∷ xs) h =
    ap (λ o. by_order o (v ∷ x ∷ xs) (x ∷ xs) (x ∷ with_item v xs)) (later_item x v h.0)
    ∙ ap (λ ys. x ∷ ys) (with_last v xs h.1)

holds_there : (P : Value → Type 0) (xs more : List Value) (v : Value)
    → AllByRecursion P (xs ++ v ∷ more) → P v
holds_there P [] more v h = h.0
holds_there P (x ∷ xs) more v h = holds_there P xs more v h.1

all_below : (xs more : List Value) (v : Value) → IsStrictlySortedBy compare (xs ++ v ∷ more)
    → AllByRecursion (λ x. compare x v ≡ Less) xs
unfolding IsStrictlySortedBy
all_below [] more v h = tt
all_below (x ∷ xs) more v h =
    (holds_there (λ y. compare x y ≡ Less) xs more v h.0, all_below xs more v h.1)

with_items_sorted : (set xs : List Value) → IsStrictlySortedBy compare (set ++ xs)
    → with_items set xs ≡ set ++ xs
with_items_sorted set [] h = sym (append-nil set)
with_items_sorted set (x ∷ xs) h =
    let one = append_assoc set (x ∷ []) xs in
    ap (λ s. with_items s xs) (with_last x set (all_below set xs x h))
    ∙ with_items_sorted (set ++ x ∷ []) xs (subst (IsStrictlySortedBy compare) (sym one) h)
    ∙ one

-- the set of the items of a set is the set
pub sorted_items : (xs : List Value) → IsStrictlySortedBy compare xs → set_items xs ≡ xs
sorted_items xs h = with_items_sorted [] xs h

pub set_kept : (xs : List Value) → AreDefined xs → IsStrictlySortedBy compare xs
    → keeps_limits (Set xs) ≡ true → kept (set_of xs) ≡ Ok (Set xs)
set_kept xs h sorted k =
    of_defined_is xs (limited (Set (set_items xs))) h
    ∙ ap (λ ys. kept (limited (Set ys))) (sorted_items xs sorted)
    ∙ limited_is (Set xs) k
