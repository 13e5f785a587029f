-- Which entries of a journal are of one seat.
use Rattle.std.specs.Prelude.{ℕ, ◌+◌, ◌≡◌, ◌<◌, List, [], ◌∷◌, length, if◌then◌else◌, ◌==◌}
use Rattle.asm_board.specs.declared.entry.Entry.{Entry}

-- the numbers of this seat's entries, where the first entry has this number
abbrev pub numbers_from : ℕ → ℕ → List Entry → List ℕ
numbers_from first seat [] = []
numbers_from first seat (e ∷ es) =
    if e.seat == seat then first ∷ numbers_from (first + 1) seat es
    else numbers_from (first + 1) seat es

abbrev pub numbers_of : ℕ → List Entry → List ℕ
numbers_of seat h = numbers_from 1 seat h

-- xs has some of the items of ys, in their order
pub data IsPick {A : Type 0} : List A → List A → Type 0 where
  none : IsPick [] []
  takes : {x : A} {xs ys : List A} → IsPick xs ys → IsPick (x ∷ xs) (x ∷ ys)
  skips : {y : A} {xs ys : List A} → IsPick xs ys → IsPick xs (y ∷ ys)

-- each entry is of one of so many seats
abbrev pub SeatsBelow : ℕ → List Entry → Type 0
SeatsBelow seats [] = Unit {0}
SeatsBelow seats (e ∷ es) = (e.seat < seats) × SeatsBelow seats es

-- the lists, one for each seat from this one on, are picks of their seats' numbers
abbrev pub PicksFrom : ℕ → List Entry → List (List ℕ) → Type 0
PicksFrom seat h [] = Unit {0}
PicksFrom seat h (m ∷ ms) = IsPick m (numbers_of seat h) × PicksFrom (seat + 1) h ms

abbrev pub NumbersFrom : ℕ → List Entry → List (List ℕ) → Type 0
NumbersFrom seat h [] = Unit {0}
NumbersFrom seat h (m ∷ ms) = (m ≡ numbers_of seat h) × NumbersFrom (seat + 1) h ms

abbrev pub total_length : List (List ℕ) → ℕ
total_length [] = 0
total_length (m ∷ ms) = length m + total_length ms
