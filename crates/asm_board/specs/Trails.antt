-- What is said of each slot of a board: what it holds and what it remembers, and what an entry
-- makes of it.
use Rattle.std.specs.Prelude.{ℕ, ◌≡◌, ◌≤◌, Option, Some, None, length}
use Rattle.std.specs.List.{AllByRecursion}
use Rattle.asm_board.specs.declared.board.Slot.{Slot}
use Rattle.asm_board.specs.Contents.{Contents, IsContent}
use Rattle.asm_board.specs.Slots.{Models, pairs_of, most_pairs, no_trail, remembered, trail_after}

-- ---- each slot

-- it is so of the slot's content, and of each earlier one that it remembers
pub record IsThroughout (P : Contents → Type 0) (slot : Slot) : Type 0 where
  pub present : P slot.content
  pub earlier : AllByRecursion (λ pair. P pair.content) (pairs_of slot)

abbrev pub EachIsThroughout : (Contents → Type 0) → Models → Type 0
EachIsThroughout P models = AllByRecursion (λ model. IsThroughout P model.slot) models

-- each state is light and meets its invariants
abbrev pub EachMeetsItsInvariants : Models → Type 0
EachMeetsItsInvariants models = EachIsThroughout IsContent models

-- it remembers no more pairs than are kept
abbrev pub HasFewPairs : Slot → Type 0
HasFewPairs slot = length (pairs_of slot) ≤ most_pairs

abbrev pub EachHasFewPairs : Models → Type 0
EachHasFewPairs models = AllByRecursion (λ model. HasFewPairs model.slot) models

-- ---- an entry

-- a slot with a new content in place of an old one, of which the pair is remembered
abbrev pub slot_after : ℕ → Option Slot → Contents → Slot
slot_after number old content =
    record { version = number; content = content; trail = trail_after old }

-- What an entry of this number makes of a model: it stays as it is, it goes, or it has a new
-- content at this number.
pub data Follows (number : ℕ) (old new : Option Slot) : Type 0 where
  Stays : new ≡ old → Follows number old new
  Goes : new ≡ None → Follows number old new
  Comes : (content : Contents) → new ≡ Some (slot_after number old content)
      → Follows number old new

-- the new slot is of this number, and its newest pair is what was before
pub record Remembers (number : ℕ) (old new : Slot) : Type 0 where
  pub version : new.version ≡ number
  pub trail : new.trail ≡ remembered old.trail old.version old.content

-- the slot is of this number, and has nothing to remember
pub record Begins (number : ℕ) (new : Slot) : Type 0 where
  pub version : new.version ≡ number
  pub trail : new.trail ≡ no_trail
