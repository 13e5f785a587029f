-- How slots change along a journal.
use Rattle.std.proofs.Common.{◌≡◌, ℕ, ◌+◌, ◌<◌, ◌≤◌, ◌⊎◌, inl, inr, ⊎_elim, List, [], ◌∷◌, ◌++◌, fold, None, Option, refl, sym, ap, subst, ◌∙◌, arith}
use Rattle.asm_board.specs.declared.board.Board.{Board}
use Rattle.asm_board.specs.declared.board.Slot.{Slot}
use Rattle.asm_board.specs.declared.entry.Entry.{Entry}
use Rattle.asm_board.specs.declared.prepared.NameVersion.{NameVersion}
use Rattle.asm_board.specs.Meanings.{Meanings}
use Rattle.asm_board.specs.Slots.{Models, slot_in, version_or_zero, version_in, listed, only, versions_in}
use Rattle.asm_board.specs.Boards.{applied}
use Rattle.asm_board.specs.Trails.{Follows, Stays, Goes, Comes}
use Rattle.asm_board.proofs.Others.{follows}

-- along more entries a slot stays, goes, or gets a version after this front
pub data Grows (front : ℕ) (old new : Option Slot) : Type 0 where
  stays : new ≡ old → Grows front old new
  goes : new ≡ None → Grows front old new
  comes : front < version_or_zero new → Grows front old new

-- a version is at most the front, and at least 1 where there is a model
pub record Fits (front : ℕ) (slot : Option Slot) : Type 0 where
  pub early : version_or_zero slot ≤ front
  pub there : (slot ≡ None) ⊎ (0 < version_or_zero slot)

pub none_fits : (front : ℕ) → Fits front None
none_fits front = record { early = omega arith; there = inl refl }

module _ (m : Meanings) where
  -- a step that takes one entry more
  grows_with : (front : ℕ) (a b c : Option Slot) → Follows (front + 1) a b → Grows (front + 1) b c → Grows front a c
  grows_with front a b c first (goes e) = goes e
  grows_with front a b c first (comes lt) = comes (omega (arith, lt))
  grows_with front a b c (Stays d) (stays e) = stays (e ∙ d)
  grows_with front a b c (Goes d) (stays e) = goes (e ∙ d)
  grows_with front a b c (Comes content d) (stays e) = comes (omega (arith, ap version_or_zero e, ap version_or_zero d))

  pub grows : (more : List Entry) (b : Board) (q : List ℕ) → Grows b.front (slot_in b.slots q) (slot_in (fold (applied m) b more).slots q)
  grows [] b q = stays refl
  grows (e ∷ es) b q = grows_with b.front (slot_in b.slots q) (slot_in (applied m b e).slots q) (slot_in (fold (applied m) b (e ∷ es)).slots q) (follows m b e q) (grows es (applied m b e) q)

  fits_with : (front : ℕ) (old new : Option Slot) → Follows (front + 1) old new → Fits front old → Fits (front + 1) new
  fits_with front old new (Stays e) h = subst (Fits (front + 1)) (sym e) (record { early = omega (arith, h.early); there = h.there })
  fits_with front old new (Goes e) h = subst (Fits (front + 1)) (sym e) (none_fits (front + 1))
  fits_with front old new (Comes content e) h = record { early = omega (arith, ap version_or_zero e); there = inr (omega (arith, ap version_or_zero e)) }

  pub fits : (journal : List Entry) (b : Board) (q : List ℕ) → Fits b.front (slot_in b.slots q) → Fits (fold (applied m) b journal).front (slot_in (fold (applied m) b journal).slots q)
  fits [] b q h = h
  fits (e ∷ es) b q h = fits es (applied m b e) q (fits_with b.front (slot_in b.slots q) (slot_in (applied m b e).slots q) (follows m b e q) h)

-- where a slot's version is the same later, the slot is the same
pub same_slot : (front : ℕ) (old new : Option Slot) → Fits front old → Grows front old new → version_or_zero old ≡ version_or_zero new → new ≡ old
same_slot front old new h (stays e) same = e
same_slot front old new h (goes e) same = ⊎_elim (λ none. e ∙ sym none) (λ lt. absurd (omega (arith, lt, same, ap version_or_zero e))) h.there
same_slot front old new h (comes lt) same = absurd (omega (arith, lt, same, h.early))

abbrev first_version : List NameVersion → ℕ
first_version [] = 0
first_version (v ∷ vs) = v.version

-- the same versions of some names give the same models of these names
pub same_models : (old new : Models) (names : List (List ℕ)) → ((q : List ℕ) → version_in old q ≡ version_in new q → slot_in new q ≡ slot_in old q) → versions_in old names ≡ versions_in new names → only new names ≡ only old names
same_models old new [] slots same = refl
same_models old new (q ∷ qs) slots same =
    let head : version_in old q ≡ version_in new q = ap first_version same in
    let tail : versions_in old qs ≡ versions_in new qs = cc (same) in
    ap (λ s. listed q s ++ only new qs) (slots q head) ∙ ap (λ ms. listed q (slot_in old q) ++ ms) (same_models old new qs slots tail)
