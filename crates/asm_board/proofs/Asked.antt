-- The entries of a legal journal have the numbers from 1 on, so those for which a log asks are those of its numbers.
use Rattle.std.proofs.Common.{Bool, true, false, cond, nat_lt, nat_le, ◌&&◌, ◌≡◌, ℕ, zero, suc, ◌+◌, ◌-◌, ◌<◌, ◌≤◌, List, [], ◌∷◌, take, drop, filter, refl, sym, ap, ◌∙◌, arith}
use Rattle.std.proofs.Math.Seq.{take-nil, drop-nil}
use Rattle.std.proofs.lemmas.Bool.Decides.{nat_tests}
use Rattle.asm_board.specs.declared.board.Board.{Board}
use Rattle.asm_board.specs.declared.entry.Entry.{Entry}
use Rattle.asm_board.specs.Meanings.{Meanings}
use Rattle.asm_board.specs.Logs.{is_numbered}
use Rattle.asm_board.specs.Boards.{empty_board, applied}
use Rattle.asm_board.specs.Answers.{Legal, LegalFrom}
use Rattle.asm_board.proofs.Legal.{answer_at_of}

-- they have the next numbers after this one
abbrev AreNumbered : ℕ → List Entry → Type 0
AreNumbered n [] = Unit {0}
AreNumbered n (e ∷ es) = (e.number ≡ n + 1) × AreNumbered (n + 1) es

numbered : (m : Meanings) (room : ℕ) (journal : List Entry) (b : Board) → LegalFrom m room b journal → AreNumbered b.front journal
numbered m room [] b legal = tt
numbered m room (e ∷ es) b legal = ((answer_at_of m room b e.seat e.call e legal.0).number, numbered m room es (applied m b e) legal.1)

module _ (from count : ℕ) where
  abbrev asked_after : ℕ → List Entry → List Entry
  asked_after n es = drop ((from - 1) - n) (take ((from + count - 1) - n) es)

  tested : (k : ℕ) (e : Entry) (low high : Bool) → e.number ≡ k → nat_le from k ≡ low → nat_lt k (from + count) ≡ high → is_numbered from count e ≡ (low && high)
  tested k e low high number a b = ap (λ j. nat_le from j && nat_lt j (from + count)) number ∙ (λ i. a i && b i)

  -- one entry more in front
  next : (n : ℕ) (e : Entry) (es : List Entry) (low high : Bool) → e.number ≡ n + 1 → nat_le from (n + 1) ≡ low → nat_lt (n + 1) (from + count) ≡ high
      → filter (is_numbered from count) es ≡ asked_after (n + 1) es → filter (is_numbered from count) (e ∷ es) ≡ asked_after n (e ∷ es)
  next n e es false high number a b rest =
      let below : n + 1 < from = grind (arith, nat_tests, a) in
      let first : (from - 1) - n ≡ suc ((from - 1) - (n + 1)) = omega (arith, below) in
      let last : (from + count - 1) - n ≡ suc ((from + count - 1) - (n + 1)) = omega (arith, below) in
      ap (λ t. cond t (e ∷ filter (is_numbered from count) es) (filter (is_numbered from count) es)) (tested (n + 1) e false high number a b)
      ∙ rest ∙ sym (λ i. drop (first i) (take (last i) (e ∷ es)))
  next n e es true true number a b rest =
      let above : from ≤ n + 1 = grind (arith, nat_tests, a) in
      let within : n + 1 < from + count = grind (arith, nat_tests, b) in
      let first : (from - 1) - n ≡ 0 = omega (arith, above) in
      let after : (from - 1) - (n + 1) ≡ 0 = omega (arith, above) in
      let last : (from + count - 1) - n ≡ suc ((from + count - 1) - (n + 1)) = omega (arith, within) in
      ap (λ t. cond t (e ∷ filter (is_numbered from count) es) (filter (is_numbered from count) es)) (tested (n + 1) e true true number a b)
      ∙ ap (λ xs. e ∷ xs) (rest ∙ ap (λ k. drop k (take ((from + count - 1) - (n + 1)) es)) after)
      ∙ sym (λ i. drop (first i) (take (last i) (e ∷ es)))
  next n e es true false number a b rest =
      let above : from ≤ n + 1 = grind (arith, nat_tests, a) in
      let beyond : from + count ≤ n + 1 = grind (arith, nat_tests, b) in
      let first : (from - 1) - n ≡ 0 = omega (arith, above) in
      let after : (from - 1) - (n + 1) ≡ 0 = omega (arith, above) in
      let last : (from + count - 1) - n ≡ 0 = omega (arith, beyond) in
      let later : (from + count - 1) - (n + 1) ≡ 0 = omega (arith, beyond) in
      ap (λ t. cond t (e ∷ filter (is_numbered from count) es) (filter (is_numbered from count) es)) (tested (n + 1) e true false number a b)
      ∙ rest ∙ (λ i. drop (after i) (take (later i) es)) ∙ sym (λ i. drop (first i) (take (last i) (e ∷ es)))

  asked_from : (n : ℕ) (es : List Entry) → AreNumbered n es → filter (is_numbered from count) es ≡ asked_after n es
  asked_from n [] all = sym (ap (drop ((from - 1) - n)) (take-nil ((from + count - 1) - n)) ∙ drop-nil ((from - 1) - n))
  asked_from n (e ∷ es) all =
      next n e es (nat_le from (n + 1)) (nat_lt (n + 1) (from + count)) all.0 refl refl (asked_from (n + 1) es all.1)

pub asked_is : (m : Meanings) (room : ℕ) (journal : List Entry) (from count : ℕ) → Legal m room journal
    → drop (from - 1) (take (from + count - 1) journal) ≡ filter (is_numbered from count) journal
asked_is m room journal from count legal =
    let first : from - 1 ≡ (from - 1) - 0 = omega arith in
    let last : from + count - 1 ≡ (from + count - 1) - 0 = omega arith in
    (λ i. drop (first i) (take (last i) journal)) ∙ sym (asked_from from count 0 journal (numbered m room journal empty_board legal))
