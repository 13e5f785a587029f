-- One turn of a loop that reads further values, and what is read where none follows.
use Rattle.std.proofs.Common.{◌≡◌, ◌∙◌, ◌-◌, ◌+◌, ◌<◌, ℕ, zero, suc, Bool, true, false, List, sym, refl, ap, arith, cond}
use Rattle.asm_grammar.specs.Parser.{Reply, Took, Refused, Parser, climb, sees, and_then}
use Rattle.asm_formula.specs.declared.token.Token.{Token}
use Rattle.asm_formula.specs.Parsing.{formula_form, formula}
use Rattle.asm_formula.proofs.Lists.{by_false}

module _ {V O : Type 0} (fits : V → Bool) (join : V → O → V) (test : Token → Bool) (p : Parser Token O) where
  -- what a turn goes on with, at a token that passes the test
  abbrev on : ℕ → V → Parser Token V
  on n left ts = and_then (p ts) (λ o. climb fits join test p n (join left o))

  -- a step at a token that passes the test, behind a value that fits
  pub step : (n : ℕ) (left : V) (ts rest : List Token) (o : O) → sees test ts ≡ true → fits left ≡ true → p ts ≡ Took o rest
      → climb fits join test p (suc n) left ts ≡ climb fits join test p n (join left o) rest
  step n left ts rest o seen fit read =
      ap (λ b. cond b (and_then (cond (fits left) (Took tt ts) (Refused true ts)) (λ done. on n left)) (Took left ts)) seen
      ∙ ap (λ b. and_then (cond b (Took tt ts) (Refused true ts)) (λ done. on n left)) fit
      ∙ ap (λ r. and_then r (λ o. climb fits join test p n (join left o))) read

  -- no step at a token that doesn't pass
  pub no_step : (n : ℕ) (left : V) (ts : List Token) → sees test ts ≡ false → climb fits join test p n left ts ≡ Took left ts
  no_step zero left ts unseen = refl
  no_step (suc n) left ts unseen = by_false (λ (r : Reply Token V). r ≡ Took left ts) (sees test ts) _ _ unseen refl

  -- what the steps that are left give stays the same in a turn that reads one more value
  pub turn_keeps : (start : Reply Token V) (turns turn : ℕ) (found more : V) (ts rest : List Token) (o : O) → turn < turns
      → start ≡ climb fits join test p (turns - turn) found ts → sees test ts ≡ true → fits found ≡ true → p ts ≡ Took o rest → more ≡ join found o
      → start ≡ climb fits join test p (turns - (turn + 1)) more rest
  turn_keeps start turns turn found more ts rest o h e seen fit read joined =
      let left : turns - turn ≡ suc (turns - (turn + 1)) = omega arith in
      e ∙ ap (λ n. climb fits join test p n found ts) left ∙ step (turns - (turn + 1)) found ts rest o seen fit read
      ∙ ap (λ v. climb fits join test p (turns - (turn + 1)) v rest) (sym joined)

-- ---- depths

pub formula_none : (n : ℕ) (ts : List Token) → n ≡ 0 → formula n ts ≡ Refused false ts
unfolding formula
formula_none n ts e = ap (λ (k : ℕ). formula k ts) e

pub formula_deeper : (n : ℕ) → (n ≡ 0 → ⊥) → formula n ≡ formula_form (formula (n - 1))
unfolding formula
formula_deeper zero h = absurd (h refl)
formula_deeper (suc n) h = let same : suc n - 1 ≡ n = omega arith in rw same refl
