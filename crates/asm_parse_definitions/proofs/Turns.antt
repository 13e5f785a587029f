-- One turn of a loop that reads a list.
use Rattle.std.proofs.Common.{◌≡◌, ◌≢◌, ◌∙◌, ◌-◌, ◌+◌, ◌<◌, ℕ, zero, suc, true, false, List, [], ◌∷◌, ◌++◌, sym, ap, refl, arith, cond, Bool}
use Rattle.asm_grammar.specs.Parser.{Reply, Took, Refused, Parser, climb, sees, and_then}
use Rattle.asm_syntax.specs.declared.token.Token.{Token}
use Rattle.asm_syntax.specs.Forms.{any, one_more}
use Rattle.asm_parse_cursor.specs.declared.refusal.GrammarRefusal.{GrammarRefusal}
use Rattle.asm_parse_cursor.specs.declared.refusal.GrammarRefusal.TheVariants.{NoMemory}
use Rattle.asm_parse_cursor.specs.Reads.{is_too_deep}

module _ {V : Type 0} (test : Token → Bool) (p : Parser Token V) where
  -- what follows a step at a token that passes the test
  abbrev behind : (n : ℕ) (found : List V) → Reply Token V → Reply Token (List V)
  behind n found r = and_then r (λ o. climb any one_more test p n (one_more found o))

  step : (n : ℕ) (found : List V) (ts : List Token) → sees test ts ≡ true
      → climb any one_more test p (suc n) found ts ≡ behind n found (p ts)
  step n found ts seen = ap (λ b. cond b (behind n found (p ts)) (Took found ts)) seen

  left : (turns turn : ℕ) (found : List V) (ts : List Token) → turn < turns → sees test ts ≡ true
      → climb any one_more test p (turns - turn) found ts ≡ behind (turns - (turn + 1)) found (p ts)
  left turns turn found ts h seen =
      let one_less : turns - turn ≡ suc (turns - (turn + 1)) = omega arith in
      ap (λ n. climb any one_more test p n found ts) one_less ∙ step (turns - (turn + 1)) found ts seen

  -- what the steps that are left give stays the same in a turn that reads one more value
  pub turn_keeps : (start : Reply Token (List V)) (turns turn : ℕ) (found more : List V) (ts rest : List Token) (v : V) → turn < turns
      → start ≡ climb any one_more test p (turns - turn) found ts → sees test ts ≡ true → p ts ≡ Took v rest → more ≡ found ++ v ∷ []
      → start ≡ climb any one_more test p (turns - (turn + 1)) more rest
  turn_keeps start turns turn found more ts rest v h e seen read pushed =
      e ∙ left turns turn found ts h seen ∙ ap (behind (turns - (turn + 1)) found) read
      ∙ ap (λ vs. climb any one_more test p (turns - (turn + 1)) vs rest) (sym pushed)

  -- a turn that reads none gives its refusal
  pub turn_fails : (start : Reply Token (List V)) (turns turn : ℕ) (found : List V) (ts rest : List Token) (why : GrammarRefusal) → turn < turns
      → start ≡ climb any one_more test p (turns - turn) found ts → sees test ts ≡ true → (why ≢ NoMemory → p ts ≡ Refused (is_too_deep why) rest)
      → why ≢ NoMemory → start ≡ Refused (is_too_deep why) rest
  turn_fails start turns turn found ts rest why h e seen read known =
      e ∙ left turns turn found ts h seen ∙ ap (behind (turns - (turn + 1)) found) (read known)

  -- a turn at another token ends the list
  pub turn_ends : (n : ℕ) (found : List V) (ts : List Token) → sees test ts ≡ false → climb any one_more test p n found ts ≡ Took found ts
  turn_ends zero found ts seen = refl
  turn_ends (suc n) found ts seen = ap (λ b. cond b (behind n found (p ts)) (Took found ts)) seen
