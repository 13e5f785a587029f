-- How many constructs may be open in the language and in the parser.
use Rattle.std.proofs.Common.{◌≡◌, ℕ, zero, suc, Bool, true, false, inl, inr, arith}
use Rattle.asm_syntax.specs.Forms.{is_open}
use Rattle.asm_parse_theory.proofs.Facts.{Room}

-- where the language lets one more be open, and the parser doesn't
pub no_room : (X : Bool) (n k : ℕ) → Room X n k → is_open k ≡ true → is_open n ≡ false → X ≡ true
no_room X n k (inl x) o e = x
no_room X zero zero (inr le) o e = absurd (cc o)
no_room X zero (suc k) (inr le) o e = absurd (omega arith)
no_room X (suc n) k (inr le) o e = absurd (cc e)

-- one deeper
pub less_room : (X : Bool) (n k : ℕ) → Room X (suc n) (suc k) → Room X n k
less_room X n k (inl x) = inl x
less_room X n k (inr le) = inr (omega arith)
