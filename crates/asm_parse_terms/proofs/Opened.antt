-- Whether one more construct may be open.
use Rattle.std.proofs.Common.{◌≡◌, ℕ, zero, suc, nat_lt, refl, arith}
use Rattle.asm_syntax.specs.Forms.{is_open}

pub is_open_is : (n : ℕ) → is_open n ≡ nat_lt 0 n
is_open_is zero = refl
is_open_is (suc n) = grind arith
