-- The domains one construct deeper.
use Rattle.std.proofs.Common.{◌≡◌, ◌-◌, ◌<◌, ℕ, zero, suc, refl, arith}
use Rattle.asm_parse_theory.specs.Domains.{inside, domain}

pub domain_deeper : (n : ℕ) → 0 < n → inside n ≡ domain (n - 1)
unfolding inside domain
domain_deeper zero h = absurd (omega arith)
domain_deeper (suc n) h = let same : suc n - 1 ≡ n = omega arith in rw same refl
