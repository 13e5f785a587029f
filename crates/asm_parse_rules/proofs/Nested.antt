-- What stands one construct deeper.
use Rattle.std.proofs.Common.{◌≡◌, ◌-◌, ◌<◌, ℕ, zero, suc, List, refl, arith}
use Rattle.asm_grammar.specs.Parser.{mapped}
use Rattle.asm_syntax.specs.declared.token.Token.{Token}
use Rattle.asm_syntax.specs.Forms.{is_open}
use Rattle.asm_syntax.specs.Terms as g
use Rattle.asm_syntax.specs.Terms.{terms_of}
use Rattle.asm_parse_theory.specs.Forms.{listed}
use Rattle.asm_parse_theory.specs.Domains.{domain}
use Rattle.asm_parse_theory.specs.Domains as d
use Rattle.asm_parse_theory.specs.Terms as t
use Rattle.asm_parse_theory.specs.Rules as r

pub rule_deeper : (n : ℕ) (ts : List Token) → 0 < n → r.inside n ts ≡ r.rule (n - 1) ts
unfolding r.inside r.rule
rule_deeper zero ts h = absurd (omega arith)
rule_deeper (suc n) ts h = let same : suc n - 1 ≡ n = omega arith in rw same refl

pub term_deeper : (n : ℕ) (ts : List Token) → 0 < n → (t.inside n).line g.term ts ≡ t.term (n - 1) ts
unfolding t.inside t.term t.line
term_deeper zero ts h = absurd (omega arith)
term_deeper (suc n) ts h = let same : suc n - 1 ≡ n = omega arith in rw same refl

pub arguments_deeper : (n : ℕ) (ts : List Token) → 0 < n → t.arguments (t.inside n) ts ≡ mapped terms_of (listed (t.term (n - 1))) ts
unfolding t.inside t.term t.line
arguments_deeper zero ts h = absurd (omega arith)
arguments_deeper (suc n) ts h = let same : suc n - 1 ≡ n = omega arith in rw same refl

pub ranges_deeper : (n : ℕ) (ts : List Token) → 0 < n → (t.inside n).ranges ts ≡ d.ranges (domain (n - 1)) ts
unfolding t.inside
ranges_deeper zero ts h = absurd (omega arith)
ranges_deeper (suc n) ts h = let same : suc n - 1 ≡ n = omega arith in rw same refl

pub binds_deeper : (n : ℕ) (ts : List Token) → 0 < n → (t.inside n).binds ts ≡ t.binds (is_open (n - 1)) (t.inside (n - 1)) ts
unfolding t.inside
binds_deeper zero ts h = absurd (omega arith)
binds_deeper (suc n) ts h = let same : suc n - 1 ≡ n = omega arith in rw same refl
