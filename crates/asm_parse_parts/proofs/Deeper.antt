-- What stands one construct deeper.
use Rattle.std.proofs.Common.{◌≡◌, ◌-◌, ◌+◌, ◌<◌, ℕ, zero, suc, refl, ap, arith}
use Rattle.std.specs.Prelude.{List}
use Rattle.asm_grammar.specs.Parser.{Parser}
use Rattle.asm_syntax.specs.declared.token.Token.{Token}
use Rattle.asm_syntax.specs.declared.tree.TermTree.{TermTree}
use Rattle.asm_syntax.specs.Forms.{is_open}
use Rattle.asm_syntax.specs.Terms as t
use Rattle.asm_parse_theory.specs.Domains as d
use Rattle.asm_parse_theory.specs.Terms.{inside, line, term, binds, readers_at, Readers}

pub readers_deeper : (n : ℕ) → 0 < n → inside n ≡ readers_at (n - 1) (inside (n - 1))
unfolding inside
readers_deeper zero h = absurd (omega arith)
readers_deeper (suc n) h = let same : suc n - 1 ≡ n = omega arith in rw same refl

pub line_deeper : (n : ℕ) (l : t.Line) (ts : List Token) → 0 < n → (inside n).line l ts ≡ line (n - 1) l ts
unfolding line
line_deeper n l ts h = ap (λ (r : Readers). r.line l ts) (readers_deeper n h)

pub term_deeper : (n : ℕ) → 0 < n → (inside n).line t.term ≡ term (n - 1)
unfolding term line
term_deeper n h = ap (λ (r : Readers). r.line t.term) (readers_deeper n h)

pub ranges_deeper : (n : ℕ) (ts : List Token) → 0 < n → (inside n).ranges ts ≡ d.ranges (d.domain (n - 1)) ts
ranges_deeper n ts h = ap (λ (r : Readers). r.ranges ts) (readers_deeper n h)

pub binds_deeper : (n : ℕ) (ts : List Token) → 0 < n → (inside n).binds ts ≡ binds (is_open (n - 1)) (inside (n - 1)) ts
binds_deeper n ts h = ap (λ (r : Readers). r.binds ts) (readers_deeper n h)
