-- What the facts of rules need of terms.
use Rattle.std.proofs.Common.{◌∷◌, codes}
use Rattle.asm_grammar.proofs.Basic.{nowhere}
use Rattle.asm_syntax.specs.Marks.{is, variable, symbol}
use Rattle.asm_syntax.specs.Forms.{is_open}
use Rattle.asm_syntax.specs.Terms as g
use Rattle.asm_parse_theory.specs.Firsts.{among, after_term, starts_term}
use Rattle.asm_parse_theory.specs.Terms as r
use Rattle.asm_parse_theory.proofs.Facts.{Line, Deeper}

pub record OfTerms : Type 1 where
  pub value : Line r.term (λ f n. g.term_within f n) starts_term (λ v. among after_term)
  pub call : Line (λ n. r.call (is_open n) (r.inside n)) (λ f n. g.call (is_open n) (g.inside f n)) (is (symbol (codes "("))) nowhere
  -- what stands one construct deeper
  pub inner : Deeper (λ n. (r.inside n).line g.term) (λ f n. (g.inside f n).line g.term) starts_term (λ v. among after_term)
  pub ranges : Deeper (λ n. (r.inside n).ranges) (λ f n. (g.inside f n).ranges) (is variable) (λ v. is (symbol (codes ",")))
  pub binds : Deeper (λ n. (r.inside n).binds) (λ f n. (g.inside f n).binds) (is (symbol (codes "("))) nowhere
  pub arguments : Deeper (λ n. r.arguments (r.inside n)) (λ f n. g.arguments (g.inside f n)) starts_term
      (λ v. among (symbol (codes ",") ∷ after_term))
