-- Fronts of partial spellings of terms with operators are partial spellings.
use Rattle.std.proofs.Common.{◌≡◌, Bool, true, codes}
use Rattle.asm_grammar.specs.Language.{opens}
use Rattle.asm_grammar.proofs.Fronts.{Fronts, fronts-opens, fronts-either, fronts-made, fronts-spanned, fronts-chain, fronts-dangling}
use Rattle.asm_syntax.specs.declared.token.Token.{Token}
use Rattle.asm_syntax.specs.declared.tree.TermTree.{TermTree}
use Rattle.asm_syntax.specs.Marks.{is, is_one_of, keyword, symbol, span_of}
use Rattle.asm_syntax.specs.Terms as g
use Rattle.asm_syntax.specs.Terms.{Line, Forms, joined, joined_once, prefix_of, relations}
use Rattle.asm_parse_theory.specs.Terms.{is_product_sign, is_sum_sign, is_or_word}
use Rattle.asm_parse_theory.proofs.TermParts.{FrontsParts}

module _ (fits' : TermTree → Bool) {room : Bool} {L : Forms} (f : room ≡ true → FrontsParts L)
    (prims : Fronts (g.prim_form room L)) (quantified : Fronts (g.quantified room L)) where
  -- an operator and its right operand
  fronts_step : (test : Token → Bool) (l : Line) → Fronts (opens room test (L.line l))
  fronts_step test l = fronts-opens room test (λ o. (f o).line l)

  pub fronts_sign : Fronts (g.sign_form fits' room L)
  fronts_sign = fronts-either (fronts-spanned span_of prefix_of (fronts_step (is (symbol (codes "-"))) g.sign)) prims

  pub fronts_prod : Fronts (g.prod_form fits' room L)
  fronts_prod = fronts-chain fits' joined (fronts_step is_product_sign g.sign) fronts_sign

  pub fronts_sum : Fronts (g.sum_form fits' room L)
  fronts_sum = fronts-chain fits' joined (fronts_step is_sum_sign g.prod) fronts_prod

  pub fronts_rel : Fronts (g.rel_form fits' room L)
  fronts_rel = fronts-made joined_once (fronts-dangling fits' fronts_sum (fronts_step (is_one_of relations) g.sum))

  pub fronts_neg : Fronts (g.neg_form fits' room L)
  fronts_neg = fronts-either (fronts-spanned span_of prefix_of (fronts_step (is (keyword (codes "not"))) g.neg)) fronts_rel

  pub fronts_and : Fronts (g.and_form fits' room L)
  fronts_and = fronts-chain fits' joined (fronts_step (is (keyword (codes "and"))) g.neg) fronts_neg

  pub fronts_or : Fronts (g.or_form fits' room L)
  fronts_or = fronts-chain fits' joined (fronts_step is_or_word g.and) fronts_and

  pub fronts_imp : Fronts (g.imp_form fits' room L)
  fronts_imp = fronts-made joined_once (fronts-dangling fits' fronts_or (fronts_step (is (keyword (codes "implies"))) g.imp))

  pub fronts_term : Fronts (g.term_form fits' room L)
  fronts_term = fronts-chain fits' joined (fronts_step (is (keyword (codes "iff"))) g.imp) fronts_imp

  pub fronts_line : (l : Line) → Fronts (g.line_form fits' room L l)
  fronts_line g.term = fronts_term
  fronts_line g.imp = fronts_imp
  fronts_line g.and = fronts_and
  fronts_line g.neg = fronts_neg
  fronts_line g.sum = fronts_sum
  fronts_line g.prod = fronts_prod
  fronts_line g.sign = fronts_sign
  fronts_line g.quantifier = quantified
