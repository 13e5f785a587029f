-- More terms with operators are spelled where left operands may have any height.
use Rattle.std.proofs.Common.{◌≡◌, Bool, true, refl, codes}
use Rattle.asm_grammar.specs.Language.{opens}
use Rattle.asm_grammar.proofs.Wider.{Wider, wider-opens, wider-either, wider-made, wider-spanned, wider-chain, wider-dangling}
use Rattle.asm_syntax.specs.declared.token.Token.{Token}
use Rattle.asm_syntax.specs.declared.tree.TermTree.{TermTree}
use Rattle.asm_syntax.specs.Marks.{is, is_one_of, keyword, symbol, span_of}
use Rattle.asm_syntax.specs.Forms.{any}
use Rattle.asm_syntax.specs.Heights.{fits}
use Rattle.asm_syntax.specs.Terms as g
use Rattle.asm_syntax.specs.Terms.{Line, Forms, joined, joined_once, prefix_of, relations}
use Rattle.asm_parse_theory.specs.Terms.{is_product_sign, is_sum_sign, is_or_word}
use Rattle.asm_parse_theory.proofs.TermParts.{WiderParts}

module _ {room : Bool} {L M : Forms} (f : room ≡ true → WiderParts L M)
    (prims : Wider (g.prim_form room L) (g.prim_form room M)) (quantified : Wider (g.quantified room L) (g.quantified room M)) where
  -- an operator and its right operand
  wider_step : (test : Token → Bool) (l : Line) → Wider (opens room test (L.line l)) (opens room test (M.line l))
  wider_step test l = wider-opens room room test (λ o. o) (λ o. (f o).line l)

  each_fits : (t : TermTree) → fits t ≡ true → any t ≡ true
  each_fits t h = refl

  wider_sign : Wider (g.sign_form fits room L) (g.sign_form any room M)
  wider_sign = wider-either (wider-spanned span_of prefix_of (wider_step (is (symbol (codes "-"))) g.sign)) prims

  wider_prod : Wider (g.prod_form fits room L) (g.prod_form any room M)
  wider_prod = wider-chain fits any joined each_fits (wider_step is_product_sign g.sign) wider_sign

  wider_sum : Wider (g.sum_form fits room L) (g.sum_form any room M)
  wider_sum = wider-chain fits any joined each_fits (wider_step is_sum_sign g.prod) wider_prod

  wider_rel : Wider (g.rel_form fits room L) (g.rel_form any room M)
  wider_rel = wider-made joined_once (wider-dangling fits any each_fits wider_sum (wider_step (is_one_of relations) g.sum))

  wider_neg : Wider (g.neg_form fits room L) (g.neg_form any room M)
  wider_neg = wider-either (wider-spanned span_of prefix_of (wider_step (is (keyword (codes "not"))) g.neg)) wider_rel

  wider_and : Wider (g.and_form fits room L) (g.and_form any room M)
  wider_and = wider-chain fits any joined each_fits (wider_step (is (keyword (codes "and"))) g.neg) wider_neg

  wider_or : Wider (g.or_form fits room L) (g.or_form any room M)
  wider_or = wider-chain fits any joined each_fits (wider_step is_or_word g.and) wider_and

  wider_imp : Wider (g.imp_form fits room L) (g.imp_form any room M)
  wider_imp = wider-made joined_once (wider-dangling fits any each_fits wider_or (wider_step (is (keyword (codes "implies"))) g.imp))

  wider_term : Wider (g.term_form fits room L) (g.term_form any room M)
  wider_term = wider-chain fits any joined each_fits (wider_step (is (keyword (codes "iff"))) g.imp) wider_imp

  pub wider_line : (l : Line) → Wider (g.line_form fits room L l) (g.line_form any room M l)
  wider_line g.term = wider_term
  wider_line g.imp = wider_imp
  wider_line g.and = wider_and
  wider_line g.neg = wider_neg
  wider_line g.sum = wider_sum
  wider_line g.prod = wider_prod
  wider_line g.sign = wider_sign
  wider_line g.quantifier = quantified
