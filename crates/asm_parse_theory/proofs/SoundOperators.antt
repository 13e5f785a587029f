-- What the parsers of operators take is spelled, and what they took before a refusal is a partial spelling.
use Rattle.std.proofs.Common.{◌≡◌, List, [], ◌∷◌, Bool, true, inr, refl, codes}
use Rattle.asm_grammar.specs.Language.{opens}
use Rattle.asm_grammar.specs.Parser as p
use Rattle.asm_grammar.specs.Parser.{Parser}
use Rattle.asm_grammar.proofs.Exact.{Sound}
use Rattle.asm_grammar.proofs.Basic.{sound-made}
use Rattle.asm_grammar.proofs.Choices.{sound-either, sound-opens}
use Rattle.asm_grammar.proofs.SoundChains.{sound-chain}
use Rattle.asm_grammar.proofs.Followed.{sound-followed}
use Rattle.asm_grammar.proofs.Spans.{sound-spanned}
use Rattle.asm_syntax.specs.declared.token.Token.{Token}
use Rattle.asm_syntax.specs.declared.tree.TermTree.{TermTree}
use Rattle.asm_syntax.specs.Marks.{is, is_one_of, keyword, symbol, span_of}
use Rattle.asm_syntax.specs.Forms.{any}
use Rattle.asm_syntax.specs.Heights.{fits}
use Rattle.asm_syntax.specs.Terms as g
use Rattle.asm_syntax.specs.Terms.{Line, Forms, joined, joined_once, prefix_of, relations}
use Rattle.asm_parse_theory.specs.Terms as r
use Rattle.asm_parse_theory.specs.Terms.{Readers, is_product_sign, is_sum_sign, is_or_word}
use Rattle.asm_parse_theory.proofs.TermParts.{SoundParts, EmptyParts}

-- M has room for one more construct than L.
module _ {room : Bool} {inner : Readers} {L M : Forms} (s : room ≡ true → SoundParts inner L M) (empty : EmptyParts M)
    (prims : Sound (r.prim_form room inner) (g.prim_form room L) (g.prim_form true M))
    (quantified : Sound (r.quantified room inner) (g.quantified room L) (g.quantified true M))
    (begins : (l : Line) (t : TermTree) (a : List Token) → (g.line_form fits room L l).Spells t a → (g.line_form fits room L l).Begins a)
    (begins_or : (t : TermTree) (a : List Token) → (g.or_form fits room L).Spells t a → (g.or_form fits room L).Begins a) where
  -- an operator and its right operand
  sound_step : (test : Token → Bool) (l : Line)
      → Sound (p.opened room test (inner.line l)) (opens room test (L.line l)) (opens true test (M.line l))
  sound_step test l = sound-opens room test (λ o. (s o).line l) (empty.line l)

  step_starts : (test : Token → Bool) (l : Line) (t : Token) → test t ≡ true → (opens true test (M.line l)).Begins (t ∷ [])
  step_starts test l t h = inr (t, [], refl, h, refl, empty.line l)

  pub sound_sign : Sound (r.sign_form room inner) (g.sign_form fits room L) (g.sign_form any true M)
  unfolding r.sign_form
  sound_sign =
      sound-either (is (symbol (codes "-"))) (sound-spanned span_of prefix_of (sound_step (is (symbol (codes "-"))) g.sign)) prims

  pub sound_prod : Sound (r.prod_form room inner) (g.prod_form fits room L) (g.prod_form any true M)
  unfolding r.prod_form
  sound_prod = sound-chain fits joined is_product_sign sound_sign (sound_step is_product_sign g.sign) (step_starts is_product_sign g.sign)

  pub sound_sum : Sound (r.sum_form room inner) (g.sum_form fits room L) (g.sum_form any true M)
  unfolding r.sum_form
  sound_sum = sound-chain fits joined is_sum_sign sound_prod (sound_step is_sum_sign g.prod) (step_starts is_sum_sign g.prod)

  pub sound_rel : Sound (r.rel_form room inner) (g.rel_form fits room L) (g.rel_form any true M)
  unfolding r.rel_form
  sound_rel =
      sound-made joined_once (sound-followed fits (is_one_of relations) sound_sum (sound_step (is_one_of relations) g.sum)
      (begins g.sum) (step_starts (is_one_of relations) g.sum))

  pub sound_neg : Sound (r.neg_form room inner) (g.neg_form fits room L) (g.neg_form any true M)
  unfolding r.neg_form
  sound_neg =
      sound-either (is (keyword (codes "not"))) (sound-spanned span_of prefix_of (sound_step (is (keyword (codes "not"))) g.neg)) sound_rel

  pub sound_and : Sound (r.and_form room inner) (g.and_form fits room L) (g.and_form any true M)
  unfolding r.and_form
  sound_and =
      sound-chain fits joined (is (keyword (codes "and"))) sound_neg (sound_step (is (keyword (codes "and"))) g.neg)
      (step_starts (is (keyword (codes "and"))) g.neg)

  pub sound_or : Sound (r.or_form room inner) (g.or_form fits room L) (g.or_form any true M)
  unfolding r.or_form
  sound_or = sound-chain fits joined is_or_word sound_and (sound_step is_or_word g.and) (step_starts is_or_word g.and)

  pub sound_imp : Sound (r.imp_form room inner) (g.imp_form fits room L) (g.imp_form any true M)
  unfolding r.imp_form
  sound_imp =
      sound-made joined_once (sound-followed fits (is (keyword (codes "implies"))) sound_or (sound_step (is (keyword (codes "implies"))) g.imp)
      begins_or (step_starts (is (keyword (codes "implies"))) g.imp))

  pub sound_term : Sound (r.term_form room inner) (g.term_form fits room L) (g.term_form any true M)
  unfolding r.term_form
  sound_term =
      sound-chain fits joined (is (keyword (codes "iff"))) sound_imp (sound_step (is (keyword (codes "iff"))) g.imp)
      (step_starts (is (keyword (codes "iff"))) g.imp)

  pub sound_line : (l : Line) → Sound (r.line_form room inner l) (g.line_form fits room L l) (g.line_form any true M l)
  unfolding r.line_form
  sound_line g.term = sound_term
  sound_line g.imp = sound_imp
  sound_line g.and = sound_and
  sound_line g.neg = sound_neg
  sound_line g.sum = sound_sum
  sound_line g.prod = sound_prod
  sound_line g.sign = sound_sign
  sound_line g.quantifier = quantified
