-- What is spelled with operators is taken, and a partial spelling is never stopped inside.
use Rattle.std.proofs.Common.{◌≡◌, List, [], ◌∷◌, Bool, true, false, refl, codes}
use Rattle.std.specs.Prelude.{◌||◌, Option, Some, None}
use Rattle.asm_grammar.specs.Language.{Language, opens, made, chain, dangling}
use Rattle.asm_grammar.specs.Parser as p
use Rattle.asm_grammar.specs.Parser.{Parser, choose, mapped, chained, followed}
use Rattle.asm_grammar.proofs.Exact.{Complete, Apart, weaken, any_sound}
use Rattle.asm_grammar.proofs.Basic.{complete-made}
use Rattle.asm_grammar.proofs.Choices.{complete-either, complete-opens}
use Rattle.asm_grammar.proofs.CompleteChains.{complete-chain}
use Rattle.asm_grammar.proofs.Dangling.{dangling_on}
use Rattle.asm_grammar.proofs.Followed.{complete-followed}
use Rattle.asm_grammar.proofs.Spans.{complete-spanned}
use Rattle.asm_grammar.proofs.Maybe.{both_false}
use Rattle.asm_syntax.specs.declared.token.Token.{Token}
use Rattle.asm_syntax.specs.declared.tree.TermTree.{TermTree}
use Rattle.asm_syntax.specs.Marks.{Mark, is, is_one_of, keyword, symbol, span_of}
use Rattle.asm_syntax.specs.Heights.{fits}
use Rattle.asm_syntax.specs.Terms as g
use Rattle.asm_syntax.specs.Terms.{Line, Forms, joined, joined_once, prefix_of, relations}
use Rattle.asm_parse_theory.specs.Firsts.{among, first_prim, first_sign, first_term, after_term}
use Rattle.asm_parse_theory.specs.Terms as r
use Rattle.asm_parse_theory.specs.Terms.{Readers, is_product_sign, is_sum_sign, is_or_word}
use Rattle.asm_parse_theory.proofs.Facts.{Loose}
use Rattle.asm_parse_theory.proofs.Sets.{disjoint, within, apart, off}
use Rattle.asm_parse_theory.proofs.TermParts.{SoundParts, CompleteParts, products, sums, ors, first, after, after_sign, after_prod, after_sum, after_rel, after_and, after_or, after_imp}

-- ---- tests by sets of marks

one_of : (ms : List Mark) (t : Token) → is_one_of ms t ≡ true → among ms t ≡ true
one_of [] t h = absurd (cc h)
one_of (m ∷ []) t h = go (is m t) h
  where
    go : (x : Bool) → (x || false) ≡ true → x ≡ true
    go true e = refl
    go false e = absurd (cc e)
one_of (m ∷ n ∷ ms) t h = go (λ e. one_of (n ∷ ms) t e) (is m t) h
  where
    go : (is_one_of (n ∷ ms) t ≡ true → among (n ∷ ms) t ≡ true) → (x : Bool) → (x || is_one_of (n ∷ ms) t) ≡ true → (x || among (n ∷ ms) t) ≡ true
    go rest true e = refl
    go rest false e = rest e

-- a test that only tokens with these marks pass fails elsewhere
fails : (test : Token → Bool) (ms : List Mark) → ((t : Token) → test t ≡ true → among ms t ≡ true) → (t : Token) → among ms t ≡ false → test t ≡ false
fails test ms into t h = go (test t) refl
  where
    go : (x : Bool) → test t ≡ x → test t ≡ false
    go true e = let i : among ms t ≡ true = into t e in absurd (cc (h, i))
    go false e = e

-- ---- an operator and its right operand, one construct deeper

-- `room` says whether the parser lets one more construct be open, and `may` whether the language does
module _ (X : Bool) {room may : Bool} (loose : may ≡ true → room ≡ false → X ≡ true) (fits' : TermTree → Bool) (loose' : Loose X fits')
    {inner inner' : Readers} {L N M : Forms} (s : room ≡ true → SoundParts inner N M)
    (c : room ≡ true → may ≡ true → CompleteParts X inner L) (d : may ≡ true → CompleteParts true inner' L) where
  complete_step : (test : Token → Bool) (l : Line)
      → Complete X (p.opened room test (inner.line l)) (opens may test (L.line l)) test (λ o. among (after l)) false
  complete_step test l =
      complete-opens room test X may (λ o o'. (c o o').line l) (λ o'. (d o').line l) loose (λ o. any_sound ((s o).line l))

  -- only tokens of these marks pass the test
  module _ (test : Token → Bool) (ops : List Mark) (into : (t : Token) → test t ≡ true → among ops t ≡ true) (l : Line)
      (F E G : List Mark) {q : Parser Token TermTree} {B : Language Token TermTree} (b : Complete X q B (among F) (λ v. among E) false)
      (ends : disjoint ops E ≡ true) (of_ops : within ops G ≡ true)
      (of_right : within (after l) G ≡ true) (of_left : within E G ≡ true) where
    not_op : (t : Token) → among G t ≡ false → test t ≡ false
    not_op t h = fails test ops into t (off ops G of_ops t h)

    left_ends : Apart (among E) test
    left_ends t h = apart ops E ends t (into t h)

    -- any number of them, grouped to the left
    complete_joined : disjoint ops (after l) ≡ true → Complete X (chained fits joined test (p.opened room test (inner.line l)) q)
        (chain fits' joined (opens may test (L.line l)) B) (among F) (λ v. among G) false
    complete_joined ends' =
        weaken (among F) (λ v. among G) (λ t h. h)
        (λ v t h. both_false (among E t) (test t || among (after l) t) (off E G of_left t h)
        (both_false (test t) (among (after l) t) (not_op t h) (off (after l) G of_right t h)))
        (complete-chain X fits fits' joined test (complete_step test l) (λ t h. apart ops (after l) ends' t (into t h)) loose' b left_ends)

    on_once : (v : TermTree × Option (Token × TermTree)) (t : Token) → among G t ≡ false
        → dangling_on test (λ v. among E) (λ o. among (after l)) v t ≡ false
    on_once (v, None) t h = both_false (test t) (among E t) (not_op t h) (off E G of_left t h)
    on_once (v, Some o) t h = off (after l) G of_right t h

    -- one at most
    complete_once : Complete X (mapped joined_once (followed fits test q (p.opened room test (inner.line l))))
        (made joined_once (dangling fits' B (opens may test (L.line l)))) (among F) (λ v. among G) false
    complete_once =
        complete-made joined_once (λ v. among G) on_once
        (complete-followed X fits fits' b (complete_step test l) (λ v i. left_ends) loose')

  -- ---- the lines

  module _ (prims : Complete X (r.prim_form room inner) (g.prim_form may L) (among first_prim) (λ v. among after_sign) false)
      (quantified : Complete X (r.quantified room inner) (g.quantified may L) (among (first g.quantifier)) (λ v. among after_term) false) where
    complete_sign : Complete X (r.sign_form room inner) (g.sign_form fits' may L) (among first_sign) (λ v. among after_sign) false
    unfolding r.sign_form
    complete_sign =
        weaken (among first_sign) (λ v. among after_sign) (λ t h. h) (λ v t h. both_false (among after_sign t) (among after_sign t) h h)
        (complete-either X
        (complete-spanned span_of prefix_of (λ v. among after_sign) (λ s v t h. h) (complete_step (is (symbol (codes "-"))) g.sign))
        prims (apart first_prim (symbol (codes "-") ∷ []) refl))

    complete_prod : Complete X (r.prod_form room inner) (g.prod_form fits' may L) (among first_sign) (λ v. among after_prod) false
    unfolding r.prod_form
    complete_prod = complete_joined is_product_sign products (one_of products) g.sign first_sign after_sign after_prod complete_sign refl refl refl refl refl

    complete_sum : Complete X (r.sum_form room inner) (g.sum_form fits' may L) (among first_sign) (λ v. among after_sum) false
    unfolding r.sum_form
    complete_sum = complete_joined is_sum_sign sums (one_of sums) g.prod first_sign after_prod after_sum complete_prod refl refl refl refl refl

    complete_rel : Complete X (r.rel_form room inner) (g.rel_form fits' may L) (among first_sign) (λ v. among after_rel) false
    unfolding r.rel_form
    complete_rel = complete_once (is_one_of relations) relations (one_of relations) g.sum first_sign after_sum after_rel complete_sum refl refl refl refl

    complete_neg : Complete X (r.neg_form room inner) (g.neg_form fits' may L) (among first_term) (λ v. among after_rel) false
    unfolding r.neg_form
    complete_neg =
        weaken (among first_term) (λ v. among after_rel) (λ t h. h) (λ v t h. both_false (among after_rel t) (among after_rel t) h h)
        (complete-either X
        (complete-spanned span_of prefix_of (λ v. among after_rel) (λ s v t h. h) (complete_step (is (keyword (codes "not"))) g.neg))
        complete_rel (apart first_sign (keyword (codes "not") ∷ []) refl))

    complete_and : Complete X (r.and_form room inner) (g.and_form fits' may L) (among first_term) (λ v. among after_and) false
    unfolding r.and_form
    complete_and =
        complete_joined (is (keyword (codes "and"))) (keyword (codes "and") ∷ []) (λ t h. h) g.neg first_term after_rel after_and complete_neg refl refl refl refl refl

    complete_or : Complete X (r.or_form room inner) (g.or_form fits' may L) (among first_term) (λ v. among after_or) false
    unfolding r.or_form
    complete_or = complete_joined is_or_word ors (one_of ors) g.and first_term after_and after_or complete_and refl refl refl refl refl

    complete_imp : Complete X (r.imp_form room inner) (g.imp_form fits' may L) (among first_term) (λ v. among after_imp) false
    unfolding r.imp_form
    complete_imp =
        complete_once (is (keyword (codes "implies"))) (keyword (codes "implies") ∷ []) (λ t h. h) g.imp first_term after_or after_imp complete_or refl refl refl refl

    complete_term : Complete X (r.term_form room inner) (g.term_form fits' may L) (among first_term) (λ v. among after_term) false
    unfolding r.term_form
    complete_term =
        complete_joined (is (keyword (codes "iff"))) (keyword (codes "iff") ∷ []) (λ t h. h) g.imp first_term after_imp after_term complete_imp refl refl refl refl refl

    pub complete_line : (l : Line)
        → Complete X (r.line_form room inner l) (g.line_form fits' may L l) (among (first l)) (λ v. among (after l)) false
    unfolding r.line_form
    complete_line g.term = complete_term
    complete_line g.imp = complete_imp
    complete_line g.and = complete_and
    complete_line g.neg = complete_neg
    complete_line g.sum = complete_sum
    complete_line g.prod = complete_prod
    complete_line g.sign = complete_sign
    complete_line g.quantifier = quantified
