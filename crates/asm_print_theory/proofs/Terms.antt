-- Terms are spelled again by their words.
use Rattle.std.proofs.Common.{◌≡◌, ℕ, zero, suc, Bool, true, List, [], ◌∷◌, inl, inr, refl}
use Rattle.std.specs.Prelude.{codes}
use Rattle.asm_syntax.specs.declared.token.Token.{Token}
use Rattle.asm_syntax.specs.declared.tree.TermTree.{TermTree}
use Rattle.asm_syntax.specs.Marks.{keyword, symbol, mark_of, same}
use Rattle.asm_syntax.specs.Forms.{is_open}
use Rattle.asm_syntax.specs.Heights.{fits}
use Rattle.asm_syntax.specs.Terms.{Line, term, imp, and, neg, sum, prod, sign, quantifier, Forms, relations, sign_form, prod_form, sum_form, neg_form, and_form, or_form, imp_form, line_form, forms_at, inside, forms, term_within}
use Rattle.asm_syntax.specs.Written.{binary_tightness, prefix_tightness, term_writing, term_words}
use Rattle.asm_print_theory.proofs.Propers.{Lexed}
use Rattle.asm_print_theory.proofs.Back.{Backs}
use Rattle.asm_print_theory.proofs.Domains.{Within, within_open, within_more, within_same, back-ranges, back-domain}
use Rattle.asm_print_theory.proofs.Same.{same_term}
use Rattle.asm_print_theory.proofs.Levels.{tight, level}
use Rattle.asm_print_theory.proofs.Prims.{Inside, is_term, back_quantified, back-binds}
use Rattle.asm_print_theory.proofs.Parenthesized.{Shape, Fine, fine_looser, parenthesized, fine_prim}
use Rattle.asm_print_theory.proofs.Operators.{op_of, one_of, one_of_ops, fine_prefix, fine_chain, fine_once}

module _ (is_open is_open' : Bool) (inner inner' : Forms) (more : is_open ≡ true → is_open' ≡ true) (deeper : is_open ≡ true → Inside inner inner')
    (shapes : is_open ≡ true → (t : TermTree) (ts : List Token) → (inner.line term).Spells t ts → Lexed ts → Shape fits is_open' inner' t) where
  -- what is on a line of this tightness is fine there
  abbrev FineOn : ℕ → Type 0
  FineOn n = (t : TermTree) (ts : List Token) → (level fits is_open inner n).Spells t ts → Lexed ts → Fine fits is_open' inner' n t

  fine_sign : FineOn 8
  fine_sign t ts (inl s) l =
      fine_prefix is_open is_open' inner inner' more deeper 8 (λ k. same (symbol (codes "-")) (mark_of k)) sign
      (λ k h. op_of prefix_tightness 8 (symbol (codes "-")) k refl h) refl refl (λ u us q. inl q) t ts s l
  fine_sign t ts (inr s) l = fine_looser fits is_open' inner' 8 t (fine_prim fits is_open is_open' inner inner' more deeper shapes 9 t ts s l)

  fine_prod : FineOn 7
  fine_prod = fine_chain is_open is_open' inner inner' more deeper 7 (one_of (symbol (codes "*") ∷ keyword (codes "div") ∷ keyword (codes "mod") ∷ [])) sign
      (λ k h. one_of_ops binary_tightness 7 (symbol (codes "*") ∷ keyword (codes "div") ∷ keyword (codes "mod") ∷ []) k refl h) refl refl
      (sign_form fits is_open inner) (sign_form fits is_open' inner') refl fine_sign (λ u us q. q) (λ u us q. q)

  fine_sum : FineOn 6
  fine_sum = fine_chain is_open is_open' inner inner' more deeper 6 (one_of (symbol (codes "+") ∷ symbol (codes "-") ∷ [])) prod
      (λ k h. one_of_ops binary_tightness 6 (symbol (codes "+") ∷ symbol (codes "-") ∷ []) k refl h) refl refl
      (prod_form fits is_open inner) (prod_form fits is_open' inner') refl fine_prod (λ u us q. q) (λ u us q. q)

  fine_rel : FineOn 5
  fine_rel = fine_once is_open is_open' inner inner' more deeper 5 (one_of relations) sum
      (λ k h. one_of_ops binary_tightness 5 relations k refl h) refl refl (sum_form fits is_open inner) refl fine_sum (λ u us q. q)

  fine_neg : FineOn 4
  fine_neg t ts (inl s) l =
      fine_prefix is_open is_open' inner inner' more deeper 4 (λ k. same (keyword (codes "not")) (mark_of k)) neg
      (λ k h. op_of prefix_tightness 4 (keyword (codes "not")) k refl h) refl refl (λ u us q. inl q) t ts s l
  fine_neg t ts (inr s) l = fine_looser fits is_open' inner' 4 t (fine_rel t ts s l)

  fine_and : FineOn 3
  fine_and = fine_chain is_open is_open' inner inner' more deeper 3 (λ k. same (keyword (codes "and")) (mark_of k)) neg
      (λ k h. op_of binary_tightness 3 (keyword (codes "and")) k refl h) refl refl
      (neg_form fits is_open inner) (neg_form fits is_open' inner') refl fine_neg (λ u us q. q) (λ u us q. q)

  fine_or : FineOn 2
  fine_or = fine_chain is_open is_open' inner inner' more deeper 2 (one_of (keyword (codes "or") ∷ keyword (codes "xor") ∷ [])) and
      (λ k h. one_of_ops binary_tightness 2 (keyword (codes "or") ∷ keyword (codes "xor") ∷ []) k refl h) refl refl
      (and_form fits is_open inner) (and_form fits is_open' inner') refl fine_and (λ u us q. q) (λ u us q. q)

  fine_imp : FineOn 1
  fine_imp = fine_once is_open is_open' inner inner' more deeper 1 (λ k. same (keyword (codes "implies")) (mark_of k)) imp
      (λ k h. op_of binary_tightness 1 (keyword (codes "implies")) k refl h) refl refl (or_form fits is_open inner) refl fine_or (λ u us q. q)

  pub fine_term : FineOn 0
  fine_term = fine_chain is_open is_open' inner inner' more deeper 0 (λ k. same (keyword (codes "iff")) (mark_of k)) imp
      (λ k h. op_of binary_tightness 0 (keyword (codes "iff")) k refl h) refl refl
      (imp_form fits is_open inner) (imp_form fits is_open' inner') refl fine_imp (λ u us q. q) (λ u us q. q)

  parenthesized_on : (n : ℕ) → FineOn n → Backs (level fits is_open inner n) (level fits is_open' inner' n) same_term (λ t. term_writing t n)
  parenthesized_on n f = record { at = λ t ts s l. parenthesized fits is_open' inner' n t (f t ts s l) }

  pub back-line : (l : Line) → is_term l ≡ true
      → Backs (line_form fits is_open inner l) (line_form fits is_open' inner' l) same_term (λ t. term_writing t (tight l))
  back-line term h = parenthesized_on 0 fine_term
  back-line imp h = parenthesized_on 1 fine_imp
  back-line and h = parenthesized_on 3 fine_and
  back-line neg h = parenthesized_on 4 fine_neg
  back-line sum h = parenthesized_on 6 fine_sum
  back-line prod h = parenthesized_on 7 fine_prod
  back-line sign h = parenthesized_on 8 fine_sign
  back-line quantifier h = absurd (cc)

-- ---- how many constructs may be open

-- what is inside n constructs is spelled again inside m
pub record Kept (n m : ℕ) : Type 0 where
  pub again : Inside (inside fits n) (inside fits m)
  pub shapes : is_open n ≡ true → (t : TermTree) (ts : List Token) → ((inside fits n).line term).Spells t ts → Lexed ts
      → Shape fits (is_open m) (inside fits m) t

pub kept_at : (n m : ℕ) → Within n m → Kept n m → Inside (forms_at fits n (inside fits n)) (forms_at fits m (inside fits m))
kept_at n m h k = record {
  line = back-line (is_open n) (is_open m) (inside fits n) (inside fits m) (within_open n m h) (λ o. k.again) k.shapes;
  quantifiers = back_quantified (is_open n) (is_open m) (inside fits n) (inside fits m) (within_open n m h) (λ o. k.again);
  ranges = back-ranges (back-domain n m h);
  binds = back-binds (is_open n) (is_open m) (inside fits n) (inside fits m) (within_open n m h) (λ o. k.again);
}

pub kept : (n m : ℕ) → Within n m → Kept n m
unfolding inside
kept zero m h = record {
  again = record {
    line = λ l e. record { at = λ t ts s x. absurd s };
    quantifiers = λ t ts s x. absurd s;
    ranges = record { at = λ t ts s x. absurd s };
    binds = record { at = λ t ts s x. absurd s };
  };
  shapes = λ o. absurd (cc);
}
kept (suc n) zero h = absurd h
kept (suc n) (suc m) h =
    let k = kept n (suc m) (within_more n m h) in
    record {
      again = kept_at n m h (kept n m h);
      shapes = λ o t ts s x.
          (fine_term (is_open n) (is_open (suc m)) (inside fits n) (inside fits (suc m)) (within_open n (suc m) (within_more n m h)) (λ q. k.again) k.shapes
          t ts s x).shape;
    }

pub back-forms : (n : ℕ) → Inside (forms fits n) (forms fits n)
unfolding forms
back-forms n = kept_at n n (within_same n) (kept n n (within_same n))

pub back-term : (n : ℕ) → Backs (term_within fits n) (term_within fits n) same_term term_words
back-term n = (back-forms n).line term refl
