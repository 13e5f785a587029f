-- A term in parentheses where it is less tight than its line needs.
use Rattle.std.proofs.Common.{◌≡◌, ℕ, suc, Bool, true, false, List, [], ◌∷◌, ◌++◌, inl, inr, sym, refl, ap, ◌∙◌, subst, arith, append-nil}
use Rattle.std.proofs.lemmas.Bool.Decides.{nat_tests}
use Rattle.std.specs.Prelude.{codes, nat_lt, None}
use Rattle.asm_grammar.specs.Language.{Language, ◌either◌}
use Rattle.asm_syntax.specs.declared.token.Span.{Span}
use Rattle.asm_syntax.specs.declared.token.Token.{Token}
use Rattle.asm_syntax.specs.declared.tree.TermTree.{TermTree}
use Rattle.asm_syntax.specs.Marks.{span_of}
use Rattle.asm_syntax.specs.Forms.{listed, formed}
use Rattle.asm_syntax.specs.Extents.{with_extent}
use Rattle.asm_syntax.specs.Terms.{term, quantifier, Forms, tuple_of, parenthesis, prim_form}
use Rattle.asm_syntax.specs.Written.{Words, term_writing, term_words}
use Rattle.asm_print_theory.proofs.Propers.{Lexed, lexed_parts}
use Rattle.asm_print_theory.proofs.Back.{Back, back_on, back_as, back_left, back_right, back_formed_to}
use Rattle.asm_print_theory.proofs.Rows.{back_between, unbracketed, back-listed}
use Rattle.asm_print_theory.proofs.Same.{same_term, same_tuple_of}
use Rattle.asm_print_theory.proofs.Phrases.{words-tuple_of}
use Rattle.asm_print_theory.proofs.Wrapped.{same_extent, words-extent}
use Rattle.asm_print_theory.proofs.Levels.{level, prim_on}
use Rattle.asm_print_theory.proofs.Prims.{Quantified, Inside, back-plain, back-name, back-set, back-sequence, back-if_term, back-let_term, back-switch_term}

-- how tight a term is
pub data Own : Type 0 where
  Primary : Own
  Operator : ℕ → Own

-- whether it needs parentheses where this tightness is needed
abbrev pub needs : Own → ℕ → Bool
needs Primary n = false
needs (Operator k) n = nat_lt k n

pub needs_tighter : (own : Own) (n : ℕ) → needs own n ≡ true → needs own (suc n) ≡ true
needs_tighter Primary n h = absurd (cc)
needs_tighter (Operator k) n h = below k n h
  where
    below : (k n : ℕ) → nat_lt k n ≡ true → nat_lt k (suc n) ≡ true
    below k n h = grind (arith, nat_tests)

module _ (fits : TermTree → Bool) (is_open : Bool) (inner : Forms) where
  -- where the term needs no parentheses, its words spell it
  pub record Shape (t : TermTree) : Type 0 where
    pub own : Own
    pub tied : (n : ℕ) → needs own n ≡ true → term_writing t n ≡ codes "(" ∷ term_words t ++ codes ")" ∷ []
    pub loose : (n : ℕ) → needs own n ≡ false → Back same_term (term_writing t n) (level fits is_open inner n) t

  -- and where it needs them, the text had them
  pub record Fine (n : ℕ) (t : TermTree) : Type 0 where
    pub shape : Shape t
    pub deep : needs shape.own n ≡ true → (is_open ≡ true) × Back same_term (term_words t) (inner.line term) t

  pub fine_looser : (n : ℕ) (t : TermTree) → Fine (suc n) t → Fine n t
  fine_looser n t f = record { shape = f.shape; deep = λ h. f.deep (needs_tighter f.shape.own n h) }

  -- what is in parentheses that are a primary
  abbrev within : Language Token TermTree
  within = inner.line quantifier either formed tuple_of (listed (inner.line term))

  parenthesis_on : (n : ℕ) {words : Words} (v t : TermTree) → is_open ≡ true → ((s : Span) (u : TermTree) → same_term u v → same_term (with_extent s u) t)
      → Back same_term words within v → Back same_term (codes "(" ∷ words ++ codes ")" ∷ []) (level fits is_open inner n) t
  parenthesis_on n {words} v t o e b =
      let p : Back same_term (codes "(" ∷ words ++ codes ")" ∷ []) (parenthesis is_open inner) t = back_formed_to with_extent v t e (back_between (codes "(") is_open (codes ")") v refl refl o b) in
      back_on t t (λ u us h s. (u, h, prim_on fits is_open inner n u us (inr (inr (inl s))))) p

  extended : (v t : TermTree) → same_term v t → (s : Span) (u : TermTree) → same_term u v → same_term (with_extent s u) t
  extended v t h s u k = let e = same_extent s u in (e.0 ∙ k.0 ∙ h.0, e.1 ∙ k.1 ∙ h.1)

  alone : {words : Words} (t : TermTree) → Back same_term words (inner.line term) t → Back same_term words within t
  alone t b = back_right t (back_on t t (λ u us h s. (u, h, ((u, []), refl, (us, [], sym (append-nil us), s, (None, refl, inr (refl, refl)))))) b)

  -- a term where this tightness is needed
  pub parenthesized : (n : ℕ) (t : TermTree) → Fine n t → Back same_term (term_writing t n) (level fits is_open inner n) t
  parenthesized n t f = go (needs f.shape.own n) refl
    where
      go : (x : Bool) → needs f.shape.own n ≡ x → Back same_term (term_writing t n) (level fits is_open inner n) t
      go false e = f.shape.loose n e
      go true e =
          let d = f.deep e in
          back_as (f.shape.tied n e) (parenthesis_on n t t d.0 (extended t t (refl, refl)) (alone t d.1))

  -- a primary that is never put in parentheses
  pub fine_primary : (n : ℕ) (t : TermTree) → ((m : ℕ) → Back same_term (term_writing t m) (prim_form is_open inner) t) → Fine n t
  fine_primary n t b = record {
    shape = record {
      own = Primary;
      tied = λ m h. absurd (cc);
      loose = λ m h. back_on t t (λ u us k s. (u, k, prim_on fits is_open inner m u us s)) (b m);
    };
    deep = λ h. absurd (cc);
  }

-- ---- primaries

module _ (fits : TermTree → Bool) (is_open is_open' : Bool) (inner inner' : Forms) (more : is_open ≡ true → is_open' ≡ true)
    (deeper : is_open ≡ true → Inside inner inner')
    (shapes : is_open ≡ true → (t : TermTree) (ts : List Token) → (inner.line term).Spells t ts → Lexed ts → Shape fits is_open' inner' t) where
  abbrev Good : ℕ → TermTree → Type 0
  Good = Fine fits is_open' inner'

  fine_quantifier : (n : ℕ) (s : Span) (v t : TermTree) → t ≡ with_extent s v → is_open ≡ true → Quantified (inner'.line quantifier) v → Good n t
  fine_quantifier n s v t e o q = record {
    shape = record {
      own = Primary;
      tied = λ m h. absurd (cc);
      loose = λ m h.
          back_as (ap (λ x. term_writing x m) e ∙ ap (λ w. w m) (words-extent s v) ∙ q.whole m)
          (parenthesis_on fits is_open' inner' m v t (more o)
          (extended fits is_open' inner' v t (subst (λ x. same_term v x) (sym e) (sym (same_extent s v).0, sym (same_extent s v).1)))
          (back_left v q.back));
    };
    deep = λ h. absurd (cc);
  }

  fine_listed : (n : ℕ) (s s' : Span) (t first : TermTree) (others : List TermTree) (ts : List Token) → t ≡ with_extent s (tuple_of s' (first, others))
      → is_open ≡ true → (listed (inner.line term)).Spells (first, others) ts → Lexed ts → Good n t
  fine_listed n s s' t first [] ts e o l x =
      let f = shapes o first l.0 l.3 (lexed_parts l.0 l.1 (subst (λ (z : List Token). Lexed z) l.2 x)).0 in
      let b = ((deeper o).line term refl).at first l.0 l.3 (lexed_parts l.0 l.1 (subst (λ (z : List Token). Lexed z) l.2 x)).0 in
      let w : term_writing t ≡ term_writing first = ap term_writing e ∙ words-extent s first in
      let h : same_term first t = subst (λ z. same_term first z) (sym e) (sym (same_extent s first).0, sym (same_extent s first).1) in
      record {
        shape = record {
          own = f.own;
          tied = λ m k. ap (λ g. g m) w ∙ f.tied m k ∙ ap (λ g. codes "(" ∷ g 0 ++ codes ")" ∷ []) (sym w);
          loose = λ m k. back_as (ap (λ g. g m) w) (back_on first t (λ u us i r. (u, (i.0 ∙ h.0, i.1 ∙ h.1), r)) (f.loose m k));
        };
        deep = λ k. (more o, back_as (ap (λ g. g 0) w) (back_on first t (λ u us i r. (u, (i.0 ∙ h.0, i.1 ∙ h.1), r)) b));
      }
  fine_listed n s s' t first (v ∷ vs) ts e o l x =
      let w = tuple_of s' (first, v ∷ vs) in
      let b = (back-listed ((deeper o).line term refl)).at (first, v ∷ vs) ts l x in
      record {
        shape = record {
          own = Primary;
          tied = λ m h. absurd (cc);
          loose = λ m h.
              back_as (ap (λ y. term_writing y m) e ∙ ap (λ g. g m) (words-extent s w) ∙ words-tuple_of m first v vs s')
              (parenthesis_on fits is_open' inner' m w t (more o)
              (extended fits is_open' inner' w t (subst (λ y. same_term w y) (sym e) (sym (same_extent s w).0, sym (same_extent s w).1)))
              (back_right w (back_formed_to tuple_of (first, v ∷ vs) w (λ s'' u h. same_tuple_of s' s'' u (first, v ∷ vs) h) b)));
        };
        deep = λ h. absurd (cc);
      }

  fine_parenthesis : (n : ℕ) (t : TermTree) (ts : List Token) → (parenthesis is_open inner).Spells t ts → Lexed ts → Good n t
  fine_parenthesis n t ts s l =
      let u = unbracketed is_open (codes "(") (inner.line quantifier either formed tuple_of (listed (inner.line term))) (codes ")") s.0 ts s.2 l in
      go (span_of ts) s.0 s.1 u.0 u.1 u.3 u.2
    where
      go : (span : Span) (v : TermTree) → t ≡ with_extent span v → is_open ≡ true → (a : List Token) → Lexed a
          → (inner.line quantifier either formed tuple_of (listed (inner.line term))).Spells v a → Good n t
      go span v e o a l (inl q) = fine_quantifier n span v t e o ((deeper o).quantifiers v a q l)
      go span v e o a l (inr p) = fine_listed n span _ t p.0.0 p.0.1 a (e ∙ ap (with_extent span) p.1) o p.2 l

  pub fine_prim : (n : ℕ) (t : TermTree) (ts : List Token) → (prim_form is_open inner).Spells t ts → Lexed ts → Good n t
  fine_prim n t ts (inl s) l =
      fine_primary fits is_open' inner' n t (λ m. back_left t ((back-plain is_open is_open' inner inner' more deeper m).at t ts s l))
  fine_prim n t ts (inr (inl s)) l =
      fine_primary fits is_open' inner' n t (λ m. back_right t (back_left t ((back-name is_open is_open' inner inner' more deeper m).at t ts s l)))
  fine_prim n t ts (inr (inr (inl s))) l = fine_parenthesis n t ts s l
  fine_prim n t ts (inr (inr (inr (inl s)))) l =
      fine_primary fits is_open' inner' n t
      (λ m. back_right t (back_right t (back_right t (back_left t ((back-set is_open is_open' inner inner' more deeper m).at t ts s l)))))
  fine_prim n t ts (inr (inr (inr (inr (inl s))))) l =
      fine_primary fits is_open' inner' n t
      (λ m. back_right t (back_right t (back_right t (back_right t (back_left t ((back-sequence is_open is_open' inner inner' more deeper m).at t ts s l))))))
  fine_prim n t ts (inr (inr (inr (inr (inr (inl s)))))) l =
      fine_primary fits is_open' inner' n t
      (λ m. back_right t (back_right t (back_right t (back_right t (back_right t (back_left t
      ((back-if_term is_open is_open' inner inner' more deeper m).at t ts s l)))))))
  fine_prim n t ts (inr (inr (inr (inr (inr (inr (inl s))))))) l =
      fine_primary fits is_open' inner' n t
      (λ m. back_right t (back_right t (back_right t (back_right t (back_right t (back_right t (back_left t
      ((back-let_term is_open is_open' inner inner' more deeper m).at t ts s l))))))))
  fine_prim n t ts (inr (inr (inr (inr (inr (inr (inr s))))))) l =
      fine_primary fits is_open' inner' n t
      (λ m. back_right t (back_right t (back_right t (back_right t (back_right t (back_right t (back_right t
      ((back-switch_term is_open is_open' inner inner' more deeper m).at t ts s l))))))))
