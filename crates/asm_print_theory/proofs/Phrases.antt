-- The words of terms by their forms.
use Rattle.std.proofs.Common.{◌≡◌, ℕ, true, false, List, [], ◌∷◌, ◌++◌, map, ap, ◌∙◌, append_assoc, append-nil}
use Rattle.std.specs.Prelude.{codes, Option, Some, None}
use Rattle.asm_syntax.specs.declared.token.Span.{Span}
use Rattle.asm_syntax.specs.declared.token.Token.{Token}
use Rattle.asm_syntax.specs.declared.tree.RangesTree.{RangesTree}
use Rattle.asm_syntax.specs.declared.tree.TermTree.{TermTree}
use Rattle.asm_syntax.specs.declared.tree.TermsTree.{TermsTree}
use Rattle.asm_syntax.specs.declared.tree.BindTree.{BindTree}
use Rattle.asm_syntax.specs.declared.tree.BindsTree.{BindsTree}
use Rattle.asm_syntax.specs.declared.tree.CaseTree.{CaseTree}
use Rattle.asm_syntax.specs.declared.tree.TermTree.TheVariants as terms
use Rattle.asm_syntax.specs.Forms.{Rest, To, And}
use Rattle.asm_syntax.specs.Terms.{terms_of, bind_of, binds_of, case_of, tuple_of, set_of, exist_of}
use Rattle.asm_syntax.specs.Written.{Words, word_of, after_each, written_all, if_there, comma, own, ranges_words, binary_tightness, left_tightness, right_tightness, prefix_tightness, Writing, bound, term_words_step, bind_words_step, binds_words_step, case_words_step, terms_words_step, term_writing, terms_words, binds_words, term_words}
use Rattle.asm_print_theory.proofs.Rows.{members_words}
use Rattle.asm_print_theory.proofs.Domains.{each_mapped, each_own, all_own}
use Rattle.asm_print_theory.proofs.Folds.{folded_bind, folded_case, folded-Prefix, folded-Binary, folded-Number, folded-Chars, folded-True, folded-False, folded-Undef, folded-Var, folded-Name, folded-Tuple, folded-Forall, folded-Exist, folded-Interval, folded-Set, folded-Seq, folded-If, folded-Let, folded-Switch, folded-bind, folded-binds, folded-case, folded-terms}

abbrev pub bind_words : BindTree → Words
bind_words = folded_bind term_words_step bind_words_step binds_words_step case_words_step terms_words_step

abbrev pub case_words : CaseTree → Words
case_words = folded_case term_words_step bind_words_step binds_words_step case_words_step terms_words_step

-- ---- lists, binds and cases

pub words-terms : (v : TermTree × List TermTree) → terms_words (terms_of v) ≡ term_words v.0 ++ after_each comma term_words v.1
unfolding term_writing terms_words
words-terms (t, ts) = folded-terms _ _ _ _ _ t ts ∙ ap (λ ws. term_words t ++ ws) (each_mapped comma (λ w. w 0) term_writing ts)

pub words-bind : (v : Token × TermTree) → bind_words (bind_of v) ≡ word_of v.0 ∷ codes "=" ∷ term_words v.1
unfolding term_writing
words-bind (x, t) = folded-bind _ _ _ _ _ x t

pub words-binds : (s : Span) (v : BindTree × List BindTree)
    → binds_words (binds_of s v) ≡ codes "(" ∷ (bind_words v.0 ++ after_each comma bind_words v.1) ++ codes ")" ∷ []
unfolding binds_words
words-binds s (b, bs) = folded-binds _ _ _ _ _ b bs s ∙ ap (λ ws. codes "(" ∷ (bind_words b ++ ws) ++ codes ")" ∷ []) (each_own comma bind_words bs)

pub words-case : (v : TermTree × TermTree) → case_words (case_of v) ≡ codes "case" ∷ (term_words v.0 ++ codes ":" ∷ term_words v.1)
unfolding term_writing
words-case (x, t) = folded-case _ _ _ _ _ x t

-- ---- operators

module _ (needed : ℕ) where
  pub words-Prefix : (op : List ℕ) (t : TermTree) (s : Span)
      → term_writing (terms.Prefix op t s) needed ≡ bound (prefix_tightness op) (op ∷ term_writing t (prefix_tightness op)) needed
  unfolding term_writing
  words-Prefix op t s = ap (λ (w : Writing). w needed) (folded-Prefix _ _ _ _ _ op t s)

  pub words-Binary : (l : TermTree) (op : List ℕ) (r : TermTree) (s : Span)
      → term_writing (terms.Binary l op r s) needed
      ≡ bound (binary_tightness op)
      (term_writing l (left_tightness (binary_tightness op)) ++ op ∷ term_writing r (right_tightness (binary_tightness op))) needed
  unfolding term_writing
  words-Binary l op r s = ap (λ (w : Writing). w needed) (folded-Binary _ _ _ _ _ l op r s)

  -- ---- forms that are never put in parentheses

  pub words-Number : (t : Token) (s : Span) → term_writing (terms.Number t s) needed ≡ word_of t ∷ []
  unfolding term_writing
  words-Number t s = ap (λ (w : Writing). w needed) (folded-Number _ _ _ _ _ t s)

  pub words-Chars : (t : Token) (s : Span) → term_writing (terms.Chars t s) needed ≡ word_of t ∷ []
  unfolding term_writing
  words-Chars t s = ap (λ (w : Writing). w needed) (folded-Chars _ _ _ _ _ t s)

  pub words-Var : (t : Token) (s : Span) → term_writing (terms.Var t s) needed ≡ word_of t ∷ []
  unfolding term_writing
  words-Var t s = ap (λ (w : Writing). w needed) (folded-Var _ _ _ _ _ t s)

  pub words-True : (s : Span) → term_writing (terms.True s) needed ≡ codes "true" ∷ []
  unfolding term_writing
  words-True s = ap (λ (w : Writing). w needed) (folded-True _ _ _ _ _ s)

  pub words-False : (s : Span) → term_writing (terms.False s) needed ≡ codes "false" ∷ []
  unfolding term_writing
  words-False s = ap (λ (w : Writing). w needed) (folded-False _ _ _ _ _ s)

  pub words-Undef : (s : Span) → term_writing (terms.Undef s) needed ≡ codes "undef" ∷ []
  unfolding term_writing
  words-Undef s = ap (λ (w : Writing). w needed) (folded-Undef _ _ _ _ _ s)

  pub words-Name : (v : Token × Option TermsTree) (s : Span)
      → term_writing (terms.Name v.0 v.1 s) needed ≡ word_of v.0 ∷ if_there [] (λ a. codes "(" ∷ terms_words a ++ codes ")" ∷ []) v.1
  unfolding term_writing terms_words
  words-Name (t, None) s = ap (λ (w : Writing). w needed) (folded-Name _ _ _ _ _ t None s)
  words-Name (t, Some a) s = ap (λ (w : Writing). w needed) (folded-Name _ _ _ _ _ t (Some a) s)

  pub words-Tuple : (t : TermsTree) (s : Span) → term_writing (terms.Tuple t s) needed ≡ codes "(" ∷ terms_words t ++ codes ")" ∷ []
  unfolding term_writing terms_words
  words-Tuple t s = ap (λ (w : Writing). w needed) (folded-Tuple _ _ _ _ _ t s)

  pub words-Forall : (v : RangesTree × TermTree) (s : Span)
      → term_writing (terms.Forall v.0 v.1 s) needed
      ≡ codes "(" ∷ (codes "forall" ∷ (ranges_words v.0 ++ codes "with" ∷ term_words v.1)) ++ codes ")" ∷ []
  unfolding term_writing
  words-Forall (r, t) s = ap (λ (w : Writing). w needed) (folded-Forall _ _ _ _ _ r t s)

  pub words-exist_of : (v : Option Token × (RangesTree × TermTree)) (s : Span)
      → term_writing (exist_of s v) needed
      ≡ codes "("
      ∷ (codes "exist" ∷ (if_there [] (λ t. codes "unique" ∷ []) v.0 ++ (ranges_words v.1.0 ++ codes "with" ∷ term_words v.1.1)))
      ++ codes ")" ∷ []
  unfolding term_writing
  words-exist_of (None, (r, t)) s = ap (λ (w : Writing). w needed) (folded-Exist _ _ _ _ _ false r t s)
  words-exist_of (Some x, (r, t)) s = ap (λ (w : Writing). w needed) (folded-Exist _ _ _ _ _ true r t s)

  words-Interval : (x y : TermTree) (s : Span)
      → term_writing (terms.Interval x y s) needed ≡ codes "{" ∷ (term_words x ++ codes ".." ∷ term_words y) ++ codes "}" ∷ []
  unfolding term_writing
  words-Interval x y s = ap (λ (w : Writing). w needed) (folded-Interval _ _ _ _ _ x y s)

  words-Set : (a : Option TermsTree) (s : Span) → term_writing (terms.Set a s) needed ≡ codes "{" ∷ if_there [] terms_words a ++ codes "}" ∷ []
  unfolding term_writing terms_words
  words-Set None s = ap (λ (w : Writing). w needed) (folded-Set _ _ _ _ _ None s)
  words-Set (Some a) s = ap (λ (w : Writing). w needed) (folded-Set _ _ _ _ _ (Some a) s)

  pub words-set_of : (v : Option (TermTree × Option (Rest TermTree))) (s : Span)
      → term_writing (set_of s v) needed ≡ codes "{" ∷ if_there [] (members_words term_words) v ++ codes "}" ∷ []
  words-set_of None s = words-Set None s
  words-set_of (Some (t, None)) s =
      words-Set (Some (terms_of (t, []))) s ∙ ap (λ ws. codes "{" ∷ ws ++ codes "}" ∷ []) (words-terms (t, []) ∙ append-nil (term_words t))
  words-set_of (Some (t, Some (To l))) s = words-Interval t l s
  words-set_of (Some (t, Some (And ts))) s =
      words-Set (Some (terms_of (t, ts))) s ∙ ap (λ ws. codes "{" ∷ ws ++ codes "}" ∷ []) (words-terms (t, ts))

  pub words-Seq : (a : Option TermsTree) (s : Span) → term_writing (terms.Seq a s) needed ≡ codes "[" ∷ if_there [] terms_words a ++ codes "]" ∷ []
  unfolding term_writing terms_words
  words-Seq None s = ap (λ (w : Writing). w needed) (folded-Seq _ _ _ _ _ None s)
  words-Seq (Some a) s = ap (λ (w : Writing). w needed) (folded-Seq _ _ _ _ _ (Some a) s)

  pub words-If : (v : TermTree × (TermTree × Option TermTree)) (s : Span)
      → term_writing (terms.If v.0 v.1.0 v.1.1 s) needed
      ≡ codes "if" ∷ (term_words v.0 ++ (codes "then" ∷ term_words v.1.0 ++ if_there [] (λ t. codes "else" ∷ term_words t) v.1.1)) ++ codes "endif" ∷ []
  unfolding term_writing
  words-If (g, (t, None)) s =
      ap (λ (w : Writing). w needed) (folded-If _ _ _ _ _ g t None s)
      ∙ ap (λ ws. codes "if" ∷ ws ++ codes "endif" ∷ []) (append_assoc (term_words g) (codes "then" ∷ term_words t) [])
  words-If (g, (t, Some o)) s =
      ap (λ (w : Writing). w needed) (folded-If _ _ _ _ _ g t (Some o) s)
      ∙ ap (λ ws. codes "if" ∷ ws ++ codes "endif" ∷ []) (append_assoc (term_words g) (codes "then" ∷ term_words t) (codes "else" ∷ term_words o))

  pub words-Let : (v : BindsTree × TermTree) (s : Span)
      → term_writing (terms.Let v.0 v.1 s) needed ≡ codes "let" ∷ (binds_words v.0 ++ codes "in" ∷ term_words v.1) ++ codes "endlet" ∷ []
  unfolding term_writing binds_words
  words-Let (b, t) s = ap (λ (w : Writing). w needed) (folded-Let _ _ _ _ _ b t s)

  switch_term_words : (t : TermTree) (cs : List CaseTree) (ws : Words)
      → ((codes "switch" ∷ term_words t) ++ written_all own (map case_words cs) ++ ws) ++ codes "endswitch" ∷ []
      ≡ codes "switch" ∷ (term_words t ++ (written_all case_words cs ++ ws)) ++ codes "endswitch" ∷ []
  switch_term_words t cs ws =
      ap (λ x. ((codes "switch" ∷ term_words t) ++ x ++ ws) ++ codes "endswitch" ∷ []) (all_own case_words cs)
      ∙ ap (λ x. codes "switch" ∷ x ++ codes "endswitch" ∷ []) (append_assoc (term_words t) (written_all case_words cs) ws)

  pub words-Switch : (v : TermTree × (List CaseTree × Option TermTree)) (s : Span)
      → term_writing (terms.Switch v.0 v.1.0 v.1.1 s) needed
      ≡ codes "switch" ∷ (term_words v.0 ++ (written_all case_words v.1.0 ++ if_there [] (λ t. codes "otherwise" ∷ term_words t) v.1.1)) ++ codes "endswitch" ∷ []
  unfolding term_writing
  words-Switch (t, (cs, None)) s = ap (λ (w : Writing). w needed) (folded-Switch _ _ _ _ _ t cs None s) ∙ switch_term_words t cs []
  words-Switch (t, (cs, Some o)) s = ap (λ (w : Writing). w needed) (folded-Switch _ _ _ _ _ t cs (Some o) s) ∙ switch_term_words t cs (codes "otherwise" ∷ term_words o)

  pub words-tuple_of : (t u : TermTree) (ts : List TermTree) (s : Span)
      → term_writing (tuple_of s (t, u ∷ ts)) needed ≡ codes "(" ∷ (term_words t ++ after_each comma term_words (u ∷ ts)) ++ codes ")" ∷ []
  words-tuple_of t u ts s = words-Tuple (terms_of (t, u ∷ ts)) s ∙ ap (λ ws. codes "(" ∷ ws ++ codes ")" ∷ []) (words-terms (t, u ∷ ts))
