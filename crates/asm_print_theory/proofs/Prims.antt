-- Terms that are never put in parentheses are spelled again by their words.
use Rattle.std.proofs.Common.{◌≡◌, ℕ, Bool, true, false, List, [], ◌∷◌, ◌++◌, inl, inr, sym, refl, ap, ◌∙◌, subst}
use Rattle.std.specs.Prelude.{codes}
use Rattle.asm_grammar.specs.Language.{Language}
use Rattle.asm_syntax.specs.declared.token.Token.{Token}
use Rattle.asm_syntax.specs.declared.tree.TermTree.{TermTree}
use Rattle.asm_syntax.specs.declared.tree.TermTree.TheVariants as terms
use Rattle.asm_syntax.specs.Marks.{mark_of, same, id, variable, number, chars}
use Rattle.asm_syntax.specs.Terms.{Line, term, imp, and, neg, sum, prod, sign, quantifier, Forms, terms_of, bind_of, binds_of, case_of, set_of, exist_of, arguments, call, bind, binds, plain, name, quantified, set, sequence, if_term, let_term, case, switch_term}
use Rattle.asm_syntax.specs.Written.{Words, if_there, ranges_words, term_writing, term_words, terms_words, binds_words}
use Rattle.asm_print_theory.proofs.Propers.{Lexed}
use Rattle.asm_print_theory.proofs.Back.{Back, Backs, back-word, back-then, back-either, back-made, back-formed, back-maybe, back_left, back_right, back_formed_to}
use Rattle.asm_print_theory.proofs.Rows.{back-quoted, back-after_word, back-after_sign, back-opened, back-enclosed, back-bracketed, back-many, back-listed, back-members}
use Rattle.asm_print_theory.proofs.Domains.{same_ranges}
use Rattle.asm_print_theory.proofs.Same.{same_term, same_terms, same_bind, same_binds, same_case, same_terms_of, same_bind_of, same_binds_of, same_case_of, same_number, same_chars, same_var, same_true, same_false, same_undef, same_name, same_forall, same_exist_of, same_set_of, same_seq, same_if_term, same_let_term, same_switch_term}
use Rattle.asm_print_theory.proofs.Phrases.{bind_words, case_words, words-terms, words-bind, words-binds, words-case, words-Number, words-Chars, words-True, words-False, words-Undef, words-Var, words-Name, words-Forall, words-exist_of, words-set_of, words-Seq, words-If, words-Let, words-Switch}
use Rattle.asm_print_theory.proofs.Levels.{tight}

-- a quantifier, which is always in parentheses, by the words between them
pub record Quantified (M : Language Token TermTree) (t : TermTree) : Type 0 where
  pub words : Words
  pub whole : (needed : ℕ) → term_writing t needed ≡ codes "(" ∷ words ++ codes ")" ∷ []
  pub back : Back same_term words M t

abbrev pub is_term : Line → Bool
is_term quantifier = false
is_term term = true
is_term imp = true
is_term and = true
is_term neg = true
is_term sum = true
is_term prod = true
is_term sign = true

-- what one language spells is spelled again by another
pub record Inside (I J : Forms) : Type 0 where
  pub line : (l : Line) → is_term l ≡ true → Backs (I.line l) (J.line l) same_term (λ t. term_writing t (tight l))
  pub quantifiers : (t : TermTree) (ts : List Token) → (I.line quantifier).Spells t ts → Lexed ts → Quantified (J.line quantifier) t
  pub ranges : Backs I.ranges J.ranges same_ranges ranges_words
  pub binds : Backs I.binds J.binds same_binds binds_words

pub back-arguments : {I J : Forms} → Inside I J → Backs (arguments I) (arguments J) same_terms terms_words
back-arguments d = back-made terms_of same_terms_of (λ v ts s. words-terms v) (back-listed (d.line term refl))

module _ (is_open is_open' : Bool) (inner inner' : Forms) (more : is_open ≡ true → is_open' ≡ true) (deeper : is_open ≡ true → Inside inner inner') where
  pub back-call : Backs (call is_open inner) (call is_open' inner') same_terms (λ a. codes "(" ∷ terms_words a ++ codes ")" ∷ [])
  back-call = back-bracketed (codes "(") is_open is_open' more (codes ")") refl refl (λ o. back-arguments (deeper o))

  back-bind : Inside inner inner' → Backs (bind is_open inner) (bind is_open' inner') same_bind bind_words
  back-bind d = back-made bind_of same_bind_of (λ v ts s. words-bind v)
      (back-then (back-word (λ k. same variable (mark_of k))) (back-after_sign (codes "=") refl (d.line term refl)))

  pub back-binds : Backs (binds is_open inner) (binds is_open' inner') same_binds binds_words
  back-binds = back-formed binds_of same_binds_of (λ s v ts h. words-binds s v)
      (back-bracketed (codes "(") is_open is_open' more (codes ")") refl refl (λ o. back-listed (back-bind (deeper o))))

  -- ---- quantifiers without their parentheses

  pub back_quantified : (t : TermTree) (ts : List Token) → (quantified is_open inner).Spells t ts → Lexed ts → Quantified (quantified is_open' inner') t
  back_quantified t ts (inl s) l = record {
    words = codes "forall" ∷ (ranges_words s.0.0 ++ codes "with" ∷ term_words s.0.1);
    whole = λ needed. ap (λ x. term_writing x needed) s.1 ∙ words-Forall needed s.0 _;
    back = back_left t
        (back_formed_to _ s.0 t (λ s' u h. subst (λ y. same_term (terms.Forall u.0 u.1 s') y) (sym s.1) (same_forall _ s' u s.0 h))
        ((back-opened (codes "forall") is_open is_open' more refl
        (λ o. back-then (deeper o).ranges (back-after_word (codes "with") refl ((deeper o).line term refl)))).at s.0 ts s.2 l));
  }
  back_quantified t ts (inr s) l = record {
    words = codes "exist" ∷ (if_there [] (λ t. codes "unique" ∷ []) s.0.0 ++ (ranges_words s.0.1.0 ++ codes "with" ∷ term_words s.0.1.1));
    whole = λ needed. ap (λ x. term_writing x needed) s.1 ∙ words-exist_of needed s.0 _;
    back = back_right t
        (back_formed_to exist_of s.0 t (λ s' u h. subst (λ y. same_term (exist_of s' u) y) (sym s.1) (same_exist_of _ s' u s.0 h))
        ((back-opened (codes "exist") is_open is_open' more refl
        (λ o. back-then (back-maybe (back-quoted (codes "unique") refl))
        (back-then (deeper o).ranges (back-after_word (codes "with") refl ((deeper o).line term refl))))).at s.0 ts s.2 l));
  }

  -- ---- primaries, where any tightness is needed

  module _ (needed : ℕ) where
    abbrev writing : TermTree → Words
    writing t = term_writing t needed

    pub back-plain : Backs (plain is_open inner) (plain is_open' inner') same_term writing
    back-plain =
        back-either (back-formed _ same_number (λ s v ts h. words-Number needed v s) (back-word (λ k. same number (mark_of k))))
        (back-either (back-formed _ same_chars (λ s v ts h. words-Chars needed v s) (back-word (λ k. same chars (mark_of k))))
        (back-either (back-formed _ (λ s s' u v h. same_true s s') (λ s v ts h. words-True needed s) (back-quoted (codes "true") refl))
        (back-either (back-formed _ (λ s s' u v h. same_false s s') (λ s v ts h. words-False needed s) (back-quoted (codes "false") refl))
        (back-either (back-formed _ (λ s s' u v h. same_undef s s') (λ s v ts h. words-Undef needed s) (back-quoted (codes "undef") refl))
        (back-formed _ same_var (λ s v ts h. words-Var needed v s) (back-word (λ k. same variable (mark_of k))))))))

    pub back-name : Backs (name is_open inner) (name is_open' inner') same_term writing
    back-name = back-formed _ same_name (λ s v ts h. words-Name needed v s) (back-then (back-word (λ k. same id (mark_of k))) (back-maybe back-call))

    pub back-set : Backs (set is_open inner) (set is_open' inner') same_term writing
    back-set = back-formed set_of same_set_of (λ s v ts h. words-set_of needed v s)
        (back-bracketed (codes "{") is_open is_open' more (codes "}") refl refl (λ o. back-maybe (back-members ((deeper o).line term refl))))

    pub back-sequence : Backs (sequence is_open inner) (sequence is_open' inner') same_term writing
    back-sequence = back-formed _ same_seq (λ s v ts h. words-Seq needed v s)
        (back-bracketed (codes "[") is_open is_open' more (codes "]") refl refl (λ o. back-maybe (back-arguments (deeper o))))

    pub back-if_term : Backs (if_term is_open inner) (if_term is_open' inner') same_term writing
    back-if_term = back-formed _ same_if_term (λ s v ts h. words-If needed v s)
        (back-enclosed (codes "if") is_open is_open' more (codes "endif") refl refl (λ o.
        back-then ((deeper o).line term refl) (back-then (back-after_word (codes "then") refl ((deeper o).line term refl))
        (back-maybe (back-after_word (codes "else") refl ((deeper o).line term refl))))))

    pub back-let_term : Backs (let_term is_open inner) (let_term is_open' inner') same_term writing
    back-let_term = back-formed _ same_let_term (λ s v ts h. words-Let needed v s)
        (back-enclosed (codes "let") is_open is_open' more (codes "endlet") refl refl (λ o.
        back-then (deeper o).binds (back-after_word (codes "in") refl ((deeper o).line term refl))))

    back-case : Inside inner inner' → Backs (case is_open inner) (case is_open' inner') same_case case_words
    back-case d = back-made case_of same_case_of (λ v ts s. words-case v)
        (back-after_word (codes "case") refl (back-then (d.line term refl) (back-after_sign (codes ":") refl (d.line term refl))))

    pub back-switch_term : Backs (switch_term is_open inner) (switch_term is_open' inner') same_term writing
    back-switch_term = back-formed _ same_switch_term (λ s v ts h. words-Switch needed v s)
        (back-enclosed (codes "switch") is_open is_open' more (codes "endswitch") refl refl (λ o.
        back-then ((deeper o).line term refl) (back-then (back-many (back-case (deeper o)))
        (back-maybe (back-after_word (codes "otherwise") refl ((deeper o).line term refl))))))
