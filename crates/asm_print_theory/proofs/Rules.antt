-- Rules are spelled again by their words.
use Rattle.std.proofs.Common.{◌≡◌, ℕ, zero, suc, Bool, true, List, [], ◌∷◌, ◌++◌, refl, ◌∙◌, subst, append-nil}
use Rattle.std.specs.Prelude.{codes, Option, Some, None}
use Rattle.asm_grammar.specs.Language.{Language, maybe, dangling}
use Rattle.asm_syntax.specs.declared.token.Token.{Token}
use Rattle.asm_syntax.specs.declared.tree.TermTree.{TermTree}
use Rattle.asm_syntax.specs.declared.tree.TermsTree.{TermsTree}
use Rattle.asm_syntax.specs.declared.tree.RuleTree.{RuleTree}
use Rattle.asm_syntax.specs.Marks.{mark_of, same, id, variable}
use Rattle.asm_syntax.specs.Forms.{is_open, after_word}
use Rattle.asm_syntax.specs.Heights.{fits}
use Rattle.asm_syntax.specs.Terms.{Forms, term}
use Rattle.asm_syntax.specs.Terms as t
use Rattle.asm_syntax.specs.Rules.{is_closed, Calls, Updates, use_of, choose_of, extend_of, case_of, skip, call_or_update, par_rule, seq_rule, if_rule, forall, choose_rule, let_rule, case, switch_rule, extend_rule, rule_form, inside, rule_within}
use Rattle.asm_syntax.specs.Written.{Words, if_there, term_words, terms_words}
use Rattle.asm_syntax.specs.Canonical.{rule_words}
use Rattle.asm_print_theory.proofs.Propers.{Lexed, lexed_parts}
use Rattle.asm_print_theory.proofs.Back.{Back, Backs, both, in_option, back-word, back-then, back_then_at, back-either, back-made, back-formed, back-maybe, back_on, back_as}
use Rattle.asm_print_theory.proofs.Rows.{back-quoted, back-after_word, back-after_sign, back-opened, back-enclosed, back-bracketed, back-many, back-listed}
use Rattle.asm_print_theory.proofs.Domains.{within_same}
use Rattle.asm_print_theory.proofs.Same.{same_term, same_terms}
use Rattle.asm_print_theory.proofs.Prims.{Inside, back-arguments, back-call}
use Rattle.asm_print_theory.proofs.Terms.{kept, back-term}
use Rattle.asm_print_theory.proofs.RulePhrases.{same_rule, same_rule_case, rule_case_words, same_use, use_words, same_skip, same_use_of, same_par_rule, same_seq_rule, same_if_rule, same_forall, same_choose_rule, same_let_rule, same_switch_rule, same_extend_rule, same_case_of, words-skip, words-use_of, words-par_rule, words-seq_rule, words-if_rule, words-forall, words-choose_rule, words-let_rule, words-switch_rule, words-extend_rule, words-case}

-- ---- a body, and what may follow it

module _ {V W : Type 0} (closed : V → Bool) {B B' : Language Token V} {M M' : Language Token W} {same_body : V → V → Type 0} {same_next : W → W → Type 0}
    {words : V → Words} {next : W → Words} (stays : (u v : V) → same_body u v → closed v ≡ true → closed u ≡ true)
    (f : Backs B B' same_body words) (g : Backs M M' same_next next) where
  pub back-dangling : Backs (dangling closed B M) (dangling closed B' M') (both same_body (in_option same_next)) (λ v. words v.0 ++ if_there [] next v.1)
  back-dangling = record { at = go }
    where
      go : (v : V × Option W) (ts : List Token) → (dangling closed B M).Spells v ts → Lexed ts
          → Back (both same_body (in_option same_next)) (words v.0 ++ if_there [] next v.1) (dangling closed B' M') v
      go (v, None) ts s l =
          back_as (append-nil (words v)) (back_on v (v, None) (λ u us h q. ((u, None), (h, tt), q)) (f.at v ts s l))
      go (v, Some w) ts s l =
          let ls = lexed_parts s.0 s.1 (subst (λ (z : List Token). Lexed z) s.2 l) in
          back_on (v, w) (v, Some w) (λ u us h q. ((u.0, Some u.1), h, (q.0, q.1, q.2, stays u.0 v h.0 s.3, q.3, q.4)))
          (back_then_at v w (f.at v s.0 s.4 ls.0) (g.at w s.1 s.5 ls.1))

-- ---- the forms

module _ (is_open : Bool) (value : Language Token TermTree) (call : Language Token TermsTree) (inner : Forms) (rule : Language Token RuleTree)
    (values : Backs value value same_term term_words) (calls : Backs call call same_terms (λ a. codes "(" ∷ terms_words a ++ codes ")" ∷ []))
    (deeper : is_open ≡ true → Inside inner inner) (bodies : is_open ≡ true → Backs rule rule same_rule rule_words) where
  abbrev Again : Language Token RuleTree → Type 0
  Again L = Backs L L same_rule rule_words

  more : is_open ≡ true → is_open ≡ true
  more o = o

  back-skip : Again (skip is_open value call inner rule)
  back-skip = back-formed _ (λ s s' u v h. same_skip s s') (λ s v ts h. words-skip s) (back-quoted (codes "skip") refl)

  back-call_or_update : Again (call_or_update is_open value call inner rule)
  back-call_or_update = back-formed use_of same_use_of (λ s v ts h. words-use_of s v)
      (back-then (back-word (λ k. same id (mark_of k)))
      (back-either {same = same_use} {words = use_words}
      (back-made Calls (λ u v h. h) (λ v ts s. refl)
      (back-bracketed (codes "[") is_open is_open more (codes "]") refl refl (λ o. back-maybe (back-arguments (deeper o)))))
      (back-made Updates (λ u v h. h) (λ v ts s. refl) (back-then (back-maybe calls) (back-after_sign (codes ":=") refl values)))))

  back-par_rule : Again (par_rule is_open value call inner rule)
  back-par_rule = back-formed _ same_par_rule (λ s v ts h. words-par_rule s v)
      (back-enclosed (codes "par") is_open is_open more (codes "endpar") refl refl (λ o. back-then (bodies o) (back-many (bodies o))))

  back-seq_rule : Again (seq_rule is_open value call inner rule)
  back-seq_rule = back-formed _ same_seq_rule (λ s v ts h. words-seq_rule s v)
      (back-enclosed (codes "seq") is_open is_open more (codes "endseq") refl refl (λ o. back-then (bodies o) (back-many (bodies o))))

  back-if_rule : Again (if_rule is_open value call inner rule)
  back-if_rule = back-formed _ same_if_rule (λ s v ts h. words-if_rule s v)
      (back-enclosed (codes "if") is_open is_open more (codes "endif") refl refl (λ o.
      back-then ((deeper o).line term refl) (back-then (back-after_word (codes "then") refl (bodies o))
      (back-maybe (back-after_word (codes "else") refl (bodies o))))))

  abbrev guard : Language Token (Option TermTree)
  guard = maybe (after_word (codes "with") (inner.line term))

  back-guard : Inside inner inner → Backs guard guard (in_option same_term) (if_there [] (λ t. codes "with" ∷ term_words t))
  back-guard d = back-maybe (back-after_word (codes "with") refl (d.line term refl))

  back-forall : Again (forall is_open value call inner rule)
  back-forall = back-formed _ same_forall (λ s v ts h. words-forall s v)
      (back-opened (codes "forall") is_open is_open more refl (λ o.
      back-then (deeper o).ranges (back-then (back-guard (deeper o)) (back-after_word (codes "do") refl (bodies o)))))

  back-choose_rule : Again (choose_rule is_open value call inner rule)
  back-choose_rule = back-formed choose_of same_choose_rule (λ s v ts h. words-choose_rule s v)
      (back-opened (codes "choose") is_open is_open more refl (λ o.
      back-then (deeper o).ranges (back-then (back-guard (deeper o)) (back-after_word (codes "do") refl
      (back-dangling is_closed (λ u v h c. h.1 ∙ c) (bodies o) (back-after_word (codes "ifnone") refl (bodies o)))))))

  back-let_rule : Again (let_rule is_open value call inner rule)
  back-let_rule = back-formed _ same_let_rule (λ s v ts h. words-let_rule s v)
      (back-enclosed (codes "let") is_open is_open more (codes "endlet") refl refl (λ o.
      back-then (deeper o).binds (back-after_word (codes "in") refl (bodies o))))

  back-case : Inside inner inner → Again rule → Backs (case is_open value call inner rule) (case is_open value call inner rule) same_rule_case rule_case_words
  back-case d b = back-made case_of same_case_of (λ v ts s. words-case v)
      (back-after_word (codes "case") refl (back-then (d.line term refl) (back-after_sign (codes ":") refl b)))

  back-switch_rule : Again (switch_rule is_open value call inner rule)
  back-switch_rule = back-formed _ same_switch_rule (λ s v ts h. words-switch_rule s v)
      (back-enclosed (codes "switch") is_open is_open more (codes "endswitch") refl refl (λ o.
      back-then ((deeper o).line term refl) (back-then (back-many (back-case (deeper o) (bodies o)))
      (back-maybe (back-after_word (codes "otherwise") refl (bodies o))))))

  back-extend_rule : Again (extend_rule is_open value call inner rule)
  back-extend_rule = back-formed extend_of same_extend_rule (λ s v ts h. words-extend_rule s v)
      (back-opened (codes "extend") is_open is_open more refl (λ o.
      back-then (back-word (λ k. same id (mark_of k))) (back-after_word (codes "with") refl
      (back-then (back-listed (back-word (λ k. same variable (mark_of k)))) (back-after_word (codes "do") refl (bodies o))))))

  pub back-rule_form : Again (rule_form is_open value call inner rule)
  back-rule_form =
      back-either back-skip (back-either back-call_or_update (back-either back-par_rule (back-either back-seq_rule (back-either back-if_rule
      (back-either back-forall (back-either back-choose_rule (back-either back-let_rule (back-either back-switch_rule back-extend_rule))))))))

-- ---- how many constructs may be open

back-inside : (n : ℕ) → Backs (inside fits n) (inside fits n) same_rule rule_words
unfolding inside
back-inside zero = record { at = λ v ts s l. absurd s }
back-inside (suc n) =
    back-rule_form (is_open n) (t.term_within fits n) (t.call (is_open n) (t.inside fits n)) (t.inside fits n) (inside fits n) (back-term n)
    (back-call (is_open n) (is_open n) (t.inside fits n) (t.inside fits n) (λ o. o) (λ o. (kept n n (within_same n)).again))
    (λ o. (kept n n (within_same n)).again) (λ o. back-inside n)

pub back-rule : (n : ℕ) → Backs (rule_within fits n) (rule_within fits n) same_rule rule_words
unfolding rule_within
back-rule n =
    back-rule_form (is_open n) (t.term_within fits n) (t.call (is_open n) (t.inside fits n)) (t.inside fits n) (inside fits n) (back-term n)
    (back-call (is_open n) (is_open n) (t.inside fits n) (t.inside fits n) (λ o. o) (λ o. (kept n n (within_same n)).again))
    (λ o. (kept n n (within_same n)).again) (λ o. back-inside n)
