-- Texts that grow by the words of terms, step by step.
use Rattle.std.proofs.Common.{◌≡◌, ℕ, ◌+◌, ◌<◌, ◌≤◌, List, [], ◌∷◌, ◌++◌, length, drop, get_or, codes, Option, None, Some, Bool, true, false, nat_lt, refl, sym, ap, ◌∙◌, if◌then◌else◌}
use Rattle.std.proofs.lemmas.List.{drop_all, drop_more}
use Rattle.asm_syntax.specs.declared.tree.RangesTree.{RangesTree}
use Rattle.asm_syntax.specs.declared.tree.TermTree.{TermTree}
use Rattle.asm_syntax.specs.declared.tree.TermTree.TheViews.{out-TermsTree, out-BindsTree, out-BindTree, out-CaseTree, the_lemmas}
use Rattle.asm_syntax.specs.declared.tree.TermsTree.{TermsTree}
use Rattle.asm_syntax.specs.declared.tree.BindTree.{BindTree}
use Rattle.asm_syntax.specs.declared.tree.BindsTree.{BindsTree}
use Rattle.asm_syntax.specs.declared.tree.CaseTree.{CaseTree}
use Rattle.asm_syntax.specs.Written.{Words, Tightness, comma, word_of, ranges_words, binary_tightness, left_tightness, right_tightness, prefix_tightness, term_writing, terms_words, binds_words}
use Rattle.asm_print_terms.specs.declared.writer.Writer.{Writer}
use Rattle.asm_print_terms.specs.Lines.{with_word, with_words}
use Rattle.asm_print_terms.specs.Parts.{bind_words, case_words, prefix_words, left_words, right_words, binary_words, led_words, enclosed_words, rest_words, more_terms_words, more_binds_words, cases_words, tuple_words, args_words, items_words, quantified_rest, forall_words, exist_words, interval_words, if_term_words, let_words, let_term_words, switch_term_words}
use Rattle.asm_print_terms.proofs.Words.{with_words-append}
use Rattle.asm_print_terms.proofs.TermWords.{term_writing-out, terms_words-out, bind_words-out, binds_words-out, case_words-out}

-- a word that is there in one case
abbrev only_if : Bool → List ℕ → Words
only_if b word = if b then word ∷ [] else []

in_parentheses : (b : Bool) (w : Writer) (words : Words)
    → with_words w (if b then codes "(" ∷ words ++ codes ")" ∷ [] else words) ≡ with_words (with_words (with_words w (only_if b (codes "("))) words) (only_if b (codes ")"))
in_parentheses true w words = simp with_words-append
in_parentheses false w words = refl

pub writes_prefix : (w : Writer) (op : List ℕ) (t : TermTree) (needed : Tightness)
    → with_words w (prefix_words op t needed)
    ≡ with_words (with_words (with_word (with_words w (only_if (nat_lt (prefix_tightness op) needed) (codes "("))) op) (term_writing t (prefix_tightness op)))
    (only_if (nat_lt (prefix_tightness op) needed) (codes ")"))
unfolding prefix_words
writes_prefix w op t needed = in_parentheses (nat_lt (prefix_tightness op) needed) w (op ∷ term_writing t (prefix_tightness op))

pub writes_left : (w : Writer) (operand : TermTree) (own needed : Tightness)
    → with_words w (left_words operand own needed) ≡ with_words (with_words w (only_if (nat_lt own needed) (codes "("))) (term_writing operand (left_tightness own))
unfolding left_words
writes_left w operand own needed = with_words-append w (only_if (nat_lt own needed) (codes "(")) (term_writing operand (left_tightness own))

pub writes_right : (w : Writer) (op : List ℕ) (operand : TermTree) (own needed : Tightness)
    → with_words w (right_words op operand own needed)
    ≡ with_words (with_words (with_word w op) (term_writing operand (right_tightness own))) (only_if (nat_lt own needed) (codes ")"))
unfolding right_words
writes_right w op operand own needed = with_words-append (with_word w op) (term_writing operand (right_tightness own)) (only_if (nat_lt own needed) (codes ")"))

pub writes_binary : (w : Writer) (left : TermTree) (op : List ℕ) (right : TermTree) (needed : Tightness)
    → with_words w (binary_words left op right needed)
    ≡ with_words (with_words w (left_words left (binary_tightness op) needed)) (right_words op right (binary_tightness op) needed)
unfolding binary_words
writes_binary w left op right needed =
    in_parentheses (nat_lt (binary_tightness op) needed) w (term_writing left (left_tightness (binary_tightness op)) ++ op ∷ term_writing right (right_tightness (binary_tightness op)))
    ∙ ap (λ v. with_words v (only_if (nat_lt (binary_tightness op) needed) (codes ")")))
    (with_words-append (with_words w (only_if (nat_lt (binary_tightness op) needed) (codes "("))) (term_writing left (left_tightness (binary_tightness op)))
    (op ∷ term_writing right (right_tightness (binary_tightness op))))
    ∙ sym (writes_right (with_words (with_words w (only_if (nat_lt (binary_tightness op) needed) (codes "("))) (term_writing left (left_tightness (binary_tightness op)))) op right (binary_tightness op) needed)
    ∙ ap (λ v. with_words v (right_words op right (binary_tightness op) needed)) (sym (writes_left w left (binary_tightness op) needed))

module _ (w : Writer) where
  pub writes_led : (word : List ℕ) (t : TermTree) → with_words w (led_words word t) ≡ with_words (with_word w word) (term_writing t 0)
  unfolding led_words
  writes_led word t = refl

  pub writes_enclosed : (word : List ℕ) (t : TermTree) (last : List ℕ) → with_words w (enclosed_words word t last) ≡ with_word (with_words w (led_words word t)) last
  unfolding enclosed_words led_words
  writes_enclosed word t last = with_words-append (with_word w word) (term_writing t 0) (last ∷ [])

  pub writes_rest_none : (word last : List ℕ) → with_words w (rest_words word None last) ≡ with_word w last
  unfolding rest_words
  writes_rest_none word last = refl

  pub writes_rest_some : (word : List ℕ) (t : TermTree) (last : List ℕ) → with_words w (rest_words word (Some t) last) ≡ with_words w (enclosed_words word t last)
  unfolding rest_words enclosed_words
  writes_rest_some word t last = refl

  pub writes_terms : (t : TermsTree) → with_words w (terms_words t) ≡ with_words (with_words w (term_writing (out-TermsTree t).first 0)) (more_terms_words (out-TermsTree t).others)
  writes_terms t = ap (with_words w) (terms_words-out t) ∙ with_words-append w (term_writing (out-TermsTree t).first 0) (more_terms_words (out-TermsTree t).others)

  pub writes_tuple : (items : TermsTree) → with_words w (tuple_words items) ≡ with_word (with_words (with_word w (codes "(")) (terms_words items)) (codes ")")
  unfolding tuple_words
  writes_tuple items = simp with_words-append

  pub writes_args_none : with_words w (args_words None) ≡ w
  unfolding args_words
  writes_args_none = refl

  pub writes_args_some : (args : TermsTree) → with_words w (args_words (Some args)) ≡ with_words w (tuple_words args)
  unfolding args_words
  writes_args_some args = refl

  pub writes_items_none : (first last : List ℕ) → with_words w (items_words first None last) ≡ with_word (with_word w first) last
  unfolding items_words
  writes_items_none first last = refl

  pub writes_items_some : (first : List ℕ) (items : TermsTree) (last : List ℕ)
      → with_words w (items_words first (Some items) last) ≡ with_word (with_words (with_word w first) (terms_words items)) last
  unfolding items_words
  writes_items_some first items last = with_words-append (with_word w first) (terms_words items) (last ∷ [])

  pub writes_quantified : (ranges : RangesTree) (body : TermTree)
      → with_words w (quantified_rest ranges body) ≡ with_words (with_words w (ranges_words ranges)) (enclosed_words (codes "with") body (codes ")"))
  unfolding quantified_rest
  writes_quantified ranges body = with_words-append w (ranges_words ranges) (enclosed_words (codes "with") body (codes ")"))

  pub writes_forall : (ranges : RangesTree) (body : TermTree)
      → with_words w (forall_words ranges body) ≡ with_words (with_word (with_word w (codes "(")) (codes "forall")) (quantified_rest ranges body)
  unfolding forall_words
  writes_forall ranges body = refl

  pub writes_exist : (unique : Bool) (ranges : RangesTree) (body : TermTree)
      → with_words w (exist_words unique ranges body)
      ≡ with_words (with_words (with_word (with_word w (codes "(")) (codes "exist")) (only_if unique (codes "unique"))) (quantified_rest ranges body)
  unfolding exist_words
  writes_exist true ranges body = refl
  writes_exist false ranges body = refl

  pub writes_interval : (from to : TermTree)
      → with_words w (interval_words from to) ≡ with_words (with_words w (led_words (codes "{") from)) (enclosed_words (codes "..") to (codes "}"))
  unfolding interval_words
  writes_interval from to = simp with_words-append

  pub writes_if_term : (guard first : TermTree) (other : Option TermTree)
      → with_words w (if_term_words guard first other)
      ≡ with_words (with_words (with_words w (led_words (codes "if") guard)) (led_words (codes "then") first)) (rest_words (codes "else") other (codes "endif"))
  unfolding if_term_words
  writes_if_term guard first other = simp with_words-append

  pub writes_let : (binds : BindsTree) → with_words w (let_words binds) ≡ with_words (with_word w (codes "let")) (binds_words binds)
  unfolding let_words
  writes_let binds = refl

  pub writes_let_term : (binds : BindsTree) (body : TermTree)
      → with_words w (let_term_words binds body) ≡ with_words (with_words w (let_words binds)) (enclosed_words (codes "in") body (codes "endlet"))
  unfolding let_term_words
  writes_let_term binds body = simp with_words-append

  pub writes_switch_term : (t : TermTree) (cases : List CaseTree) (other : Option TermTree)
      → with_words w (switch_term_words t cases other)
      ≡ with_words (with_words (with_words w (led_words (codes "switch") t)) (cases_words cases)) (rest_words (codes "otherwise") other (codes "endswitch"))
  unfolding switch_term_words
  writes_switch_term t cases other = simp with_words-append

  pub writes_bind : (b : BindTree) → with_words w (bind_words b) ≡ with_words (with_word w (word_of (out-BindTree b).variable)) (led_words (codes "=") (out-BindTree b).value)
  writes_bind b = ap (with_words w) (bind_words-out b)

  binds_parts : (xs ys : Words) → with_words w (codes "(" ∷ xs ++ ys ++ codes ")" ∷ []) ≡ with_word (with_words (with_words (with_word w (codes "(")) xs) ys) (codes ")")
  binds_parts xs ys = simp with_words-append

  pub writes_binds : (b : BindsTree)
      → with_words w (binds_words b)
      ≡ with_word (with_words (with_words (with_word w (codes "(")) (bind_words (out-BindsTree b).first)) (more_binds_words (out-BindsTree b).others)) (codes ")")
  writes_binds b = ap (with_words w) (binds_words-out b) ∙ binds_parts (bind_words (out-BindsTree b).first) (more_binds_words (out-BindsTree b).others)

  -- ---- one more of a list

  pub more_terms-drop : (ts : List TermTree) (i : ℕ) (d : TermTree) → i < length ts
      → with_words w (more_terms_words (drop i ts)) ≡ with_words (with_words w (led_words comma (get_or ts i d))) (more_terms_words (drop (i + 1) ts))
  unfolding more_terms_words led_words
  more_terms-drop ts i d h =
      ap (λ us. with_words w (more_terms_words us)) (drop_more ts i d h)
      ∙ with_words-append w (led_words comma (get_or ts i d)) (more_terms_words (drop (i + 1) ts))

  pub more_terms-end : (ts : List TermTree) (i : ℕ) → length ts ≤ i → with_words w (more_terms_words (drop i ts)) ≡ w
  unfolding more_terms_words
  more_terms-end ts i h = ap (λ us. with_words w (more_terms_words us)) (drop_all i ts h)

  pub more_binds-drop : (bs : List BindTree) (i : ℕ) (d : BindTree) → i < length bs
      → with_words w (more_binds_words (drop i bs)) ≡ with_words (with_words (with_word w comma) (bind_words (get_or bs i d))) (more_binds_words (drop (i + 1) bs))
  unfolding more_binds_words
  more_binds-drop bs i d h =
      ap (λ us. with_words w (more_binds_words us)) (drop_more bs i d h)
      ∙ with_words-append (with_word w comma) (bind_words (get_or bs i d)) (more_binds_words (drop (i + 1) bs))

  pub more_binds-end : (bs : List BindTree) (i : ℕ) → length bs ≤ i → with_words w (more_binds_words (drop i bs)) ≡ w
  unfolding more_binds_words
  more_binds-end bs i h = ap (λ us. with_words w (more_binds_words us)) (drop_all i bs h)

  writes_case : (c : CaseTree) → with_words w (case_words c) ≡ with_words (with_words w (led_words (codes "case") (out-CaseTree c).value)) (led_words (codes ":") (out-CaseTree c).term)
  writes_case c = ap (with_words w) (case_words-out c) ∙ with_words-append w (led_words (codes "case") (out-CaseTree c).value) (led_words (codes ":") (out-CaseTree c).term)

  pub cases-drop : (cs : List CaseTree) (i : ℕ) (d : CaseTree) → i < length cs
      → with_words w (cases_words (drop i cs))
      ≡ with_words (with_words (with_words w (led_words (codes "case") (out-CaseTree (get_or cs i d)).value)) (led_words (codes ":") (out-CaseTree (get_or cs i d)).term))
      (cases_words (drop (i + 1) cs))
  unfolding cases_words
  cases-drop cs i d h =
      ap (λ us. with_words w (cases_words us)) (drop_more cs i d h)
      ∙ with_words-append w (case_words (get_or cs i d)) (cases_words (drop (i + 1) cs))
      ∙ ap (λ v. with_words v (cases_words (drop (i + 1) cs))) (writes_case (get_or cs i d))

  pub cases-end : (cs : List CaseTree) (i : ℕ) → length cs ≤ i → with_words w (cases_words (drop i cs)) ≡ w
  unfolding cases_words
  cases-end cs i h = ap (λ us. with_words w (cases_words us)) (drop_all i cs h)

pub ruleset term_steps = (term_writing-out, writes_binary, writes_interval, writes_if_term, writes_let_term, writes_switch_term, the_lemmas)

pub ruleset left_steps = (writes_left, the_lemmas)

pub ruleset right_steps = (writes_right, the_lemmas)

pub ruleset forall_steps = (writes_forall, the_lemmas)

pub ruleset let_steps = (writes_let, the_lemmas)

pub ruleset prefix_steps = (writes_prefix, the_lemmas)

pub ruleset led_steps = (writes_led, the_lemmas)

pub ruleset enclosed_steps = (writes_enclosed, the_lemmas)

pub ruleset rest_steps = (writes_rest_none, writes_rest_some, the_lemmas)

pub ruleset more_terms_steps = (more_terms-drop, more_terms-end, the_lemmas)

pub ruleset terms_steps = (writes_terms, the_lemmas)

pub ruleset tuple_steps = (writes_tuple, the_lemmas)

pub ruleset name_steps = (writes_args_none, writes_args_some, the_lemmas)

pub ruleset items_steps = (writes_items_none, writes_items_some, the_lemmas)

pub ruleset quantified_steps = (writes_quantified, the_lemmas)

pub ruleset exist_steps = (writes_exist, the_lemmas)

pub ruleset bind_steps = (writes_bind, the_lemmas)

pub ruleset more_binds_steps = (more_binds-drop, more_binds-end, the_lemmas)

pub ruleset binds_steps = (writes_binds, the_lemmas)

pub ruleset cases_steps = (cases-drop, cases-end, the_lemmas)
