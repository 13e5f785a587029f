-- Texts that grow by the words of rules, step by step.
use Rattle.std.proofs.Common.{◌≡◌, ℕ, ◌+◌, ◌<◌, ◌≤◌, List, [], ◌∷◌, length, drop, get_or, codes, Option, None, Some, refl, ap, ◌∙◌}
use Rattle.std.proofs.lemmas.List.{drop_all, drop_more}
use Rattle.asm_syntax.specs.declared.token.Token.{Token}
use Rattle.asm_syntax.specs.declared.tree.RangesTree.{RangesTree}
use Rattle.asm_syntax.specs.declared.tree.TermTree.{TermTree}
use Rattle.asm_syntax.specs.declared.tree.TermsTree.{TermsTree}
use Rattle.asm_syntax.specs.declared.tree.BindsTree.{BindsTree}
use Rattle.asm_syntax.specs.declared.tree.RuleTree.{RuleTree}
use Rattle.asm_syntax.specs.declared.tree.RuleTree.TheViews.{out-RuleCaseTree, the_lemmas}
use Rattle.asm_syntax.specs.declared.tree.RuleCaseTree.{RuleCaseTree}
use Rattle.asm_syntax.specs.Written.{after_each, single, comma, word_of, ranges_words}
use Rattle.asm_syntax.specs.Canonical.{guard_words, rule_words}
use Rattle.asm_print_terms.specs.declared.writer.Writer.{Writer}
use Rattle.asm_print_terms.specs.Lines.{with_word, with_words}
use Rattle.asm_print_terms.specs.Parts.{led_words, args_words, items_words, let_words}
use Rattle.asm_print.specs.RuleParts.{rule_case_words, led_rule_words, enclosed_rule_words, other_rule_words, rest_rule_words, rules_words, rule_cases_words, last_rules_words, quantifier_words, extend_head, call_rule_words, update_rule_words, par_rule_words, seq_rule_words, if_rule_words, forall_rule_words, choose_rule_words, let_rule_words, switch_rule_words, extend_rule_words}
use Rattle.asm_print_terms.proofs.Words.{with_words-append}
use Rattle.asm_print.proofs.RuleWords.{rule_words-out, rule_case_words-out}

module _ (w : Writer) where
  pub writes_led_rule : (word : List ℕ) (r : RuleTree) → with_words w (led_rule_words word r) ≡ with_words (with_word w word) (rule_words r)
  unfolding led_rule_words
  writes_led_rule word r = refl

  pub writes_enclosed_rule : (word : List ℕ) (r : RuleTree) (last : List ℕ)
      → with_words w (enclosed_rule_words word r last) ≡ with_word (with_words w (led_rule_words word r)) last
  unfolding enclosed_rule_words led_rule_words
  writes_enclosed_rule word r last = with_words-append (with_word w word) (rule_words r) (last ∷ [])

  pub writes_other_rule_none : (word : List ℕ) → with_words w (other_rule_words word None) ≡ w
  unfolding other_rule_words
  writes_other_rule_none word = refl

  pub writes_other_rule_some : (word : List ℕ) (r : RuleTree) → with_words w (other_rule_words word (Some r)) ≡ with_words w (led_rule_words word r)
  unfolding other_rule_words led_rule_words
  writes_other_rule_some word r = refl

  pub writes_rest_rule_none : (word last : List ℕ) → with_words w (rest_rule_words word None last) ≡ with_word w last
  unfolding rest_rule_words
  writes_rest_rule_none word last = refl

  pub writes_rest_rule_some : (word : List ℕ) (r : RuleTree) (last : List ℕ)
      → with_words w (rest_rule_words word (Some r) last) ≡ with_words w (enclosed_rule_words word r last)
  unfolding rest_rule_words enclosed_rule_words
  writes_rest_rule_some word r last = refl

  pub writes_quantifier : (word : List ℕ) (ranges : RangesTree) (guard : Option TermTree)
      → with_words w (quantifier_words word ranges guard) ≡ with_words (with_words (with_word w word) (ranges_words ranges)) (guard_words guard)
  unfolding quantifier_words
  writes_quantifier word ranges guard = with_words-append (with_word w word) (ranges_words ranges) (guard_words guard)

  pub writes_guard_some : (guard : TermTree) → with_words w (guard_words (Some guard)) ≡ with_words w (led_words (codes "with") guard)
  unfolding led_words
  writes_guard_some guard = refl

  pub writes_extend_head : (name first : Token) (others : List Token)
      → with_words w (extend_head name first others)
      ≡ with_words (with_word (with_word (with_word (with_word w (codes "extend")) (word_of name)) (codes "with")) (word_of first)) (after_each comma single others)
  unfolding extend_head
  writes_extend_head name first others = refl

  pub writes_last_rules : (rs : List RuleTree) (last : List ℕ) → with_words w (last_rules_words rs last) ≡ with_word (with_words w (rules_words rs)) last
  unfolding last_rules_words
  writes_last_rules rs last = with_words-append w (rules_words rs) (last ∷ [])

  pub writes_call_rule : (name : Token) (args : Option TermsTree)
      → with_words w (call_rule_words name args) ≡ with_words (with_word w (word_of name)) (items_words (codes "[") args (codes "]"))
  unfolding call_rule_words
  writes_call_rule name args = refl

  pub writes_update_rule : (name : Token) (args : Option TermsTree) (value : TermTree)
      → with_words w (update_rule_words name args value) ≡ with_words (with_words (with_word w (word_of name)) (args_words args)) (led_words (codes ":=") value)
  unfolding update_rule_words
  writes_update_rule name args value = with_words-append (with_word w (word_of name)) (args_words args) (led_words (codes ":=") value)

  pub writes_par_rule : (first : RuleTree) (others : List RuleTree)
      → with_words w (par_rule_words first others) ≡ with_words (with_words w (led_rule_words (codes "par") first)) (last_rules_words others (codes "endpar"))
  unfolding par_rule_words
  writes_par_rule first others = with_words-append w (led_rule_words (codes "par") first) (last_rules_words others (codes "endpar"))

  pub writes_seq_rule : (first : RuleTree) (others : List RuleTree)
      → with_words w (seq_rule_words first others) ≡ with_words (with_words w (led_rule_words (codes "seq") first)) (last_rules_words others (codes "endseq"))
  unfolding seq_rule_words
  writes_seq_rule first others = with_words-append w (led_rule_words (codes "seq") first) (last_rules_words others (codes "endseq"))

  pub writes_if_rule : (guard : TermTree) (first : RuleTree) (other : Option RuleTree)
      → with_words w (if_rule_words guard first other)
      ≡ with_words (with_words (with_words w (led_words (codes "if") guard)) (led_rule_words (codes "then") first)) (rest_rule_words (codes "else") other (codes "endif"))
  unfolding if_rule_words
  writes_if_rule guard first other = simp with_words-append

  pub writes_forall_rule : (ranges : RangesTree) (guard : Option TermTree) (body : RuleTree)
      → with_words w (forall_rule_words ranges guard body) ≡ with_words (with_words w (quantifier_words (codes "forall") ranges guard)) (led_rule_words (codes "do") body)
  unfolding forall_rule_words
  writes_forall_rule ranges guard body = simp with_words-append

  pub writes_choose_rule : (ranges : RangesTree) (guard : Option TermTree) (body : RuleTree) (other : Option RuleTree)
      → with_words w (choose_rule_words ranges guard body other)
      ≡ with_words (with_words (with_words w (quantifier_words (codes "choose") ranges guard)) (led_rule_words (codes "do") body)) (other_rule_words (codes "ifnone") other)
  unfolding choose_rule_words
  writes_choose_rule ranges guard body other = simp with_words-append

  pub writes_let_rule : (binds : BindsTree) (body : RuleTree)
      → with_words w (let_rule_words binds body) ≡ with_words (with_words w (let_words binds)) (enclosed_rule_words (codes "in") body (codes "endlet"))
  unfolding let_rule_words
  writes_let_rule binds body = simp with_words-append

  pub writes_switch_rule : (value : TermTree) (cases : List RuleCaseTree) (other : Option RuleTree)
      → with_words w (switch_rule_words value cases other)
      ≡ with_words (with_words (with_words w (led_words (codes "switch") value)) (rule_cases_words cases)) (rest_rule_words (codes "otherwise") other (codes "endswitch"))
  unfolding switch_rule_words
  writes_switch_rule value cases other = simp with_words-append

  pub writes_extend_rule : (name first : Token) (others : List Token) (body : RuleTree)
      → with_words w (extend_rule_words name first others body) ≡ with_words (with_words w (extend_head name first others)) (led_rule_words (codes "do") body)
  unfolding extend_rule_words
  writes_extend_rule name first others body = simp with_words-append

  -- ---- one more of a list

  pub rules-drop : (rs : List RuleTree) (i : ℕ) (d : RuleTree) → i < length rs
      → with_words w (rules_words (drop i rs)) ≡ with_words (with_words w (rule_words (get_or rs i d))) (rules_words (drop (i + 1) rs))
  unfolding rules_words
  rules-drop rs i d h =
      ap (λ us. with_words w (rules_words us)) (drop_more rs i d h) ∙ with_words-append w (rule_words (get_or rs i d)) (rules_words (drop (i + 1) rs))

  pub rules-end : (rs : List RuleTree) (i : ℕ) → length rs ≤ i → with_words w (rules_words (drop i rs)) ≡ w
  unfolding rules_words
  rules-end rs i h = ap (λ us. with_words w (rules_words us)) (drop_all i rs h)

  writes_rule_case : (c : RuleCaseTree)
      → with_words w (rule_case_words c) ≡ with_words (with_words w (led_words (codes "case") (out-RuleCaseTree c).value)) (led_rule_words (codes ":") (out-RuleCaseTree c).rule)
  writes_rule_case c =
      ap (with_words w) (rule_case_words-out c) ∙ with_words-append w (led_words (codes "case") (out-RuleCaseTree c).value) (led_rule_words (codes ":") (out-RuleCaseTree c).rule)

  pub rule_cases-drop : (cs : List RuleCaseTree) (i : ℕ) (d : RuleCaseTree) → i < length cs
      → with_words w (rule_cases_words (drop i cs))
      ≡ with_words
      (with_words (with_words w (led_words (codes "case") (out-RuleCaseTree (get_or cs i d)).value)) (led_rule_words (codes ":") (out-RuleCaseTree (get_or cs i d)).rule))
      (rule_cases_words (drop (i + 1) cs))
  unfolding rule_cases_words
  rule_cases-drop cs i d h =
      ap (λ us. with_words w (rule_cases_words us)) (drop_more cs i d h)
      ∙ with_words-append w (rule_case_words (get_or cs i d)) (rule_cases_words (drop (i + 1) cs))
      ∙ ap (λ v. with_words v (rule_cases_words (drop (i + 1) cs))) (writes_rule_case (get_or cs i d))

  pub rule_cases-end : (cs : List RuleCaseTree) (i : ℕ) → length cs ≤ i → with_words w (rule_cases_words (drop i cs)) ≡ w
  unfolding rule_cases_words
  rule_cases-end cs i h = ap (λ us. with_words w (rule_cases_words us)) (drop_all i cs h)

pub ruleset rule_steps = (
  rule_words-out,
  writes_par_rule,
  writes_seq_rule,
  writes_if_rule,
  writes_forall_rule,
  writes_choose_rule,
  writes_let_rule,
  writes_switch_rule,
  writes_extend_rule,
  the_lemmas,
)

pub ruleset call_steps = (writes_call_rule)

pub ruleset update_steps = (writes_update_rule)

pub ruleset last_rules_steps = (writes_last_rules, the_lemmas)

pub ruleset led_rule_steps = (writes_led_rule, the_lemmas)

pub ruleset enclosed_rule_steps = (writes_enclosed_rule, the_lemmas)

pub ruleset other_rule_steps = (writes_other_rule_none, writes_other_rule_some, the_lemmas)

pub ruleset rest_rule_steps = (writes_rest_rule_none, writes_rest_rule_some, the_lemmas)

pub ruleset quantifier_steps = (writes_quantifier, writes_guard_some)

pub ruleset extend_steps = (writes_extend_head)

pub ruleset rules_steps = (rules-drop, rules-end, the_lemmas)

pub ruleset rule_cases_steps = (rule_cases-drop, rule_cases-end, the_lemmas)
