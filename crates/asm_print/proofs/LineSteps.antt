-- Texts that grow by declarations, definitions and the parts of models.
use Rattle.std.proofs.Common.{◌≡◌, ℕ, List, [], ◌∷◌, ◌++◌, map, codes, Option, None, Some, refl, ap, ◌∙◌}
use Rattle.asm_syntax.specs.declared.token.Token.{Token}
use Rattle.asm_syntax.specs.declared.tree.DomainTree.{DomainTree}
use Rattle.asm_syntax.specs.declared.tree.ParamsTree.{ParamsTree}
use Rattle.asm_syntax.specs.declared.tree.IntTree.{IntTree}
use Rattle.asm_syntax.specs.declared.tree.TermTree.{TermTree}
use Rattle.asm_syntax.specs.declared.tree.RuleTree.{RuleTree}
use Rattle.asm_syntax.specs.declared.tree.DeclTree.{DeclTree}
use Rattle.asm_syntax.specs.declared.tree.DefTree.{DefTree}
use Rattle.asm_syntax.specs.declared.tree.DefTree.TheVariants as defs
use Rattle.asm_syntax.specs.declared.tree.InitTree.{InitTree}
use Rattle.asm_syntax.specs.declared.tree.ModelTree.{ModelTree}
use Rattle.asm_syntax.specs.Written.{Words, word_of, single, after_each, if_there, comma, domain_words, params_words, int_words, term_writing}
use Rattle.asm_syntax.specs.Canonical.{typed_words, rule_words, init_lines, model_lines}
use Rattle.asm_print_terms.specs.declared.writer.Writer.{Writer}
use Rattle.asm_print_terms.specs.Lines.{with_word, with_words, ended, with_line, with_lines}
use Rattle.asm_print_terms.specs.Parts.{led_words}
use Rattle.asm_print.specs.RuleParts.{led_rule_words}
use Rattle.asm_print.specs.LineParts.{enum_words, subset_interval_words, subset_integers_words, left_words, function_words, rule_def_words, over_words, invariant_words, decl_line, def_line, start_line, signature_lines, definitions_lines, main_words}
use Rattle.asm_print_terms.proofs.Words.{with_words-append}
use Rattle.asm_print_terms.proofs.Texts.{writes_line, with_lines-append}

module _ (w : Writer) where
  -- ---- declarations

  pub writes_typed_none : (name : Token) (first : DomainTree)
      → with_words w (typed_words name first None) ≡ with_words (with_word (with_word w (word_of name)) (codes ":")) (domain_words first)
  writes_typed_none name first = simp with_words-append

  pub writes_typed_some : (name : Token) (first next : DomainTree)
      → with_words w (typed_words name first (Some next))
      ≡ with_words (with_word (with_words (with_word (with_word w (word_of name)) (codes ":")) (domain_words first)) (codes "->")) (domain_words next)
  writes_typed_some name first next = simp with_words-append

  pub writes_enum : (name first : Token) (others : List Token)
      → with_words w (enum_words name first others)
      ≡ with_word
      (with_words
      (with_word (with_word (with_word (with_word (with_word (with_word w (codes "enum")) (codes "domain")) (word_of name)) (codes "=")) (codes "{")) (word_of first))
      (after_each (codes "|") single others))
      (codes "}")
  unfolding enum_words
  writes_enum name first others = simp with_words-append

  -- ---- definitions

  pub writes_subset_interval : (name : Token) (first last : IntTree)
      → with_words w (subset_interval_words name first last)
      ≡ with_word
      (with_words
      (with_word
      (with_words (with_word (with_word (with_word (with_word w (codes "domain")) (word_of name)) (codes "=")) (codes "{")) (int_words first)) (codes ".."))
      (int_words last))
      (codes "}")
  unfolding subset_interval_words
  writes_subset_interval name first last = simp with_words-append

  pub writes_subset_integers : (name : Token) (first : IntTree) (others : List IntTree)
      → with_words w (subset_integers_words name first others)
      ≡ with_word
      (with_words
      (with_words (with_word (with_word (with_word (with_word w (codes "domain")) (word_of name)) (codes "=")) (codes "{")) (int_words first))
      (after_each comma int_words others))
      (codes "}")
  unfolding subset_integers_words
  writes_subset_integers name first others = simp with_words-append

  pub writes_left_none : (word : List ℕ) (name : Token) → with_words w (left_words word name None) ≡ with_word (with_word w word) (word_of name)
  unfolding left_words
  writes_left_none word name = refl

  pub writes_left_some : (word : List ℕ) (name : Token) (given : ParamsTree)
      → with_words w (left_words word name (Some given)) ≡ with_words (with_word (with_word w word) (word_of name)) (params_words given)
  unfolding left_words
  writes_left_some word name given = refl

  pub writes_function : (name : Token) (given : Option ParamsTree) (t : TermTree)
      → with_words w (function_words name given t) ≡ with_words (with_words w (left_words (codes "function") name given)) (led_words (codes "=") t)
  unfolding function_words left_words led_words
  writes_function name given t = with_words-append w (codes "function" ∷ word_of name ∷ if_there [] params_words given) (codes "=" ∷ term_writing t 0)

  pub writes_rule_def : (name : Token) (given : Option ParamsTree) (r : RuleTree)
      → with_words w (rule_def_words name given r) ≡ with_words (with_words w (left_words (codes "rule") name given)) (led_rule_words (codes "=") r)
  unfolding rule_def_words left_words led_rule_words
  writes_rule_def name given r = with_words-append w (codes "rule" ∷ word_of name ∷ if_there [] params_words given) (codes "=" ∷ rule_words r)

  pub writes_over : (first : Token) (others : List Token)
      → with_words w (over_words first others) ≡ with_words (with_word (with_word w (codes "over")) (word_of first)) (after_each comma single others)
  unfolding over_words
  writes_over first others = refl

  pub writes_invariant : (name : Option Token) (first : Token) (others : List Token) (t : TermTree)
      → with_words w (invariant_words name first others t)
      ≡ with_words (with_words (with_words (with_word w (codes "invariant")) (if_there [] single name)) (over_words first others)) (led_words (codes ":") t)
  unfolding invariant_words
  writes_invariant name first others t = simp with_words-append

  -- ---- models

  pub writes_signature : (name : Token) (decls : List DeclTree)
      → with_lines w (signature_lines name decls)
      ≡ with_lines (with_line (ended (with_word (with_word w (codes "asm")) (word_of name))) (codes "signature" ∷ codes ":" ∷ [])) (map decl_line decls)
  unfolding signature_lines with_line decl_line
  writes_signature name decls = refl

  pub writes_definitions : (defs : List DefTree)
      → with_lines w (definitions_lines defs) ≡ with_lines (with_line w (codes "definitions" ∷ codes ":" ∷ [])) (map def_line defs)
  unfolding definitions_lines def_line
  writes_definitions defs = refl

  pub writes_main : (name : Token) (r : RuleTree)
      → with_words w (main_words name r) ≡ with_words (with_word (with_word (with_word w (codes "main")) (codes "rule")) (word_of name)) (led_rule_words (codes "=") r)
  unfolding main_words led_rule_words
  writes_main name r = refl

  pub writes_model : (m : ModelTree)
      → with_lines w (model_lines m)
      ≡ with_lines (with_line (with_lines (with_lines w (signature_lines m.name m.decls)) (definitions_lines m.defs)) (main_words m.rule_name m.rule)) (init_lines m.init)
  unfolding signature_lines definitions_lines main_words
  writes_model m =
      with_lines-append w (signature_lines m.name m.decls ++ definitions_lines m.defs) (main_words m.rule_name m.rule ∷ init_lines m.init)
      ∙ ap (λ v. with_lines v (main_words m.rule_name m.rule ∷ init_lines m.init)) (with_lines-append w (signature_lines m.name m.decls) (definitions_lines m.defs))

abbrev def_form : DefTree → Words
def_form (defs.Interval name first last span) = subset_interval_words name first last
def_form (defs.Integers name first others span) = subset_integers_words name first others
def_form (defs.Function name given t span) = function_words name given t
def_form (defs.Rule name given r span) = rule_def_words name given r
def_form (defs.Invariant name first others t span) = invariant_words name first others t

pub def_line_is : (d : DefTree) → def_line d ≡ def_form d
unfolding def_line subset_interval_words subset_integers_words function_words rule_def_words invariant_words over_words led_words
def_line_is (defs.Interval name first last span) = refl
def_line_is (defs.Integers name first others span) = refl
def_line_is (defs.Function name given t span) = refl
def_line_is (defs.Rule name given r span) = refl
def_line_is (defs.Invariant name first others t span) = refl

pub ruleset typed_steps = (writes_typed_none, writes_typed_some)

pub ruleset enum_steps = (writes_enum)

pub ruleset subset_interval_steps = (writes_subset_interval)

pub ruleset subset_integers_steps = (writes_subset_integers)

pub ruleset left_steps = (writes_left_none, writes_left_some)

pub ruleset function_steps = (writes_function)

pub ruleset rule_def_steps = (writes_rule_def)

pub ruleset over_steps = (writes_over)

pub ruleset invariant_steps = (writes_invariant)

pub ruleset signature_steps = (writes_signature)

pub ruleset definitions_steps = (writes_definitions)

pub ruleset main_steps = (writes_main, writes_line)

pub writes_init : (w : Writer) (i : InitTree)
    → with_lines w (init_lines (Some i)) ≡ with_lines (with_line w (codes "default" ∷ codes "init" ∷ word_of i.name ∷ codes ":" ∷ [])) (map start_line i.starts)
unfolding start_line
writes_init w i = refl

pub ruleset init_steps = (writes_init)

pub ruleset model_steps = (writes_model)
