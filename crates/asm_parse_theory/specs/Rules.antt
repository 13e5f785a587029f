-- The parser of rules.
use Rattle.std.specs.Prelude.{ℕ, zero, suc, Bool, List, Option, codes, length}
use Rattle.asm_grammar.specs.Parser.{Parser, expect, choose, climb, mapped, both, optional}
use Rattle.asm_syntax.specs.declared.token.Token.{Token}
use Rattle.asm_syntax.specs.declared.tree.TermTree.{TermTree}
use Rattle.asm_syntax.specs.declared.tree.TermsTree.{TermsTree}
use Rattle.asm_syntax.specs.declared.tree.RuleTree.{RuleTree}
use Rattle.asm_syntax.specs.declared.tree.RuleTree.TheVariants as rules
use Rattle.asm_syntax.specs.declared.tree.RuleCaseTree.{RuleCaseTree}
use Rattle.asm_syntax.specs.Marks.{is, id, variable, keyword, symbol}
use Rattle.asm_syntax.specs.Forms.{any, is_open, one_more}
use Rattle.asm_syntax.specs.Terms as g
use Rattle.asm_syntax.specs.Rules.{Calls, Updates, use_of, choose_of, extend_of, case_of}
use Rattle.asm_parse_theory.specs.Firsts.{starts_term, starts_rule}
use Rattle.asm_parse_theory.specs.Forms.{nowhere, quoted, after_word, after_sign, opened, enclosed}
use Rattle.asm_parse_theory.specs.Forms.{bracketed, many, formed}
use Rattle.asm_parse_theory.specs.Terms as t
use Rattle.asm_parse_theory.specs.Terms.{Readers}

-- those found, and each that follows them
abbrev pub more : {V : Type 0} → (Token → Bool) → Parser Token V → List V → Parser Token (List V)
more starts q found ts = climb any one_more starts q (length ts) found ts

-- "with" VAR {"," VAR}
abbrev pub next_variable : Parser Token Token
next_variable = after_sign (codes ",") (expect (is variable))

abbrev pub other_variables : Parser Token (List Token)
other_variables = many (is (symbol (codes ","))) next_variable

abbrev pub variables_part : Parser Token (Token × List Token)
variables_part = after_word (codes "with") (both (expect (is variable)) other_variables)

-- `value` and `call` read a term and arguments in parentheses at the same place, `inner` and `rule`
-- what is one construct deeper.
module _ (is_open : Bool) (value : Parser Token TermTree) (call : Parser Token TermsTree)
    (inner : Readers) (rule : Parser Token RuleTree) where
  -- "skip"
  unfoldable pub skip : Parser Token RuleTree
  skip = formed (λ span t. rules.Skip span) (quoted (codes "skip"))

  -- ID "[" [term {"," term}] "]", and ID ["(" term {"," term} ")"] ":=" term
  abbrev pub arguments_part : Parser Token (Option TermsTree)
  arguments_part = optional starts_term (t.arguments inner)

  abbrev pub call_part : Parser Token (Option TermsTree)
  call_part = bracketed is_open (codes "[") arguments_part (codes "]")

  abbrev pub location_part : Parser Token (Option TermsTree)
  location_part = optional (is (symbol (codes "("))) call

  abbrev pub update_part : Parser Token (Option TermsTree × TermTree)
  update_part = both location_part (after_sign (codes ":=") value)

  unfoldable pub call_or_update : Parser Token RuleTree
  call_or_update = formed use_of (both (expect (is id)) (choose (is (symbol (codes "[")))
      (mapped Calls call_part) (mapped Updates update_part)))

  -- "par" rule {rule} "endpar"
  abbrev pub other_rules : Parser Token (List RuleTree)
  other_rules = many starts_rule rule

  abbrev pub some_rules : Parser Token (RuleTree × List RuleTree)
  some_rules = both rule other_rules

  unfoldable pub par_rule : Parser Token RuleTree
  par_rule = formed (λ span p. rules.Par p.0 p.1 span)
      (enclosed is_open (codes "par") some_rules (codes "endpar"))

  -- "seq" rule {rule} "endseq"
  unfoldable pub seq_rule : Parser Token RuleTree
  seq_rule = formed (λ span p. rules.Seq p.0 p.1 span)
      (enclosed is_open (codes "seq") some_rules (codes "endseq"))

  -- "if" term "then" rule ["else" rule] "endif"
  abbrev pub else_part : Parser Token (Option RuleTree)
  else_part = optional (is (keyword (codes "else"))) (after_word (codes "else") rule)

  abbrev pub if_branches : Parser Token (RuleTree × Option RuleTree)
  if_branches = both (after_word (codes "then") rule) else_part

  abbrev pub if_body : Parser Token (TermTree × (RuleTree × Option RuleTree))
  if_body = both (inner.line g.term) if_branches

  unfoldable pub if_rule : Parser Token RuleTree
  if_rule = formed (λ span p. rules.If p.0 p.1.0 p.1.1 span)
      (enclosed is_open (codes "if") if_body (codes "endif"))

  -- "forall" ranges ["with" term] "do" rule
  abbrev pub guard_part : Parser Token (Option TermTree)
  guard_part =
      optional (is (keyword (codes "with"))) (after_word (codes "with") (inner.line g.term))

  abbrev pub forall_body : Parser Token (Option TermTree × RuleTree)
  forall_body = both guard_part (after_word (codes "do") rule)

  unfoldable pub forall : Parser Token RuleTree
  forall = formed (λ span p. rules.Forall p.0 p.1.0 p.1.1 span)
      (opened is_open (codes "forall") (both inner.ranges forall_body))

  -- "choose" ranges ["with" term] "do" rule ["ifnone" rule]
  abbrev pub ifnone_part : Parser Token (Option RuleTree)
  ifnone_part = optional (is (keyword (codes "ifnone"))) (after_word (codes "ifnone") rule)

  abbrev pub choose_branches : Parser Token (RuleTree × Option RuleTree)
  choose_branches = after_word (codes "do") (both rule ifnone_part)

  abbrev pub choose_body : Parser Token (Option TermTree × (RuleTree × Option RuleTree))
  choose_body = both guard_part choose_branches

  unfoldable pub choose_rule : Parser Token RuleTree
  choose_rule = formed choose_of (opened is_open (codes "choose") (both inner.ranges choose_body))

  -- "let" binds "in" rule "endlet"
  unfoldable pub let_rule : Parser Token RuleTree
  let_rule = formed (λ span p. rules.Let p.0 p.1 span) (enclosed is_open (codes "let")
      (both inner.binds (after_word (codes "in") rule)) (codes "endlet"))

  -- "switch" term {"case" term ":" rule} ["otherwise" rule] "endswitch"
  abbrev pub case_rule : Parser Token RuleTree
  case_rule = after_sign (codes ":") rule

  abbrev pub case_body : Parser Token (TermTree × RuleTree)
  case_body = both (inner.line g.term) case_rule

  unfoldable pub case : Parser Token RuleCaseTree
  case = mapped case_of (after_word (codes "case") case_body)

  abbrev pub cases_part : Parser Token (List RuleCaseTree)
  cases_part = many (is (keyword (codes "case"))) case

  abbrev pub otherwise_part : Parser Token (Option RuleTree)
  otherwise_part = optional (is (keyword (codes "otherwise"))) (after_word (codes "otherwise") rule)

  abbrev pub alternatives : Parser Token (List RuleCaseTree × Option RuleTree)
  alternatives = both cases_part otherwise_part

  abbrev pub switch_body : Parser Token (TermTree × (List RuleCaseTree × Option RuleTree))
  switch_body = both (inner.line g.term) alternatives

  unfoldable pub switch_rule : Parser Token RuleTree
  switch_rule = formed (λ span p. rules.Switch p.0 p.1.0 p.1.1 span)
      (enclosed is_open (codes "switch") switch_body (codes "endswitch"))

  -- "extend" ID "with" VAR {"," VAR} "do" rule
  unfoldable pub extend_rule : Parser Token RuleTree
  extend_rule = formed extend_of (opened is_open (codes "extend")
      (both (expect (is id)) (both variables_part (after_word (codes "do") rule))))

  -- rule
  unfoldable pub rule_form : Parser Token RuleTree
  rule_form =
      choose (is (keyword (codes "skip"))) skip (choose (is id) call_or_update
      (choose (is (keyword (codes "par"))) par_rule (choose (is (keyword (codes "seq"))) seq_rule
      (choose (is (keyword (codes "if"))) if_rule (choose (is (keyword (codes "forall"))) forall
      (choose (is (keyword (codes "choose"))) choose_rule
      (choose (is (keyword (codes "let"))) let_rule
      (choose (is (keyword (codes "switch"))) switch_rule extend_rule))))))))

abbrev pub rule_at : ℕ → Parser Token RuleTree → Parser Token RuleTree
rule_at n rule =
    rule_form (is_open n) (t.term n) (t.call (is_open n) (t.inside n)) (t.inside n) rule

unfoldable pub inside : ℕ → Parser Token RuleTree
inside zero = nowhere
inside (suc n) = rule_at n (inside n)

-- rules in which at most so many constructs are open at once
unfoldable pub rule : ℕ → Parser Token RuleTree
rule n = rule_at n (inside n)
