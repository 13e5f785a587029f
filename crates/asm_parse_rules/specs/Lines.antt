-- The lines of rules, by how many constructs may be open; and the rules in three parts.
use Rattle.std.specs.Prelude.{ℕ, Bool, List, Option, codes}
use Rattle.asm_grammar.specs.Parser.{Parser, choose, enter, optional}
use Rattle.asm_syntax.specs.declared.token.Token.{Token}
use Rattle.asm_syntax.specs.declared.tree.TermTree.{TermTree}
use Rattle.asm_syntax.specs.declared.tree.TermsTree.{TermsTree}
use Rattle.asm_syntax.specs.declared.tree.RuleTree.{RuleTree}
use Rattle.asm_syntax.specs.declared.tree.RuleCaseTree.{RuleCaseTree}
use Rattle.asm_syntax.specs.Marks.{is, keyword, symbol}
use Rattle.asm_syntax.specs.Forms.{is_open}
use Rattle.asm_parse_theory.specs.Firsts.{starts_rule}
use Rattle.asm_parse_theory.specs.Forms.{after_word}
use Rattle.asm_parse_theory.specs.Terms as t
use Rattle.asm_parse_theory.specs.Rules.{inside, seq_rule, if_rule, forall, choose_rule, let_rule}
use Rattle.asm_parse_theory.specs.Rules.{switch_rule, case, extend_rule, next_variable, more}

-- a line of rules, of the terms at its place and of what is one construct deeper
abbrev pub Line : Type 0 → Type 0
Line V =
    Bool → Parser Token TermTree → Parser Token TermsTree → t.Readers → Parser Token RuleTree
    → Parser Token V

-- the line where so many constructs may be open
abbrev pub line : {V : Type 0} → Line V → ℕ → Parser Token V
line form n = form (is_open n) (t.term n) (t.call (is_open n) (t.inside n)) (t.inside n) (inside n)

-- ---- words and symbols

-- the quoted word, which opens a construct if one more may be open
abbrev pub opens : ℕ → List ℕ → Parser Token Token
opens n word = enter (is_open n) (is (keyword word))

-- `[`, which opens a construct if one more may be open
abbrev pub opens_bracket : ℕ → Parser Token Token
opens_bracket n = enter (is_open n) (is (symbol (codes "[")))

-- the quoted word and a rule
abbrev pub rule_after : ℕ → List ℕ → Parser Token RuleTree
rule_after n word = after_word word (inside n)

-- the quoted word and a rule, or nothing
abbrev pub maybe_rule_after : ℕ → List ℕ → Parser Token (Option RuleTree)
maybe_rule_after n word = optional (is (keyword word)) (rule_after n word)

-- ---- those found, and each that follows them

abbrev pub more_rules : ℕ → List RuleTree → Parser Token (List RuleTree)
more_rules n found = more starts_rule (inside n) found

abbrev pub more_cases : ℕ → List RuleCaseTree → Parser Token (List RuleCaseTree)
more_cases n found = more (is (keyword (codes "case"))) (line case n) found

abbrev pub more_variables : List Token → Parser Token (List Token)
more_variables found = more (is (symbol (codes ","))) next_variable found

-- ---- what may stand where no `skip`, name or `par` does

unfoldable pub scoped : Line RuleTree
scoped is_open value call inner rule =
    choose (is (keyword (codes "choose"))) (choose_rule is_open value call inner rule)
    (choose (is (keyword (codes "let"))) (let_rule is_open value call inner rule)
    (choose (is (keyword (codes "switch"))) (switch_rule is_open value call inner rule)
    (extend_rule is_open value call inner rule)))

unfoldable pub compound : Line RuleTree
compound is_open value call inner rule =
    choose (is (keyword (codes "seq"))) (seq_rule is_open value call inner rule)
    (choose (is (keyword (codes "if"))) (if_rule is_open value call inner rule)
    (choose (is (keyword (codes "forall"))) (forall is_open value call inner rule)
    (scoped is_open value call inner rule)))
