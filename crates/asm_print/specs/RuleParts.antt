-- The words of the parts of rules.
use Rattle.std.specs.Prelude.{ℕ, List, [], ◌∷◌, ◌++◌, Option, codes}
use Rattle.asm_syntax.specs.declared.token.Token.{Token}
use Rattle.asm_syntax.specs.declared.tree.RangesTree.{RangesTree}
use Rattle.asm_syntax.specs.declared.tree.TermTree.{TermTree}
use Rattle.asm_syntax.specs.declared.tree.TermsTree.{TermsTree}
use Rattle.asm_syntax.specs.declared.tree.BindsTree.{BindsTree}
use Rattle.asm_syntax.specs.declared.tree.RuleTree.{RuleTree}
use Rattle.asm_syntax.specs.declared.tree.RuleTree.TheFolds.{fold-RuleCaseTree}
use Rattle.asm_syntax.specs.declared.tree.RuleCaseTree.{RuleCaseTree}
use Rattle.asm_syntax.specs.Written.{Words, word_of, single, after_each, written_all}
use Rattle.asm_syntax.specs.Written.{if_there, comma, ranges_words}
use Rattle.asm_syntax.specs.Canonical.{guard_words, rule_step, rule_case_step, rule_words}
use Rattle.asm_print_terms.specs.Parts.{led_words, args_words, items_words, let_words}

unfoldable pub rule_case_words : RuleCaseTree → Words
rule_case_words = fold-RuleCaseTree Words Words rule_step rule_case_step

-- ---- parts of any form

-- a rule after a word
unfoldable pub led_rule_words : List ℕ → RuleTree → Words
led_rule_words word r = word ∷ rule_words r

-- a rule between two words
unfoldable pub enclosed_rule_words : List ℕ → RuleTree → List ℕ → Words
enclosed_rule_words word r last = word ∷ rule_words r ++ last ∷ []

-- a rule after a word, where there is one
unfoldable pub other_rule_words : List ℕ → Option RuleTree → Words
other_rule_words word other = if_there (word ∷ []) rule_words other

-- the same, and the last word
unfoldable pub rest_rule_words : List ℕ → Option RuleTree → List ℕ → Words
rest_rule_words word other last = if_there (word ∷ []) rule_words other ++ last ∷ []

unfoldable pub rules_words : List RuleTree → Words
rules_words rs = written_all rule_words rs

-- rules one after the other, and the last word
unfoldable pub last_rules_words : List RuleTree → List ℕ → Words
last_rules_words rs last = rules_words rs ++ last ∷ []

unfoldable pub rule_cases_words : List RuleCaseTree → Words
rule_cases_words cs = written_all rule_case_words cs

-- a word, ranges, and the guard where there is one
unfoldable pub quantifier_words : List ℕ → RangesTree → Option TermTree → Words
quantifier_words word ranges guard = word ∷ ranges_words ranges ++ guard_words guard

-- what is before the body of an `extend`
unfoldable pub extend_head : Token → Token → List Token → Words
extend_head name first others =
    codes "extend" ∷ word_of name ∷ codes "with" ∷ word_of first ∷ after_each comma single others

-- ---- forms

unfoldable pub call_rule_words : Token → Option TermsTree → Words
call_rule_words name args = word_of name ∷ items_words (codes "[") args (codes "]")

unfoldable pub update_rule_words : Token → Option TermsTree → TermTree → Words
update_rule_words name args value = word_of name ∷ args_words args ++ led_words (codes ":=") value

unfoldable pub par_rule_words : RuleTree → List RuleTree → Words
par_rule_words first others =
    led_rule_words (codes "par") first ++ last_rules_words others (codes "endpar")

unfoldable pub seq_rule_words : RuleTree → List RuleTree → Words
seq_rule_words first others =
    led_rule_words (codes "seq") first ++ last_rules_words others (codes "endseq")

unfoldable pub if_rule_words : TermTree → RuleTree → Option RuleTree → Words
if_rule_words guard first other =
    led_words (codes "if") guard ++ led_rule_words (codes "then") first
    ++ rest_rule_words (codes "else") other (codes "endif")

unfoldable pub forall_rule_words : RangesTree → Option TermTree → RuleTree → Words
forall_rule_words ranges guard body =
    quantifier_words (codes "forall") ranges guard ++ led_rule_words (codes "do") body

unfoldable pub choose_rule_words : RangesTree → Option TermTree → RuleTree → Option RuleTree → Words
choose_rule_words ranges guard body other =
    quantifier_words (codes "choose") ranges guard ++ led_rule_words (codes "do") body
    ++ other_rule_words (codes "ifnone") other

unfoldable pub let_rule_words : BindsTree → RuleTree → Words
let_rule_words binds body =
    let_words binds ++ enclosed_rule_words (codes "in") body (codes "endlet")

unfoldable pub switch_rule_words : TermTree → List RuleCaseTree → Option RuleTree → Words
switch_rule_words value cases other =
    led_words (codes "switch") value ++ rule_cases_words cases
    ++ rest_rule_words (codes "otherwise") other (codes "endswitch")

unfoldable pub extend_rule_words : Token → Token → List Token → RuleTree → Words
extend_rule_words name first others body =
    extend_head name first others ++ led_rule_words (codes "do") body
