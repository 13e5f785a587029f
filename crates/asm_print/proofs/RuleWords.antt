-- The words of rules, form by form.
use Rattle.std.proofs.Common.{◌≡◌, List, [], ◌∷◌, ◌++◌, map, codes, None, Some, refl, sym, ap, ◌∙◌}
use Rattle.std.proofs.lemmas.List.{append_assoc}
use Rattle.asm_syntax.specs.declared.tree.RuleTree.{RuleTree}
use Rattle.asm_syntax.specs.declared.tree.RuleTree.TheOpen.{RuleTree-F}
use Rattle.asm_syntax.specs.declared.tree.RuleTree.TheFolds.{fold_out-RuleTree, fold_out-RuleCaseTree, map-RuleTree}
use Rattle.asm_syntax.specs.declared.tree.RuleTree.TheViews.{out-RuleTree, out-RuleCaseTree}
use Rattle.asm_syntax.specs.declared.tree.RuleCaseTree.{RuleCaseTree}
use Rattle.asm_syntax.specs.Written.{Words, written_all, own, word_of, term_writing, terms_words, binds_words}
use Rattle.asm_syntax.specs.Canonical.{rule_step, rule_case_step, rule_words}
use Rattle.asm_print_terms.specs.Parts.{led_words, tuple_words, args_words, items_words, let_words}
use Rattle.asm_print.specs.RuleParts.{rule_case_words, led_rule_words, enclosed_rule_words, other_rule_words, rest_rule_words, rules_words, rule_cases_words, last_rules_words, quantifier_words, extend_head, call_rule_words, update_rule_words, par_rule_words, seq_rule_words, if_rule_words, forall_rule_words, choose_rule_words, let_rule_words, switch_rule_words, extend_rule_words}
use Rattle.asm_print_terms.proofs.TermWords.{last_two, last_three}

all_rules : (rs : List RuleTree) → written_all own (map rule_words rs) ≡ rules_words rs
unfolding rules_words
all_rules [] = refl
all_rules (r ∷ rs) = ap (λ ws. rule_words r ++ ws) (all_rules rs)

all_rule_cases : (cs : List RuleCaseTree) → written_all own (map rule_case_words cs) ≡ rule_cases_words cs
unfolding rule_cases_words
all_rule_cases [] = refl
all_rule_cases (c ∷ cs) = ap (λ ws. rule_case_words c ++ ws) (all_rule_cases cs)

abbrev pub rule_form : RuleTree-F RuleTree RuleCaseTree → Words
rule_form (RuleTree-F.Skip span) = codes "skip" ∷ []
rule_form (RuleTree-F.Call name args span) = call_rule_words name args
rule_form (RuleTree-F.Update name args value span) = update_rule_words name args value
rule_form (RuleTree-F.Par first others span) = par_rule_words first others
rule_form (RuleTree-F.Seq first others span) = seq_rule_words first others
rule_form (RuleTree-F.If guard first other span) = if_rule_words guard first other
rule_form (RuleTree-F.Forall ranges guard body span) = forall_rule_words ranges guard body
rule_form (RuleTree-F.Choose ranges guard body other span) = choose_rule_words ranges guard body other
rule_form (RuleTree-F.Let binds body span) = let_rule_words binds body
rule_form (RuleTree-F.Switch value cases other span) = switch_rule_words value cases other
rule_form (RuleTree-F.Extend name first others body span) = extend_rule_words name first others body

abbrev mapped : RuleTree-F RuleTree RuleCaseTree → RuleTree-F Words Words
mapped f = map-RuleTree RuleTree RuleCaseTree Words Words rule_words rule_case_words f

same_form : (f : RuleTree-F RuleTree RuleCaseTree) → rule_step (mapped f) ≡ rule_form f
unfolding led_words tuple_words args_words items_words let_words led_rule_words enclosed_rule_words other_rule_words rest_rule_words last_rules_words quantifier_words extend_head call_rule_words update_rule_words par_rule_words seq_rule_words if_rule_words forall_rule_words choose_rule_words let_rule_words switch_rule_words extend_rule_words
same_form (RuleTree-F.Skip span) = refl
same_form (RuleTree-F.Call name args span) = refl
same_form (RuleTree-F.Update name None value span) = refl
same_form (RuleTree-F.Update name (Some args) value span) =
    ap (λ ws. word_of name ∷ codes "(" ∷ ws) (sym (append_assoc (terms_words args) (codes ")" ∷ []) (codes ":=" ∷ term_writing value 0)))
same_form (RuleTree-F.Par first others span) =
    ap (λ ws. codes "par" ∷ rule_words first ++ ws ++ codes "endpar" ∷ []) (all_rules others)
    ∙ last_two (codes "par" ∷ rule_words first) (rules_words others) (codes "endpar")
same_form (RuleTree-F.Seq first others span) =
    ap (λ ws. codes "seq" ∷ rule_words first ++ ws ++ codes "endseq" ∷ []) (all_rules others)
    ∙ last_two (codes "seq" ∷ rule_words first) (rules_words others) (codes "endseq")
same_form (RuleTree-F.If guard first None span) = last_three (codes "if" ∷ term_writing guard 0) (codes "then" ∷ rule_words first) [] (codes "endif")
same_form (RuleTree-F.If guard first (Some other) span) =
    last_three (codes "if" ∷ term_writing guard 0) (codes "then" ∷ rule_words first) (codes "else" ∷ rule_words other) (codes "endif")
same_form (RuleTree-F.Forall ranges guard body span) = refl
same_form (RuleTree-F.Choose ranges guard body None span) = refl
same_form (RuleTree-F.Choose ranges guard body (Some other) span) = refl
same_form (RuleTree-F.Let binds body span) = last_two (codes "let" ∷ binds_words binds) (codes "in" ∷ rule_words body) (codes "endlet")
same_form (RuleTree-F.Switch value cases None span) =
    ap (λ ws. codes "switch" ∷ term_writing value 0 ++ ws ++ [] ++ codes "endswitch" ∷ []) (all_rule_cases cases)
    ∙ last_three (codes "switch" ∷ term_writing value 0) (rule_cases_words cases) [] (codes "endswitch")
same_form (RuleTree-F.Switch value cases (Some other) span) =
    ap (λ ws. codes "switch" ∷ term_writing value 0 ++ ws ++ (codes "otherwise" ∷ rule_words other) ++ codes "endswitch" ∷ []) (all_rule_cases cases)
    ∙ last_three (codes "switch" ∷ term_writing value 0) (rule_cases_words cases) (codes "otherwise" ∷ rule_words other) (codes "endswitch")
same_form (RuleTree-F.Extend name first others body span) = refl

pub rule_words-out : (r : RuleTree) → rule_words r ≡ rule_form (out-RuleTree r)
unfolding rule_words rule_case_words
rule_words-out r = fold_out-RuleTree Words Words rule_step rule_case_step r ∙ same_form (out-RuleTree r)

pub rule_case_words-out : (c : RuleCaseTree) → rule_case_words c ≡ led_words (codes "case") (out-RuleCaseTree c).value ++ led_rule_words (codes ":") (out-RuleCaseTree c).rule
unfolding rule_words rule_case_words led_words led_rule_words
rule_case_words-out c = fold_out-RuleCaseTree Words Words rule_step rule_case_step c
