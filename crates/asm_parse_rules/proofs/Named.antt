-- The line of all rules by its parts.
use Rattle.std.proofs.Common.{◌≡◌, Bool, List, refl, codes}
use Rattle.asm_grammar.specs.Parser.{Parser, choose}
use Rattle.asm_syntax.specs.declared.token.Token.{Token}
use Rattle.asm_syntax.specs.declared.tree.TermTree.{TermTree}
use Rattle.asm_syntax.specs.declared.tree.TermsTree.{TermsTree}
use Rattle.asm_syntax.specs.declared.tree.RuleTree.{RuleTree}
use Rattle.asm_syntax.specs.Marks.{is, id, keyword}
use Rattle.asm_parse_theory.specs.Terms.{Readers}
use Rattle.asm_parse_theory.specs.Rules.{rule_form, skip, call_or_update, par_rule}
use Rattle.asm_parse_rules.specs.Lines.{compound, scoped}

pub rule_form_is : (o : Bool) (value : Parser Token TermTree) (call : Parser Token TermsTree)
    (inner : Readers) (rule : Parser Token RuleTree) (ts : List Token)
    → rule_form o value call inner rule ts
    ≡ choose (is (keyword (codes "skip"))) (skip o value call inner rule)
    (choose (is id) (call_or_update o value call inner rule)
    (choose (is (keyword (codes "par"))) (par_rule o value call inner rule)
    (compound o value call inner rule))) ts
unfolding rule_form compound scoped
rule_form_is o value call inner rule ts = refl
