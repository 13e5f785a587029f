-- The word `import` stands in no rule.
use Rattle.std.proofs.Common.{ℕ, zero, suc, Bool, refl, codes}
use Rattle.asm_grammar.specs.Language.{Language}
use Rattle.asm_syntax.specs.declared.token.Token.{Token}
use Rattle.asm_syntax.specs.declared.tree.TermTree.{TermTree}
use Rattle.asm_syntax.specs.declared.tree.TermsTree.{TermsTree}
use Rattle.asm_syntax.specs.declared.tree.RuleTree.{RuleTree}
use Rattle.asm_syntax.specs.declared.tree.RuleTree.TheVariants as rules
use Rattle.asm_syntax.specs.Marks.{variable, keyword}
use Rattle.asm_syntax.specs.Forms.{is_open}
use Rattle.asm_syntax.specs.Terms.{Forms, term}
use Rattle.asm_syntax.specs.Rules as g
use Rattle.asm_syntax.specs.Rules.{is_closed, Calls, Updates}
use Rattle.asm_parse_theory.proofs.Without.{without-then, without-either, without-made, without-maybe, without-dangling}
use Rattle.asm_parse_theory.proofs.WithoutForms.{without_mark, without_after_word, without_after_sign, without_opened, without_enclosed, without_bracketed, without_many, without_listed, without_formed}
use Rattle.asm_parse_theory.proofs.NoImportTerms.{import_mark, is_import, NoImport, NoImports, no_id, no_nowhere, no_arguments, no_call, no_inside, no_term}

module _ (room : Bool) {value : Language Token TermTree} {call : Language Token TermsTree} {inner : Forms} {rule : Language Token RuleTree}
    (v : NoImport value) (c : NoImport call) (i : NoImports inner) (r : NoImport rule) where
  no_skip : NoImport (g.skip room value call inner rule)
  no_skip = without_formed import_mark (λ span t. rules.Skip span) (without_mark import_mark (keyword (codes "skip")) refl)

  no_call_or_update : NoImport (g.call_or_update room value call inner rule)
  no_call_or_update =
      without_formed import_mark g.use_of (without-then is_import no_id (without-either is_import
      (without-made is_import Calls (without_bracketed import_mark room (codes "[") (codes "]") refl refl (without-maybe is_import (no_arguments room i))))
      (without-made is_import Updates (without-then is_import (without-maybe is_import c) (without_after_sign import_mark (codes ":=") refl v)))))

  no_par_rule : NoImport (g.par_rule room value call inner rule)
  no_par_rule =
      without_formed import_mark (λ span p. rules.Par p.0 p.1 span) (without_enclosed import_mark room (codes "par") (codes "endpar") refl refl
      (without-then is_import r (without_many import_mark r)))

  no_seq_rule : NoImport (g.seq_rule room value call inner rule)
  no_seq_rule =
      without_formed import_mark (λ span p. rules.Seq p.0 p.1 span) (without_enclosed import_mark room (codes "seq") (codes "endseq") refl refl
      (without-then is_import r (without_many import_mark r)))

  no_if_rule : NoImport (g.if_rule room value call inner rule)
  no_if_rule =
      without_formed import_mark (λ span p. rules.If p.0 p.1.0 p.1.1 span) (without_enclosed import_mark room (codes "if") (codes "endif") refl refl
      (without-then is_import (i.line term) (without-then is_import (without_after_word import_mark (codes "then") refl r)
      (without-maybe is_import (without_after_word import_mark (codes "else") refl r)))))

  no_forall : NoImport (g.forall room value call inner rule)
  no_forall =
      without_formed import_mark (λ span p. rules.Forall p.0 p.1.0 p.1.1 span) (without_opened import_mark room (codes "forall") refl
      (without-then is_import i.ranges (without-then is_import (without-maybe is_import (without_after_word import_mark (codes "with") refl (i.line term)))
      (without_after_word import_mark (codes "do") refl r))))

  no_choose_rule : NoImport (g.choose_rule room value call inner rule)
  no_choose_rule =
      without_formed import_mark g.choose_of (without_opened import_mark room (codes "choose") refl
      (without-then is_import i.ranges (without-then is_import (without-maybe is_import (without_after_word import_mark (codes "with") refl (i.line term)))
      (without_after_word import_mark (codes "do") refl
      (without-dangling is_import is_closed r (without_after_word import_mark (codes "ifnone") refl r))))))

  no_let_rule : NoImport (g.let_rule room value call inner rule)
  no_let_rule =
      without_formed import_mark (λ span p. rules.Let p.0 p.1 span) (without_enclosed import_mark room (codes "let") (codes "endlet") refl refl
      (without-then is_import i.binds (without_after_word import_mark (codes "in") refl r)))

  no_case : NoImport (g.case room value call inner rule)
  no_case =
      without-made is_import g.case_of (without_after_word import_mark (codes "case") refl
      (without-then is_import (i.line term) (without_after_sign import_mark (codes ":") refl r)))

  no_switch_rule : NoImport (g.switch_rule room value call inner rule)
  no_switch_rule =
      without_formed import_mark (λ span p. rules.Switch p.0 p.1.0 p.1.1 span) (without_enclosed import_mark room (codes "switch") (codes "endswitch") refl refl
      (without-then is_import (i.line term) (without-then is_import (without_many import_mark no_case)
      (without-maybe is_import (without_after_word import_mark (codes "otherwise") refl r)))))

  no_extend_rule : NoImport (g.extend_rule room value call inner rule)
  no_extend_rule =
      without_formed import_mark g.extend_of (without_opened import_mark room (codes "extend") refl
      (without-then is_import no_id (without_after_word import_mark (codes "with") refl
      (without-then is_import (without_listed import_mark refl (without_mark import_mark variable refl))
      (without_after_word import_mark (codes "do") refl r)))))

  no_rule_form : NoImport (g.rule_form room value call inner rule)
  no_rule_form =
      without-either is_import no_skip (without-either is_import no_call_or_update (without-either is_import no_par_rule (without-either is_import no_seq_rule
      (without-either is_import no_if_rule (without-either is_import no_forall (without-either is_import no_choose_rule
      (without-either is_import no_let_rule (without-either is_import no_switch_rule no_extend_rule))))))))

no_rule_at : (fits : TermTree → Bool) (n : ℕ) (rule : Language Token RuleTree) → NoImport rule → NoImport (g.rule_at fits n rule)
no_rule_at fits n rule r =
    no_rule_form (is_open n) (no_term fits n) (no_call (is_open n) (no_inside fits n)) (no_inside fits n) r

no_inside_rule : (fits : TermTree → Bool) (n : ℕ) → NoImport (g.inside fits n)
unfolding g.inside
no_inside_rule fits zero = no_nowhere
no_inside_rule fits (suc n) = no_rule_at fits n (g.inside fits n) (no_inside_rule fits n)

pub no_rule : (fits : TermTree → Bool) (n : ℕ) → NoImport (g.rule_within fits n)
unfolding g.rule_within
no_rule fits n = no_rule_at fits n (g.inside fits n) (no_inside_rule fits n)
