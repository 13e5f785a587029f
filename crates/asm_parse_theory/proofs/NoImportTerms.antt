-- The word `import` stands in no domain and in no term.
use Rattle.std.proofs.Common.{ℕ, zero, suc, [], ◌∷◌, Bool, refl, codes}
use Rattle.asm_grammar.specs.Language.{Language, word, ◌then◌}
use Rattle.asm_syntax.specs.declared.token.Token.{Token}
use Rattle.asm_syntax.specs.declared.tree.DomainTree.{DomainTree}
use Rattle.asm_syntax.specs.declared.tree.DomainTree.TheVariants as domains
use Rattle.asm_syntax.specs.declared.tree.TermTree.{TermTree}
use Rattle.asm_syntax.specs.declared.tree.TermTree.TheVariants as terms
use Rattle.asm_syntax.specs.Marks.{Mark, is, id, variable, number, chars, keyword, symbol}
use Rattle.asm_syntax.specs.Extents.{with_extent}
use Rattle.asm_syntax.specs.Forms.{nowhere, is_open, after_word}
use Rattle.asm_syntax.specs.Domains as d
use Rattle.asm_syntax.specs.Terms as g
use Rattle.asm_syntax.specs.Terms.{Line, Forms, term, imp, and, neg, sum, prod, sign, quantifier}
use Rattle.asm_parse_theory.proofs.Without.{Without, without-then, without-either, without-made, without-maybe, without-chain, without-dangling}
use Rattle.asm_parse_theory.proofs.WithoutForms.{without_mark, without_open, without_open_one_of, without_after_word, without_after_sign, without_opened, without_enclosed, without_bracketed, without_many, without_listed, without_members, without_formed}

abbrev pub import_mark : Mark
import_mark = keyword (codes "import")

abbrev pub is_import : Token → Bool
is_import = is import_mark

abbrev pub NoImport : {V : Type 0} → Language Token V → Type 0
NoImport L = Without is_import L

-- ---- words

pub no_id : NoImport (word (is id))
no_id = without_mark import_mark id refl

pub no_nowhere : {V : Type 0} → NoImport {V = V} nowhere
no_nowhere = record { spells = λ v a s. absurd s; begins = λ a s. absurd s }

-- ---- domains

module _ (room : Bool) {inner : Language Token DomainTree} (i : NoImport inner) where
  no_product : NoImport (d.product room inner)
  no_product =
      without_formed import_mark d.prod_of (without_after_word import_mark (codes "Prod") refl
      (without_bracketed import_mark room (codes "(") (codes ")") refl refl
      (without-then is_import i (without_after_sign import_mark (codes ",") refl (without_listed import_mark refl i)))))

  no_domain_form : NoImport (d.domain_form room inner)
  no_domain_form =
      without-either is_import (without_formed import_mark (λ span t. domains.Truth span) (without_mark import_mark (keyword (codes "Boolean")) refl))
      (without-either is_import (without_formed import_mark (λ span t. domains.Int span) (without_mark import_mark (keyword (codes "Integer")) refl))
      (without-either is_import (without_formed import_mark (λ span t. domains.Nat span) (without_mark import_mark (keyword (codes "Natural")) refl))
      (without-either is_import (without_formed import_mark (λ span t. domains.Chars span) (without_mark import_mark (keyword (codes "String")) refl))
      (without-either is_import (without_formed import_mark (λ span t. domains.Named t span) no_id)
      (without-either is_import no_product
      (without-either is_import
      (without_formed import_mark (λ span d. domains.Seq d span)
      (without_after_word import_mark (codes "Seq") refl (without_bracketed import_mark room (codes "(") (codes ")") refl refl i)))
      (without_formed import_mark (λ span d. domains.Powerset d span)
      (without_after_word import_mark (codes "Powerset") refl (without_bracketed import_mark room (codes "(") (codes ")") refl refl i)))))))))

pub no_inside_domain : (n : ℕ) → NoImport (d.inside n)
unfolding d.inside
no_inside_domain zero = no_nowhere
no_inside_domain (suc n) = no_domain_form (is_open n) (no_inside_domain n)

pub no_domain : (n : ℕ) → NoImport (d.domain n)
unfolding d.domain
no_domain n = no_domain_form (is_open n) (no_inside_domain n)

pub no_ranges : {L : Language Token DomainTree} → NoImport L → NoImport (d.ranges L)
no_ranges l =
    without_formed import_mark d.ranges_of (without_listed import_mark refl
    (without-made is_import d.range_of (without-then is_import (without_mark import_mark variable refl) (without_after_word import_mark (codes "in") refl l))))

pub no_params : (n : ℕ) → NoImport (d.params n)
no_params n =
    without_formed import_mark d.params_of (without_bracketed import_mark (is_open n) (codes "(") (codes ")") refl refl (no_ranges (no_inside_domain n)))

pub no_int : NoImport d.int
no_int =
    without_formed import_mark d.int_of (without-then is_import (without-maybe is_import (without_mark import_mark (symbol (codes "-")) refl))
    (without_mark import_mark number refl))

-- ---- terms

pub record NoImports (inner : Forms) : Type 0 where
  pub line : (l : Line) → NoImport (inner.line l)
  pub ranges : NoImport inner.ranges
  pub binds : NoImport inner.binds

module _ (room : Bool) {inner : Forms} (i : NoImports inner) where
  pub no_arguments : NoImport (g.arguments inner)
  no_arguments = without-made is_import g.terms_of (without_listed import_mark refl (i.line term))

  pub no_call : NoImport (g.call room inner)
  no_call = without_bracketed import_mark room (codes "(") (codes ")") refl refl no_arguments

  no_binds : NoImport (g.binds room inner)
  no_binds =
      without_formed import_mark g.binds_of (without_bracketed import_mark room (codes "(") (codes ")") refl refl (without_listed import_mark refl
      (without-made is_import g.bind_of (without-then is_import (without_mark import_mark variable refl)
      (without_after_sign import_mark (codes "=") refl (i.line term))))))

  no_plain : NoImport (g.plain room inner)
  no_plain =
      without-either is_import (without_formed import_mark (λ span t. terms.Number t span) (without_mark import_mark number refl))
      (without-either is_import (without_formed import_mark (λ span t. terms.Chars t span) (without_mark import_mark chars refl))
      (without-either is_import (without_formed import_mark (λ span t. terms.True span) (without_mark import_mark (keyword (codes "true")) refl))
      (without-either is_import (without_formed import_mark (λ span t. terms.False span) (without_mark import_mark (keyword (codes "false")) refl))
      (without-either is_import (without_formed import_mark (λ span t. terms.Undef span) (without_mark import_mark (keyword (codes "undef")) refl))
      (without_formed import_mark (λ span t. terms.Var t span) (without_mark import_mark variable refl))))))

  no_name : NoImport (g.name room inner)
  no_name = without_formed import_mark (λ span p. terms.Name p.0 p.1 span) (without-then is_import no_id (without-maybe is_import no_call))

  -- ranges "with" term
  no_with : NoImport (inner.ranges then after_word (codes "with") (inner.line term))
  no_with = without-then is_import i.ranges (without_after_word import_mark (codes "with") refl (i.line term))

  no_quantified : NoImport (g.quantified room inner)
  no_quantified =
      without-either is_import (without_formed import_mark (λ span p. terms.Forall p.0 p.1 span) (without_opened import_mark room (codes "forall") refl no_with))
      (without_formed import_mark g.exist_of (without_opened import_mark room (codes "exist") refl
      (without-then is_import (without-maybe is_import (without_mark import_mark (keyword (codes "unique")) refl)) no_with)))

  no_parenthesis : NoImport (g.parenthesis room inner)
  no_parenthesis =
      without_formed import_mark with_extent (without_bracketed import_mark room (codes "(") (codes ")") refl refl
      (without-either is_import (i.line quantifier) (without_formed import_mark g.tuple_of (without_listed import_mark refl (i.line term)))))

  no_set : NoImport (g.set room inner)
  no_set =
      without_formed import_mark g.set_of (without_bracketed import_mark room (codes "{") (codes "}") refl refl
      (without-maybe is_import (without_members import_mark refl refl (i.line term))))

  no_sequence : NoImport (g.sequence room inner)
  no_sequence =
      without_formed import_mark (λ span items. terms.Seq items span)
      (without_bracketed import_mark room (codes "[") (codes "]") refl refl (without-maybe is_import no_arguments))

  no_if_term : NoImport (g.if_term room inner)
  no_if_term =
      without_formed import_mark (λ span p. terms.If p.0 p.1.0 p.1.1 span) (without_enclosed import_mark room (codes "if") (codes "endif") refl refl
      (without-then is_import (i.line term) (without-then is_import (without_after_word import_mark (codes "then") refl (i.line term))
      (without-maybe is_import (without_after_word import_mark (codes "else") refl (i.line term))))))

  no_let_term : NoImport (g.let_term room inner)
  no_let_term =
      without_formed import_mark (λ span p. terms.Let p.0 p.1 span) (without_enclosed import_mark room (codes "let") (codes "endlet") refl refl
      (without-then is_import i.binds (without_after_word import_mark (codes "in") refl (i.line term))))

  no_case : NoImport (g.case room inner)
  no_case =
      without-made is_import g.case_of (without_after_word import_mark (codes "case") refl
      (without-then is_import (i.line term) (without_after_sign import_mark (codes ":") refl (i.line term))))

  no_switch_term : NoImport (g.switch_term room inner)
  no_switch_term =
      without_formed import_mark (λ span p. terms.Switch p.0 p.1.0 p.1.1 span) (without_enclosed import_mark room (codes "switch") (codes "endswitch") refl refl
      (without-then is_import (i.line term) (without-then is_import (without_many import_mark no_case)
      (without-maybe is_import (without_after_word import_mark (codes "otherwise") refl (i.line term))))))

  no_prim : NoImport (g.prim_form room inner)
  no_prim =
      without-either is_import no_plain (without-either is_import no_name (without-either is_import no_parenthesis (without-either is_import no_set
      (without-either is_import no_sequence (without-either is_import no_if_term (without-either is_import no_let_term no_switch_term))))))

module _ (fits : TermTree → Bool) (room : Bool) {inner : Forms} (i : NoImports inner) where
  no_sign : NoImport (g.sign_form fits room inner)
  no_sign =
      without-either is_import (without_formed import_mark g.prefix_of (without_open import_mark room (symbol (codes "-")) refl (i.line sign)))
      (no_prim room i)

  no_prod : NoImport (g.prod_form fits room inner)
  no_prod =
      without-chain is_import fits g.joined
      (without_open_one_of import_mark room (symbol (codes "*") ∷ keyword (codes "div") ∷ keyword (codes "mod") ∷ []) refl (i.line sign)) no_sign

  no_sum : NoImport (g.sum_form fits room inner)
  no_sum =
      without-chain is_import fits g.joined
      (without_open_one_of import_mark room (symbol (codes "+") ∷ symbol (codes "-") ∷ []) refl (i.line prod)) no_prod

  no_rel : NoImport (g.rel_form fits room inner)
  no_rel =
      without-made is_import g.joined_once (without-dangling is_import fits no_sum (without_open_one_of import_mark room g.relations refl (i.line sum)))

  no_neg : NoImport (g.neg_form fits room inner)
  no_neg =
      without-either is_import (without_formed import_mark g.prefix_of (without_open import_mark room (keyword (codes "not")) refl (i.line neg))) no_rel

  no_and : NoImport (g.and_form fits room inner)
  no_and = without-chain is_import fits g.joined (without_open import_mark room (keyword (codes "and")) refl (i.line neg)) no_neg

  no_or : NoImport (g.or_form fits room inner)
  no_or =
      without-chain is_import fits g.joined
      (without_open_one_of import_mark room (keyword (codes "or") ∷ keyword (codes "xor") ∷ []) refl (i.line and)) no_and

  no_imp : NoImport (g.imp_form fits room inner)
  no_imp =
      without-made is_import g.joined_once (without-dangling is_import fits no_or (without_open import_mark room (keyword (codes "implies")) refl (i.line imp)))

  no_term_form : NoImport (g.term_form fits room inner)
  no_term_form = without-chain is_import fits g.joined (without_open import_mark room (keyword (codes "iff")) refl (i.line imp)) no_imp

  no_line : (l : Line) → NoImport (g.line_form fits room inner l)
  no_line term = no_term_form
  no_line imp = no_imp
  no_line and = no_and
  no_line neg = no_neg
  no_line sum = no_sum
  no_line prod = no_prod
  no_line sign = no_sign
  no_line quantifier = no_quantified room i

no_at : (fits : TermTree → Bool) (n : ℕ) (inner : Forms) → NoImports inner → NoImports (g.forms_at fits n inner)
no_at fits n inner i = record { line = no_line fits (is_open n) i; ranges = no_ranges (no_domain n); binds = no_binds (is_open n) i }

pub no_inside : (fits : TermTree → Bool) (n : ℕ) → NoImports (g.inside fits n)
unfolding g.inside
no_inside fits zero = record { line = λ l. no_nowhere; ranges = no_nowhere; binds = no_nowhere }
no_inside fits (suc n) = no_at fits n (g.inside fits n) (no_inside fits n)

no_forms : (fits : TermTree → Bool) (n : ℕ) → NoImports (g.forms fits n)
unfolding g.forms
no_forms fits n = no_at fits n (g.inside fits n) (no_inside fits n)

pub no_term : (fits : TermTree → Bool) (n : ℕ) → NoImport (g.term_within fits n)
no_term fits n = (no_forms fits n).line term
