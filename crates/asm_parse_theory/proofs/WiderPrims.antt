-- More terms without operators are spelled where more terms are spelled one construct deeper.
use Rattle.std.proofs.Common.{◌≡◌, Bool, true, codes}
use Rattle.asm_grammar.specs.Language.{word}
use Rattle.asm_grammar.proofs.Wider.{Wider, wider-same, wider-then, wider-either, wider-made, wider-maybe}
use Rattle.asm_syntax.specs.declared.tree.TermTree.TheVariants as terms
use Rattle.asm_syntax.specs.Marks.{is, id, variable, number, chars}
use Rattle.asm_syntax.specs.Extents.{with_extent}
use Rattle.asm_syntax.specs.Terms as g
use Rattle.asm_syntax.specs.Terms.{Forms, terms_of, bind_of, binds_of, case_of, tuple_of, set_of, exist_of}
use Rattle.asm_parse_theory.proofs.FormFacts.{wider_quoted, wider_after_word, wider_after_sign, wider_many, wider_formed, wider_listed, wider_members, wider_opened, wider_enclosed, wider_bracketed, wider_in_parentheses}
use Rattle.asm_parse_theory.proofs.TermParts.{WiderParts}

pub wider_arguments : {L M : Forms} → WiderParts L M → Wider (g.arguments L) (g.arguments M)
wider_arguments f = wider-made terms_of (wider_listed (f.line g.term))

module _ (room : Bool) {L M : Forms} (f : room ≡ true → WiderParts L M) where
  pub wider_call : Wider (g.call room L) (g.call room M)
  wider_call = wider_in_parentheses room room (λ o. o) (λ o. wider_arguments (f o))

  wider_bind : room ≡ true → Wider (g.bind room L) (g.bind room M)
  wider_bind o = wider-made bind_of (wider-then (wider-same (word (is variable))) (wider_after_sign ((f o).line g.term) (codes "=")))

  pub wider_binds : Wider (g.binds room L) (g.binds room M)
  wider_binds = wider_formed (wider_in_parentheses room room (λ o. o) (λ o. wider_listed (wider_bind o))) binds_of

  wider_plain : Wider (g.plain room L) (g.plain room M)
  wider_plain =
      wider-either (wider_formed (wider-same (word (is number))) (λ span t. terms.Number t span))
      (wider-either (wider_formed (wider-same (word (is chars))) (λ span t. terms.Chars t span))
      (wider-either (wider_formed (wider_quoted (codes "true")) (λ span t. terms.True span))
      (wider-either (wider_formed (wider_quoted (codes "false")) (λ span t. terms.False span))
      (wider-either (wider_formed (wider_quoted (codes "undef")) (λ span t. terms.Undef span))
      (wider_formed (wider-same (word (is variable))) (λ span t. terms.Var t span))))))

  wider_name : Wider (g.name room L) (g.name room M)
  wider_name = wider_formed (wider-then (wider-same (word (is id))) (wider-maybe wider_call)) (λ span p. terms.Name p.0 p.1 span)

  pub wider_quantified : Wider (g.quantified room L) (g.quantified room M)
  wider_quantified =
      wider-either
      (wider_formed (wider_opened room room (λ o. o) (λ o. wider-then (f o).ranges (wider_after_word ((f o).line g.term) (codes "with"))) (codes "forall"))
      (λ span p. terms.Forall p.0 p.1 span))
      (wider_formed (wider_opened room room (λ o. o) (λ o. wider-then (wider-maybe (wider_quoted (codes "unique")))
      (wider-then (f o).ranges (wider_after_word ((f o).line g.term) (codes "with")))) (codes "exist")) exist_of)

  wider_parenthesis : Wider (g.parenthesis room L) (g.parenthesis room M)
  wider_parenthesis =
      wider_formed (wider_in_parentheses room room (λ o. o)
      (λ o. wider-either ((f o).line g.quantifier) (wider_formed (wider_listed ((f o).line g.term)) tuple_of))) with_extent

  wider_set : Wider (g.set room L) (g.set room M)
  wider_set =
      wider_formed (wider_bracketed room room (λ o. o) (λ o. wider-maybe (wider_members ((f o).line g.term))) (codes "{") (codes "}")) set_of

  wider_sequence : Wider (g.sequence room L) (g.sequence room M)
  wider_sequence =
      wider_formed (wider_bracketed room room (λ o. o) (λ o. wider-maybe (wider_arguments (f o))) (codes "[") (codes "]"))
      (λ span items. terms.Seq items span)

  wider_if_term : Wider (g.if_term room L) (g.if_term room M)
  wider_if_term =
      wider_formed (wider_enclosed room room (λ o. o) (λ o. wider-then ((f o).line g.term) (wider-then (wider_after_word ((f o).line g.term) (codes "then"))
      (wider-maybe (wider_after_word ((f o).line g.term) (codes "else"))))) (codes "if") (codes "endif"))
      (λ span p. terms.If p.0 p.1.0 p.1.1 span)

  wider_let_term : Wider (g.let_term room L) (g.let_term room M)
  wider_let_term =
      wider_formed (wider_enclosed room room (λ o. o) (λ o. wider-then (f o).binds (wider_after_word ((f o).line g.term) (codes "in")))
      (codes "let") (codes "endlet")) (λ span p. terms.Let p.0 p.1 span)

  wider_case : room ≡ true → Wider (g.case room L) (g.case room M)
  wider_case o =
      wider-made case_of (wider_after_word (wider-then ((f o).line g.term) (wider_after_sign ((f o).line g.term) (codes ":"))) (codes "case"))

  wider_switch_term : Wider (g.switch_term room L) (g.switch_term room M)
  wider_switch_term =
      wider_formed (wider_enclosed room room (λ o. o) (λ o. wider-then ((f o).line g.term) (wider-then (wider_many (wider_case o))
      (wider-maybe (wider_after_word ((f o).line g.term) (codes "otherwise"))))) (codes "switch") (codes "endswitch"))
      (λ span p. terms.Switch p.0 p.1.0 p.1.1 span)

  pub wider_prim : Wider (g.prim_form room L) (g.prim_form room M)
  wider_prim =
      wider-either wider_plain (wider-either wider_name (wider-either wider_parenthesis (wider-either wider_set
      (wider-either wider_sequence (wider-either wider_if_term (wider-either wider_let_term wider_switch_term))))))
