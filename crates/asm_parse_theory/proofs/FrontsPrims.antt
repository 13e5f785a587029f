-- Fronts of partial spellings of terms without operators are partial spellings.
use Rattle.std.proofs.Common.{◌≡◌, Bool, true, codes}
use Rattle.asm_grammar.proofs.Fronts.{Fronts, fronts-word, fronts-then, fronts-either, fronts-made, fronts-maybe}
use Rattle.asm_syntax.specs.declared.tree.TermTree.TheVariants as terms
use Rattle.asm_syntax.specs.Marks.{is, id, variable, number, chars}
use Rattle.asm_syntax.specs.Extents.{with_extent}
use Rattle.asm_syntax.specs.Terms as g
use Rattle.asm_syntax.specs.Terms.{Forms, terms_of, bind_of, binds_of, case_of, tuple_of, set_of, exist_of}
use Rattle.asm_parse_theory.proofs.FormFacts.{fronts_quoted, fronts_after_word, fronts_after_sign, fronts_many, fronts_formed, fronts_listed, fronts_members, fronts_opened, fronts_enclosed, fronts_bracketed, fronts_in_parentheses}
use Rattle.asm_parse_theory.proofs.TermParts.{FrontsParts}

pub fronts_arguments : {L : Forms} → FrontsParts L → Fronts (g.arguments L)
fronts_arguments f = fronts-made terms_of (fronts_listed (f.line g.term))

module _ (room : Bool) {L : Forms} (f : room ≡ true → FrontsParts L) where
  pub fronts_call : Fronts (g.call room L)
  fronts_call = fronts_in_parentheses room (λ o. fronts_arguments (f o))

  fronts_bind : room ≡ true → Fronts (g.bind room L)
  fronts_bind o = fronts-made bind_of (fronts-then (fronts-word (is variable)) (fronts_after_sign ((f o).line g.term) (codes "=")))

  pub fronts_binds : Fronts (g.binds room L)
  fronts_binds = fronts_formed (fronts_in_parentheses room (λ o. fronts_listed (fronts_bind o))) binds_of

  fronts_plain : Fronts (g.plain room L)
  fronts_plain =
      fronts-either (fronts_formed (fronts-word (is number)) (λ span t. terms.Number t span))
      (fronts-either (fronts_formed (fronts-word (is chars)) (λ span t. terms.Chars t span))
      (fronts-either (fronts_formed (fronts_quoted (codes "true")) (λ span t. terms.True span))
      (fronts-either (fronts_formed (fronts_quoted (codes "false")) (λ span t. terms.False span))
      (fronts-either (fronts_formed (fronts_quoted (codes "undef")) (λ span t. terms.Undef span))
      (fronts_formed (fronts-word (is variable)) (λ span t. terms.Var t span))))))

  fronts_name : Fronts (g.name room L)
  fronts_name = fronts_formed (fronts-then (fronts-word (is id)) (fronts-maybe fronts_call)) (λ span p. terms.Name p.0 p.1 span)

  pub fronts_quantified : Fronts (g.quantified room L)
  fronts_quantified =
      fronts-either
      (fronts_formed (fronts_opened room (λ o. fronts-then (f o).ranges (fronts_after_word ((f o).line g.term) (codes "with"))) (codes "forall"))
      (λ span p. terms.Forall p.0 p.1 span))
      (fronts_formed (fronts_opened room (λ o. fronts-then (fronts-maybe (fronts_quoted (codes "unique")))
      (fronts-then (f o).ranges (fronts_after_word ((f o).line g.term) (codes "with")))) (codes "exist")) exist_of)

  fronts_parenthesis : Fronts (g.parenthesis room L)
  fronts_parenthesis =
      fronts_formed (fronts_in_parentheses room
      (λ o. fronts-either ((f o).line g.quantifier) (fronts_formed (fronts_listed ((f o).line g.term)) tuple_of))) with_extent

  fronts_set : Fronts (g.set room L)
  fronts_set =
      fronts_formed (fronts_bracketed room (λ o. fronts-maybe (fronts_members ((f o).line g.term))) (codes "{") (codes "}")) set_of

  fronts_sequence : Fronts (g.sequence room L)
  fronts_sequence =
      fronts_formed (fronts_bracketed room (λ o. fronts-maybe (fronts_arguments (f o))) (codes "[") (codes "]"))
      (λ span items. terms.Seq items span)

  fronts_if_term : Fronts (g.if_term room L)
  fronts_if_term =
      fronts_formed (fronts_enclosed room (λ o. fronts-then ((f o).line g.term) (fronts-then (fronts_after_word ((f o).line g.term) (codes "then"))
      (fronts-maybe (fronts_after_word ((f o).line g.term) (codes "else"))))) (codes "if") (codes "endif"))
      (λ span p. terms.If p.0 p.1.0 p.1.1 span)

  fronts_let_term : Fronts (g.let_term room L)
  fronts_let_term =
      fronts_formed (fronts_enclosed room (λ o. fronts-then (f o).binds (fronts_after_word ((f o).line g.term) (codes "in")))
      (codes "let") (codes "endlet")) (λ span p. terms.Let p.0 p.1 span)

  fronts_case : room ≡ true → Fronts (g.case room L)
  fronts_case o =
      fronts-made case_of (fronts_after_word (fronts-then ((f o).line g.term) (fronts_after_sign ((f o).line g.term) (codes ":"))) (codes "case"))

  fronts_switch_term : Fronts (g.switch_term room L)
  fronts_switch_term =
      fronts_formed (fronts_enclosed room (λ o. fronts-then ((f o).line g.term) (fronts-then (fronts_many (fronts_case o))
      (fronts-maybe (fronts_after_word ((f o).line g.term) (codes "otherwise"))))) (codes "switch") (codes "endswitch"))
      (λ span p. terms.Switch p.0 p.1.0 p.1.1 span)

  pub fronts_prim : Fronts (g.prim_form room L)
  fronts_prim =
      fronts-either fronts_plain (fronts-either fronts_name (fronts-either fronts_parenthesis (fronts-either fronts_set
      (fronts-either fronts_sequence (fronts-either fronts_if_term (fronts-either fronts_let_term fronts_switch_term))))))
