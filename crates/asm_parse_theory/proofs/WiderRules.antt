-- Where any term may stand left of an operator, each rule is spelled as before.
use Rattle.std.proofs.Common.{◌≡◌, ℕ, zero, suc, true, codes}
use Rattle.asm_grammar.specs.Language.{Language, word}
use Rattle.asm_grammar.proofs.Wider.{Wider, wider-same, wider-then, wider-either, wider-made, wider-maybe, wider-dangling}
use Rattle.asm_syntax.specs.declared.token.Token.{Token}
use Rattle.asm_syntax.specs.declared.tree.RuleTree.{RuleTree}
use Rattle.asm_syntax.specs.declared.tree.RuleTree.TheVariants as rules
use Rattle.asm_syntax.specs.Marks.{is, id, variable}
use Rattle.asm_syntax.specs.Forms.{any, is_open}
use Rattle.asm_syntax.specs.Heights.{fits}
use Rattle.asm_syntax.specs.Terms as t
use Rattle.asm_syntax.specs.Terms.{Forms}
use Rattle.asm_syntax.specs.Rules as g
use Rattle.asm_syntax.specs.Rules.{is_closed, Calls, Updates, use_of, choose_of, extend_of, case_of}
use Rattle.asm_parse_theory.proofs.FormFacts as f
use Rattle.asm_parse_theory.proofs.RuleParts as parts
use Rattle.asm_parse_theory.proofs.OfTerms.{OfTerms}

module _ (k : OfTerms) (n : ℕ) (s : is_open n ≡ true → Wider (g.inside fits n) (g.inside any n)) where
  -- what a construct holds, where one more may be open
  abbrev WiderParts : {V : Type 0} → (Forms → Language Token RuleTree → Language Token V) → Type 0
  WiderParts L = is_open n ≡ true → Wider (L (t.inside fits n) (g.inside fits n)) (L (t.inside any n) (g.inside any n))

  wider_guard : WiderParts parts.guard
  wider_guard o = wider-maybe (f.wider_after_word (k.inner.wider n o) (codes "with"))

  wider_par_rule : WiderParts parts.par_rule
  wider_par_rule o = wider-then (s o) (f.wider_many (s o))

  wider_if_rule : WiderParts parts.if_rule
  wider_if_rule o =
      wider-then (k.inner.wider n o) (wider-then (f.wider_after_word (s o) (codes "then"))
      (wider-maybe (f.wider_after_word (s o) (codes "else"))))

  wider_forall : WiderParts parts.forall
  wider_forall o = wider-then (k.ranges.wider n o) (wider-then (wider_guard o) (f.wider_after_word (s o) (codes "do")))

  wider_choose_rule : WiderParts parts.choose_rule
  wider_choose_rule o =
      wider-then (k.ranges.wider n o) (wider-then (wider_guard o)
      (f.wider_after_word (wider-dangling is_closed is_closed (λ v h. h) (s o) (f.wider_after_word (s o) (codes "ifnone"))) (codes "do")))

  wider_let_rule : WiderParts parts.let_rule
  wider_let_rule o = wider-then (k.binds.wider n o) (f.wider_after_word (s o) (codes "in"))

  wider_case : WiderParts parts.case
  wider_case o =
      wider-made case_of (f.wider_after_word (wider-then (k.inner.wider n o) (f.wider_after_sign (s o) (codes ":"))) (codes "case"))

  wider_switch_rule : WiderParts parts.switch_rule
  wider_switch_rule o =
      wider-then (k.inner.wider n o) (wider-then (f.wider_many (wider_case o))
      (wider-maybe (f.wider_after_word (s o) (codes "otherwise"))))

  wider_extend_rule : WiderParts parts.extend_rule
  wider_extend_rule o =
      wider-then (wider-same (word (is id))) (f.wider_after_word
      (wider-then (f.wider_listed (wider-same (word (is variable)))) (f.wider_after_word (s o) (codes "do"))) (codes "with"))

  wider_call_or_update : Wider (g.call_or_update (is_open n) (t.term_within fits n) (t.call (is_open n) (t.inside fits n)) (t.inside fits n) (g.inside fits n))
      (g.call_or_update (is_open n) (t.term_within any n) (t.call (is_open n) (t.inside any n)) (t.inside any n) (g.inside any n))
  wider_call_or_update =
      f.wider_formed (wider-then (wider-same (word (is id))) (wider-either
      (wider-made Calls (f.wider_bracketed (is_open n) (is_open n) (λ o. o) (λ o. wider-maybe (k.arguments.wider n o)) (codes "[") (codes "]")))
      (wider-made Updates (wider-then (wider-maybe (k.call.wider n)) (f.wider_after_sign (k.value.wider n) (codes ":=")))))) use_of

  wider_form : Wider (g.rule_at fits n (g.inside fits n)) (g.rule_at any n (g.inside any n))
  wider_form =
      wider-either (f.wider_formed (f.wider_quoted (codes "skip")) (λ span t. rules.Skip span))
      (wider-either wider_call_or_update
      (wider-either (f.wider_formed (f.wider_enclosed (is_open n) (is_open n) (λ o. o) wider_par_rule (codes "par") (codes "endpar"))
      (λ span p. rules.Par p.0 p.1 span))
      (wider-either (f.wider_formed (f.wider_enclosed (is_open n) (is_open n) (λ o. o) wider_par_rule (codes "seq") (codes "endseq"))
      (λ span p. rules.Seq p.0 p.1 span))
      (wider-either (f.wider_formed (f.wider_enclosed (is_open n) (is_open n) (λ o. o) wider_if_rule (codes "if") (codes "endif"))
      (λ span p. rules.If p.0 p.1.0 p.1.1 span))
      (wider-either (f.wider_formed (f.wider_opened (is_open n) (is_open n) (λ o. o) wider_forall (codes "forall"))
      (λ span p. rules.Forall p.0 p.1.0 p.1.1 span))
      (wider-either (f.wider_formed (f.wider_opened (is_open n) (is_open n) (λ o. o) wider_choose_rule (codes "choose")) choose_of)
      (wider-either (f.wider_formed (f.wider_enclosed (is_open n) (is_open n) (λ o. o) wider_let_rule (codes "let") (codes "endlet"))
      (λ span p. rules.Let p.0 p.1 span))
      (wider-either (f.wider_formed (f.wider_enclosed (is_open n) (is_open n) (λ o. o) wider_switch_rule (codes "switch") (codes "endswitch"))
      (λ span p. rules.Switch p.0 p.1.0 p.1.1 span))
      (f.wider_formed (f.wider_opened (is_open n) (is_open n) (λ o. o) wider_extend_rule (codes "extend")) extend_of)))))))))

module _ (k : OfTerms) where
  pub wider_inside : (n : ℕ) → is_open n ≡ true → Wider (g.inside fits n) (g.inside any n)
  unfolding g.inside
  wider_inside zero o = absurd (cc o)
  wider_inside (suc n) o = wider_form k n (wider_inside n)

  pub wider_rule : (n : ℕ) → Wider (g.rule_within fits n) (g.rule_within any n)
  unfolding g.rule_within
  wider_rule n = wider_form k n (wider_inside n)
