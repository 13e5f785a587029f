-- Each front of a partial spelling of a rule is one.
use Rattle.std.proofs.Common.{◌≡◌, ℕ, zero, suc, Bool, true, codes}
use Rattle.asm_grammar.specs.Language.{Language}
use Rattle.asm_grammar.proofs.Fronts.{Fronts, fronts-word, fronts-then, fronts-either, fronts-made, fronts-maybe, fronts-dangling}
use Rattle.asm_syntax.specs.declared.token.Token.{Token}
use Rattle.asm_syntax.specs.declared.tree.TermTree.{TermTree}
use Rattle.asm_syntax.specs.declared.tree.RuleTree.{RuleTree}
use Rattle.asm_syntax.specs.declared.tree.RuleTree.TheVariants as rules
use Rattle.asm_syntax.specs.Marks.{is, id, variable}
use Rattle.asm_syntax.specs.Forms.{is_open}
use Rattle.asm_syntax.specs.Terms as t
use Rattle.asm_syntax.specs.Terms.{Forms}
use Rattle.asm_syntax.specs.Rules as g
use Rattle.asm_syntax.specs.Rules.{is_closed, Calls, Updates, use_of, choose_of, extend_of, case_of}
use Rattle.asm_parse_theory.proofs.FormFacts as f
use Rattle.asm_parse_theory.proofs.RuleParts as parts
use Rattle.asm_parse_theory.proofs.OfTerms.{OfTerms}

module _ (k : OfTerms) (fits' : TermTree → Bool) (n : ℕ) (s : is_open n ≡ true → Fronts (g.inside fits' n)) where
  -- what a construct holds, where one more may be open
  abbrev FrontsParts : {V : Type 0} → (Forms → Language Token RuleTree → Language Token V) → Type 0
  FrontsParts L = is_open n ≡ true → Fronts (L (t.inside fits' n) (g.inside fits' n))

  fronts_guard : FrontsParts parts.guard
  fronts_guard o = fronts-maybe (f.fronts_after_word (k.inner.fronts fits' n o) (codes "with"))

  fronts_par_rule : FrontsParts parts.par_rule
  fronts_par_rule o = fronts-then (s o) (f.fronts_many (s o))

  fronts_if_rule : FrontsParts parts.if_rule
  fronts_if_rule o =
      fronts-then (k.inner.fronts fits' n o) (fronts-then (f.fronts_after_word (s o) (codes "then"))
      (fronts-maybe (f.fronts_after_word (s o) (codes "else"))))

  fronts_forall : FrontsParts parts.forall
  fronts_forall o = fronts-then (k.ranges.fronts fits' n o) (fronts-then (fronts_guard o) (f.fronts_after_word (s o) (codes "do")))

  fronts_choose_rule : FrontsParts parts.choose_rule
  fronts_choose_rule o =
      fronts-then (k.ranges.fronts fits' n o) (fronts-then (fronts_guard o)
      (f.fronts_after_word (fronts-dangling is_closed (s o) (f.fronts_after_word (s o) (codes "ifnone"))) (codes "do")))

  fronts_let_rule : FrontsParts parts.let_rule
  fronts_let_rule o = fronts-then (k.binds.fronts fits' n o) (f.fronts_after_word (s o) (codes "in"))

  fronts_case : FrontsParts parts.case
  fronts_case o =
      fronts-made case_of (f.fronts_after_word (fronts-then (k.inner.fronts fits' n o) (f.fronts_after_sign (s o) (codes ":"))) (codes "case"))

  fronts_switch_rule : FrontsParts parts.switch_rule
  fronts_switch_rule o =
      fronts-then (k.inner.fronts fits' n o) (fronts-then (f.fronts_many (fronts_case o))
      (fronts-maybe (f.fronts_after_word (s o) (codes "otherwise"))))

  fronts_extend_rule : FrontsParts parts.extend_rule
  fronts_extend_rule o =
      fronts-then (fronts-word (is id)) (f.fronts_after_word
      (fronts-then (f.fronts_listed (fronts-word (is variable))) (f.fronts_after_word (s o) (codes "do"))) (codes "with"))

  fronts_call_or_update : Fronts (g.call_or_update (is_open n) (t.term_within fits' n) (t.call (is_open n) (t.inside fits' n)) (t.inside fits' n) (g.inside fits' n))
  fronts_call_or_update =
      f.fronts_formed (fronts-then (fronts-word (is id)) (fronts-either
      (fronts-made Calls (f.fronts_bracketed (is_open n) (λ o. fronts-maybe (k.arguments.fronts fits' n o)) (codes "[") (codes "]")))
      (fronts-made Updates (fronts-then (fronts-maybe (k.call.fronts fits' n)) (f.fronts_after_sign (k.value.fronts fits' n) (codes ":=")))))) use_of

  fronts_form : Fronts (g.rule_at fits' n (g.inside fits' n))
  fronts_form =
      fronts-either (f.fronts_formed (f.fronts_quoted (codes "skip")) (λ span t. rules.Skip span))
      (fronts-either fronts_call_or_update
      (fronts-either (f.fronts_formed (f.fronts_enclosed (is_open n) fronts_par_rule (codes "par") (codes "endpar"))
      (λ span p. rules.Par p.0 p.1 span))
      (fronts-either (f.fronts_formed (f.fronts_enclosed (is_open n) fronts_par_rule (codes "seq") (codes "endseq"))
      (λ span p. rules.Seq p.0 p.1 span))
      (fronts-either (f.fronts_formed (f.fronts_enclosed (is_open n) fronts_if_rule (codes "if") (codes "endif"))
      (λ span p. rules.If p.0 p.1.0 p.1.1 span))
      (fronts-either (f.fronts_formed (f.fronts_opened (is_open n) fronts_forall (codes "forall"))
      (λ span p. rules.Forall p.0 p.1.0 p.1.1 span))
      (fronts-either (f.fronts_formed (f.fronts_opened (is_open n) fronts_choose_rule (codes "choose")) choose_of)
      (fronts-either (f.fronts_formed (f.fronts_enclosed (is_open n) fronts_let_rule (codes "let") (codes "endlet"))
      (λ span p. rules.Let p.0 p.1 span))
      (fronts-either (f.fronts_formed (f.fronts_enclosed (is_open n) fronts_switch_rule (codes "switch") (codes "endswitch"))
      (λ span p. rules.Switch p.0 p.1.0 p.1.1 span))
      (f.fronts_formed (f.fronts_opened (is_open n) fronts_extend_rule (codes "extend")) extend_of)))))))))

module _ (k : OfTerms) (fits' : TermTree → Bool) where
  pub fronts_inside : (n : ℕ) → is_open n ≡ true → Fronts (g.inside fits' n)
  unfolding g.inside
  fronts_inside zero o = absurd (cc o)
  fronts_inside (suc n) o = fronts_form k fits' n (fronts_inside n)

  pub fronts_rule : (n : ℕ) → Fronts (g.rule_within fits' n)
  unfolding g.rule_within
  fronts_rule n = fronts_form k fits' n (fronts_inside n)
