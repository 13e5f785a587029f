-- What the parser takes for a rule is spelled by the grammar.
use Rattle.std.proofs.Common.{◌≡◌, ℕ, zero, suc, [], Bool, true, inl, inr, refl, subst, codes}
use Rattle.asm_grammar.specs.Language.{Language, ◌either◌}
use Rattle.asm_grammar.specs.Parser.{Parser}
use Rattle.asm_grammar.proofs.Exact.{Sound}
use Rattle.asm_grammar.proofs.Basic.{sound-word, sound-made}
use Rattle.asm_grammar.proofs.Pairs.{sound-then}
use Rattle.asm_grammar.proofs.Choices.{sound-either}
use Rattle.asm_grammar.proofs.Maybe.{sound-maybe}
use Rattle.asm_grammar.proofs.Dangling.{sound-dangling}
use Rattle.asm_syntax.specs.declared.token.Token.{Token}
use Rattle.asm_syntax.specs.declared.tree.TermTree.{TermTree}
use Rattle.asm_syntax.specs.declared.tree.TermsTree.{TermsTree}
use Rattle.asm_syntax.specs.declared.tree.RuleTree.{RuleTree}
use Rattle.asm_syntax.specs.declared.tree.RuleTree.TheVariants as rules
use Rattle.asm_syntax.specs.Marks.{is, id, variable, keyword, symbol}
use Rattle.asm_syntax.specs.Forms.{any, is_open}
use Rattle.asm_syntax.specs.Heights.{fits}
use Rattle.asm_syntax.specs.Terms as tg
use Rattle.asm_syntax.specs.Terms.{Forms}
use Rattle.asm_syntax.specs.Rules as g
use Rattle.asm_syntax.specs.Rules.{is_closed, Calls, Updates, use_of, choose_of, extend_of, case_of}
use Rattle.asm_parse_theory.specs.Firsts.{among, starts_term, starts_rule}
use Rattle.asm_parse_theory.specs.Terms as t
use Rattle.asm_parse_theory.specs.Terms.{Readers}
use Rattle.asm_parse_theory.specs.Rules as r
use Rattle.asm_parse_theory.proofs.OfTerms.{OfTerms}
use Rattle.asm_parse_theory.proofs.FormFacts as f
use Rattle.asm_parse_theory.proofs.RuleParts as parts
use Rattle.asm_parse_theory.proofs.RuleParts.{ifnone}
use Rattle.asm_parse_theory.proofs.GreedyRules.{greedy_inside}

-- ---- what constructs hold

module _ (k : OfTerms) (n : ℕ) (s : is_open n ≡ true → Sound (r.inside n) (g.inside fits n) (g.inside any (suc n)))
    (starts : is_open n ≡ true → f.Starts starts_rule (g.inside any (suc n))) where
  -- what a construct holds, where one more may be open
  abbrev SoundParts : {V : Type 0} → (Readers → Parser Token RuleTree → Parser Token V)
      → (Forms → Language Token RuleTree → Language Token V) → Type 0
  SoundParts q L =
      is_open n ≡ true
      → Sound (q (t.inside n) (r.inside n)) (L (tg.inside fits n) (g.inside fits n)) (L (tg.inside any (suc n)) (g.inside any (suc n)))

  pub sound_guard : SoundParts parts.guard_read parts.guard
  sound_guard o = sound-maybe (is (keyword (codes "with"))) (f.sound_after_word (k.inner.sound n o) (codes "with"))

  pub sound_par_rule : SoundParts parts.par_rule_read parts.par_rule
  sound_par_rule o = sound-then (s o) (f.sound_many (s o) starts_rule (starts o))

  pub sound_if_rule : SoundParts parts.if_rule_read parts.if_rule
  sound_if_rule o =
      sound-then (k.inner.sound n o) (sound-then (f.sound_after_word (s o) (codes "then"))
      (sound-maybe (is (keyword (codes "else"))) (f.sound_after_word (s o) (codes "else"))))

  pub sound_forall : SoundParts parts.forall_read parts.forall
  sound_forall o = sound-then (k.ranges.sound n o) (sound-then (sound_guard o) (f.sound_after_word (s o) (codes "do")))

  pub sound_choose_rule : SoundParts parts.choose_rule_read parts.choose_rule
  sound_choose_rule o =
      sound-then (k.ranges.sound n o) (sound-then (sound_guard o)
      (f.sound_after_word (sound-dangling is_closed ifnone (s o) (f.sound_after_word (s o) (codes "ifnone")) (greedy_inside n)) (codes "do")))

  pub sound_let_rule : SoundParts parts.let_rule_read parts.let_rule
  sound_let_rule o = sound-then (k.binds.sound n o) (f.sound_after_word (s o) (codes "in"))

  pub sound_case : SoundParts parts.case_read parts.case
  sound_case o =
      sound-made case_of (f.sound_after_word (sound-then (k.inner.sound n o) (f.sound_after_sign (s o) (codes ":"))) (codes "case"))

  pub sound_switch_rule : SoundParts parts.switch_rule_read parts.switch_rule
  sound_switch_rule o =
      sound-then (k.inner.sound n o)
      (sound-then (f.sound_many (sound_case o) (is (keyword (codes "case"))) (λ t h. inl (inr (t, h, refl))))
      (sound-maybe (is (keyword (codes "otherwise"))) (f.sound_after_word (s o) (codes "otherwise"))))

  pub sound_extend_rule : SoundParts parts.extend_rule_read parts.extend_rule
  sound_extend_rule o =
      subst (λ q. Sound q (parts.extend_rule (tg.inside fits n) (g.inside fits n)) (parts.extend_rule (tg.inside any (suc n)) (g.inside any (suc n))))
      (parts.extend_rule_same (t.inside n) (r.inside n))
      (sound-then (sound-word (is id)) (f.sound_after_word
      (sound-then (f.sound_listed (sound-word (is variable))) (f.sound_after_word (s o) (codes "do"))) (codes "with")))

-- ---- the forms of rules

module _ (k : OfTerms) (n : ℕ) (s : is_open n ≡ true → Sound (r.inside n) (g.inside fits n) (g.inside any (suc n)))
    (starts : is_open n ≡ true → f.Starts starts_rule (g.inside any (suc n))) (empty : (g.inside any (suc n)).Begins []) where
  abbrev SoundForm : (Bool → Parser Token TermTree → Parser Token TermsTree → Readers → Parser Token RuleTree → Parser Token RuleTree)
      → (Bool → Language Token TermTree → Language Token TermsTree → Forms → Language Token RuleTree → Language Token RuleTree) → Type 0
  SoundForm q L =
      Sound (q (is_open n) (t.term n) (t.call (is_open n) (t.inside n)) (t.inside n) (r.inside n))
      (L (is_open n) (tg.term_within fits n) (tg.call (is_open n) (tg.inside fits n)) (tg.inside fits n) (g.inside fits n))
      (L true (tg.term_within any (suc n)) (tg.call true (tg.inside any (suc n))) (tg.inside any (suc n)) (g.inside any (suc n)))

  sound_skip : SoundForm r.skip g.skip
  unfolding r.skip
  sound_skip = f.sound_formed (f.sound_quoted (codes "skip")) (λ span t. rules.Skip span)

  sound_call_or_update : SoundForm r.call_or_update g.call_or_update
  unfolding r.call_or_update
  sound_call_or_update =
      f.sound_formed (sound-then (sound-word (is id)) (sound-either (is (symbol (codes "[")))
      (sound-made Calls (f.sound_bracketed (is_open n) (λ o. sound-maybe starts_term (k.arguments.sound n o)) (inr refl) (codes "[") (codes "]")))
      (sound-made Updates (sound-then (sound-maybe (is (symbol (codes "("))) (k.call.sound n))
      (f.sound_after_sign (k.value.sound n) (codes ":=")))))) use_of

  sound_par : SoundForm r.par_rule g.par_rule
  unfolding r.par_rule
  sound_par =
      f.sound_formed (f.sound_enclosed (is_open n) (sound_par_rule k n s starts) (inl empty) (codes "par") (codes "endpar"))
      (λ span p. rules.Par p.0 p.1 span)

  sound_seq : SoundForm r.seq_rule g.seq_rule
  unfolding r.seq_rule
  sound_seq =
      f.sound_formed (f.sound_enclosed (is_open n) (sound_par_rule k n s starts) (inl empty) (codes "seq") (codes "endseq"))
      (λ span p. rules.Seq p.0 p.1 span)

  sound_if : SoundForm r.if_rule g.if_rule
  unfolding r.if_rule
  sound_if =
      f.sound_formed (f.sound_enclosed (is_open n) (sound_if_rule k n s starts) (inl (k.inner.empty any n)) (codes "if") (codes "endif"))
      (λ span p. rules.If p.0 p.1.0 p.1.1 span)

  sound_all : SoundForm r.forall g.forall
  unfolding r.forall
  sound_all =
      f.sound_formed (f.sound_opened (is_open n) (sound_forall k n s starts) (inl (k.ranges.empty any n)) (codes "forall"))
      (λ span p. rules.Forall p.0 p.1.0 p.1.1 span)

  sound_choose : SoundForm r.choose_rule g.choose_rule
  unfolding r.choose_rule
  sound_choose = f.sound_formed (f.sound_opened (is_open n) (sound_choose_rule k n s starts) (inl (k.ranges.empty any n)) (codes "choose")) choose_of

  sound_let : SoundForm r.let_rule g.let_rule
  unfolding r.let_rule
  sound_let =
      f.sound_formed (f.sound_enclosed (is_open n) (sound_let_rule k n s starts) (inl (k.binds.empty any n)) (codes "let") (codes "endlet"))
      (λ span p. rules.Let p.0 p.1 span)

  sound_switch : SoundForm r.switch_rule g.switch_rule
  unfolding r.switch_rule r.case
  sound_switch =
      f.sound_formed (f.sound_enclosed (is_open n) (sound_switch_rule k n s starts) (inl (k.inner.empty any n)) (codes "switch") (codes "endswitch"))
      (λ span p. rules.Switch p.0 p.1.0 p.1.1 span)

  sound_extend : SoundForm r.extend_rule g.extend_rule
  unfolding r.extend_rule
  sound_extend = f.sound_formed (f.sound_opened (is_open n) (sound_extend_rule k n s starts) (inl (inl refl)) (codes "extend")) extend_of

  pub sound_form : SoundForm r.rule_form g.rule_form
  unfolding r.rule_form
  sound_form =
      sound-either (is (keyword (codes "skip"))) sound_skip (sound-either (is id) sound_call_or_update
      (sound-either (is (keyword (codes "par"))) sound_par (sound-either (is (keyword (codes "seq"))) sound_seq
      (sound-either (is (keyword (codes "if"))) sound_if (sound-either (is (keyword (codes "forall"))) sound_all
      (sound-either (is (keyword (codes "choose"))) sound_choose (sound-either (is (keyword (codes "let"))) sound_let
      (sound-either (is (keyword (codes "switch"))) sound_switch sound_extend))))))))

-- ---- how a rule is begun

pub form_empty : (room : Bool) (value : Language Token TermTree) (call : Language Token TermsTree) (inner : Forms) (rule : Language Token RuleTree)
    → (g.rule_form room value call inner rule).Begins []
form_empty room value call inner rule = inl (inl refl)

module _ (value : Language Token TermTree) (call : Language Token TermsTree) (inner : Forms) (rule : Language Token RuleTree)
    (of_term : (inner.line tg.term).Begins []) (of_ranges : inner.ranges.Begins []) (of_binds : inner.binds.Begins []) (of_rule : rule.Begins []) where
  abbrev form : (Bool → Language Token TermTree → Language Token TermsTree → Forms → Language Token RuleTree → Language Token RuleTree)
      → Language Token RuleTree
  form L = L true value call inner rule

  -- a form, and all those after it
  abbrev last_switch : Language Token RuleTree
  last_switch = form g.switch_rule either form g.extend_rule

  abbrev last_let : Language Token RuleTree
  last_let = form g.let_rule either last_switch

  abbrev last_choose : Language Token RuleTree
  last_choose = form g.choose_rule either last_let

  abbrev last_forall : Language Token RuleTree
  last_forall = form g.forall either last_choose

  abbrev last_if : Language Token RuleTree
  last_if = form g.if_rule either last_forall

  abbrev last_seq : Language Token RuleTree
  last_seq = form g.seq_rule either last_if

  abbrev last_par : Language Token RuleTree
  last_par = form g.par_rule either last_seq

  abbrev last_call_or_update : Language Token RuleTree
  last_call_or_update = form g.call_or_update either last_par

  form_starts : f.Starts starts_rule (g.rule_form true value call inner rule)
  form_starts =
      f.starts_either (is (keyword (codes "skip"))) (among parts.from_call_or_update) (form g.skip) last_call_or_update
      (λ t h. inr (t, h, refl))
      (f.starts_either (is id) (among parts.from_par) (form g.call_or_update) last_par
      (λ t h. inl (inr (t, h, refl)))
      (f.starts_either (is (keyword (codes "par"))) (among parts.from_seq) (form g.par_rule) last_seq
      (λ t h. inr (t, [], refl, h, refl, inl (inl of_rule)))
      (f.starts_either (is (keyword (codes "seq"))) (among parts.from_if) (form g.seq_rule) last_if
      (λ t h. inr (t, [], refl, h, refl, inl (inl of_rule)))
      (f.starts_either (is (keyword (codes "if"))) (among parts.from_forall) (form g.if_rule) last_forall
      (λ t h. inr (t, [], refl, h, refl, inl (inl of_term)))
      (f.starts_either (is (keyword (codes "forall"))) (among parts.from_choose) (form g.forall) last_choose
      (λ t h. inr (t, [], refl, h, refl, inl of_ranges))
      (f.starts_either (is (keyword (codes "choose"))) (among parts.from_let) (form g.choose_rule) last_let
      (λ t h. inr (t, [], refl, h, refl, inl of_ranges))
      (f.starts_either (is (keyword (codes "let"))) (among parts.from_switch) (form g.let_rule) last_switch
      (λ t h. inr (t, [], refl, h, refl, inl (inl of_binds)))
      (f.starts_either (is (keyword (codes "switch"))) (is (keyword (codes "extend"))) (form g.switch_rule) (form g.extend_rule)
      (λ t h. inr (t, [], refl, h, refl, inl (inl of_term))) (λ t h. inr (t, [], refl, h, refl, inl (inl refl)))))))))))

-- ---- rules to any depth

module _ (k : OfTerms) where
  pub inside_empty : (fits' : TermTree → Bool) (n : ℕ) → (g.inside fits' (suc n)).Begins []
  unfolding g.inside
  inside_empty fits' n =
      form_empty (is_open n) (tg.term_within fits' n) (tg.call (is_open n) (tg.inside fits' n)) (tg.inside fits' n) (g.inside fits' n)

  -- where one more may be open, and one construct deeper
  at_starts : (n : ℕ) → f.Starts starts_rule (g.rule_at any (suc n) (g.inside any (suc n)))
  at_starts n =
      form_starts (tg.term_within any (suc n)) (tg.call true (tg.inside any (suc n))) (tg.inside any (suc n)) (g.inside any (suc n))
      (k.inner.empty any n) (k.ranges.empty any n) (k.binds.empty any n) (inside_empty any n)

  pub inside_starts : (n : ℕ) → is_open n ≡ true → f.Starts starts_rule (g.inside any (suc n))
  unfolding g.inside
  inside_starts zero o = absurd (cc o)
  inside_starts (suc n) o = at_starts n

  pub sound_inside : (n : ℕ) → is_open n ≡ true → Sound (r.inside n) (g.inside fits n) (g.inside any (suc n))
  unfolding g.inside r.inside
  sound_inside zero o = absurd (cc o)
  sound_inside (suc n) o = sound_form k n (sound_inside n) (inside_starts n) (inside_empty any n)

  pub sound_rule : (n : ℕ) → Sound (r.rule n) (g.rule_within fits n) (g.rule_within any (suc n))
  unfolding g.rule_within r.rule
  sound_rule n = sound_form k n (sound_inside n) (inside_starts n) (inside_empty any n)

  pub rule_starts : (n : ℕ) → f.Starts starts_rule (g.rule_within any (suc n))
  unfolding g.rule_within
  rule_starts n = at_starts n

  pub rule_empty : (fits' : TermTree → Bool) (n : ℕ) → (g.rule_within fits' n).Begins []
  unfolding g.rule_within
  rule_empty fits' n =
      form_empty (is_open n) (tg.term_within fits' n) (tg.call (is_open n) (tg.inside fits' n)) (tg.inside fits' n) (g.inside fits' n)
