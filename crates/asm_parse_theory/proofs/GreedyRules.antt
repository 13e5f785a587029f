-- After a rule that isn't closed the parser leaves no `ifnone`.
use Rattle.std.proofs.Common.{◌≡◌, ℕ, zero, suc, List, [], ◌∷◌, Bool, true, false, sym, ◌∙◌, codes}
use Rattle.std.specs.Prelude.{Option, Some}
use Rattle.asm_grammar.specs.Parser as p
use Rattle.asm_grammar.specs.Parser.{Parser, enter, sees, expect, both, optional}
use Rattle.asm_grammar.proofs.Exact.{Ends}
use Rattle.asm_grammar.proofs.Basic.{true_is_false}
use Rattle.asm_grammar.proofs.Greedy.{Good, good-measured, good-always, good-mapped, good-both, good-choose, good-optional, good-weaken, Greedy, greedy_good}
use Rattle.asm_syntax.specs.declared.token.Span.{Span}
use Rattle.asm_syntax.specs.declared.token.Token.{Token}
use Rattle.asm_syntax.specs.declared.tree.RangesTree.{RangesTree}
use Rattle.asm_syntax.specs.declared.tree.TermTree.{TermTree}
use Rattle.asm_syntax.specs.declared.tree.TermsTree.{TermsTree}
use Rattle.asm_syntax.specs.declared.tree.RuleTree.{RuleTree}
use Rattle.asm_syntax.specs.declared.tree.RuleTree.TheVariants as rules
use Rattle.asm_syntax.specs.Marks.{is, id, variable, keyword, span_of}
use Rattle.asm_syntax.specs.Forms.{second, is_open}
use Rattle.asm_syntax.specs.Terms as g
use Rattle.asm_syntax.specs.Rules.{is_closed, use_of, choose_of, extend_of}
use Rattle.asm_parse_theory.specs.Forms.{quoted, after_word, opened, listed, formed}
use Rattle.asm_parse_theory.specs.Terms as t
use Rattle.asm_parse_theory.specs.Terms.{Readers}
use Rattle.asm_parse_theory.specs.Rules as r
use Rattle.asm_parse_theory.proofs.RuleParts.{ifnone}
use Rattle.asm_parse_theory.proofs.Closed.{closed-Skip, closed-use, closed-Par, closed-Seq, closed-If, closed-Let, closed-Switch, closed-Forall, closed-extend, closed-choose-else}

-- what is left after a rule
abbrev Leaves : RuleTree → List Token → Type 0
Leaves v rest = is_closed v ≡ false → Ends ifnone rest

-- the same of what is made of a value, whatever the span is
abbrev LeavesAs : {V : Type 0} → (Span → V → RuleTree) → V → List Token → Type 0
LeavesAs f v rest = (s : Span) → Leaves (f s v) rest

ends_unseen : (ts : List Token) → sees ifnone ts ≡ false → Ends ifnone ts
ends_unseen [] e = tt
ends_unseen (t ∷ ts) e = e

-- ---- forms

good_after_word : {V : Type 0} (P : V → List Token → Type 0) (w : List ℕ) (q : Parser Token V) → Good P q → Good P (after_word w q)
good_after_word P w q h = good-mapped P second (both (quoted w) q) (good-both (λ v rest. P v.1 rest) (quoted w) q (λ u. h))

good_opened : {V : Type 0} (P : V → List Token → Type 0) (room : Bool) (w : List ℕ) (q : Parser Token V) → Good P q → Good P (opened room w q)
good_opened P room w q h =
    good-mapped P second (p.opened room (is (keyword w)) q) (good-both (λ v rest. P v.1 rest) (enter room (is (keyword w))) q (λ u. h))

-- rules that are closed whatever stands in them
good_closed : {V : Type 0} (f : Span → V → RuleTree) (q : Parser Token V)
    → ((s : Span) (v : V) → is_closed (f s v) ≡ true) → Good Leaves (formed f q)
good_closed f q h =
    good-measured Leaves span_of f q
    (good-always (LeavesAs f) q (λ v rest s e. absurd (true_is_false (is_closed (f s v)) (h s v) e)))

-- ---- rules

module _ (room : Bool) (value : Parser Token TermTree) (call : Parser Token TermsTree) (inner : Readers) (q : Parser Token RuleTree) (h : Good Leaves q) where
  -- a rule that is closed as its last part is
  good_last : (f : Span → RuleTree → RuleTree) → ((s : Span) (v : RuleTree) → is_closed (f s v) ≡ is_closed v) → Good (LeavesAs f) q
  good_last f same = good-weaken Leaves (LeavesAs f) q (λ v rest k s e. k (sym (same s v) ∙ e)) h

  abbrev guard : Parser Token (Option TermTree)
  guard = optional (is (keyword (codes "with"))) (after_word (codes "with") (inner.line g.term))

  good_skip : Good Leaves (r.skip room value call inner q)
  unfolding r.skip
  good_skip = good_closed (λ span t. rules.Skip span) (quoted (codes "skip")) (λ s v. closed-Skip s)

  good_forall : Good Leaves (r.forall room value call inner q)
  unfolding r.forall
  good_forall =
      good-measured Leaves span_of f (opened room (codes "forall") (both inner.ranges (both guard body)))
      (good_opened (LeavesAs f) room (codes "forall") (both inner.ranges (both guard body))
      (good-both (LeavesAs f) inner.ranges (both guard body)
      (λ ranges. good-both (λ v. LeavesAs (λ s w. f s (ranges, w)) v) guard body
      (λ o. good_after_word (LeavesAs (λ s w. f s (ranges, (o, w)))) (codes "do") q
      (good_last (λ s w. f s (ranges, (o, w))) (λ s w. closed-Forall ranges o w s))))))
    where
      f : Span → RangesTree × (Option TermTree × RuleTree) → RuleTree
      f span p = rules.Forall p.0 p.1.0 p.1.1 span

      body : Parser Token RuleTree
      body = after_word (codes "do") q

  good_choose_rule : Good Leaves (r.choose_rule room value call inner q)
  unfolding r.choose_rule
  good_choose_rule =
      good-measured Leaves span_of choose_of (opened room (codes "choose") (both inner.ranges (both guard body)))
      (good_opened (LeavesAs choose_of) room (codes "choose") (both inner.ranges (both guard body))
      (good-both (LeavesAs choose_of) inner.ranges (both guard body)
      (λ ranges. good-both (λ v. LeavesAs (λ s w. choose_of s (ranges, w)) v) guard body
      (λ o. good_after_word (LeavesAs (λ s w. choose_of s (ranges, (o, w)))) (codes "do") (both q other)
      (good-both (LeavesAs (λ s w. choose_of s (ranges, (o, w)))) q other
      (λ v. good-optional (LeavesAs (λ s w. choose_of s (ranges, (o, (v, w))))) ifnone (after_word (codes "ifnone") q)
      (good_after_word (LeavesAs (λ s w. choose_of s (ranges, (o, (v, Some w))))) (codes "ifnone") q
      (good_last (λ s w. choose_of s (ranges, (o, (v, Some w)))) (λ s w. closed-choose-else s ranges o v w)))
      (λ ts e s i. ends_unseen ts e)))))))
    where
      other : Parser Token (Option RuleTree)
      other = optional ifnone (after_word (codes "ifnone") q)

      body : Parser Token (RuleTree × Option RuleTree)
      body = after_word (codes "do") (both q other)

  good_extend_rule : Good Leaves (r.extend_rule room value call inner q)
  unfolding r.extend_rule
  good_extend_rule =
      good-measured Leaves span_of extend_of (opened room (codes "extend") (both (expect (is id)) (both names body)))
      (good_opened (LeavesAs extend_of) room (codes "extend") (both (expect (is id)) (both names body))
      (good-both (LeavesAs extend_of) (expect (is id)) (both names body)
      (λ name. good-both (λ v. LeavesAs (λ s w. extend_of s (name, w)) v) names body
      (λ vs. good_after_word (LeavesAs (λ s w. extend_of s (name, (vs, w)))) (codes "do") q
      (good_last (λ s w. extend_of s (name, (vs, w))) (λ s w. closed-extend s name vs w))))))
    where
      names : Parser Token (Token × List Token)
      names = after_word (codes "with") (listed (expect (is variable)))

      body : Parser Token RuleTree
      body = after_word (codes "do") q

  -- rules that end in a word
  good_call_or_update : Good Leaves (r.call_or_update room value call inner q)
  unfolding r.call_or_update
  good_call_or_update = good_closed use_of _ closed-use

  good_par_rule : Good Leaves (r.par_rule room value call inner q)
  unfolding r.par_rule
  good_par_rule = good_closed (λ span p. rules.Par p.0 p.1 span) _ (λ s v. closed-Par v.0 v.1 s)

  good_seq_rule : Good Leaves (r.seq_rule room value call inner q)
  unfolding r.seq_rule
  good_seq_rule = good_closed (λ span p. rules.Seq p.0 p.1 span) _ (λ s v. closed-Seq v.0 v.1 s)

  good_if_rule : Good Leaves (r.if_rule room value call inner q)
  unfolding r.if_rule
  good_if_rule = good_closed (λ span p. rules.If p.0 p.1.0 p.1.1 span) _ (λ s v. closed-If v.0 v.1.0 v.1.1 s)

  good_let_rule : Good Leaves (r.let_rule room value call inner q)
  unfolding r.let_rule
  good_let_rule = good_closed (λ span p. rules.Let p.0 p.1 span) _ (λ s v. closed-Let v.0 v.1 s)

  good_switch_rule : Good Leaves (r.switch_rule room value call inner q)
  unfolding r.switch_rule
  good_switch_rule = good_closed (λ span p. rules.Switch p.0 p.1.0 p.1.1 span) _ (λ s v. closed-Switch v.0 v.1.0 v.1.1 s)

  good_form : Good Leaves (r.rule_form room value call inner q)
  unfolding r.rule_form
  good_form =
      good-choose Leaves (is (keyword (codes "skip"))) _ _ good_skip (good-choose Leaves (is id) _ _ good_call_or_update
      (good-choose Leaves (is (keyword (codes "par"))) _ _ good_par_rule (good-choose Leaves (is (keyword (codes "seq"))) _ _ good_seq_rule
      (good-choose Leaves (is (keyword (codes "if"))) _ _ good_if_rule (good-choose Leaves (is (keyword (codes "forall"))) _ _ good_forall
      (good-choose Leaves (is (keyword (codes "choose"))) _ _ good_choose_rule (good-choose Leaves (is (keyword (codes "let"))) _ _ good_let_rule
      (good-choose Leaves (is (keyword (codes "switch"))) _ _ good_switch_rule good_extend_rule))))))))

-- ---- rules to any depth

good_inside : (n : ℕ) → Good Leaves (r.inside n)
unfolding r.inside
good_inside zero = λ ts. tt
good_inside (suc n) = good_form (is_open n) (t.term n) (t.call (is_open n) (t.inside n)) (t.inside n) (r.inside n) (good_inside n)

pub greedy_inside : (n : ℕ) → Greedy is_closed ifnone (r.inside n)
greedy_inside n = greedy_good is_closed ifnone (r.inside n) (good_inside n)
