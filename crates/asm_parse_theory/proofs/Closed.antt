-- Whether a rule is closed, by its form.
use Rattle.std.proofs.Common.{◌≡◌, List, Bool, true, false, ap, ◌∙◌}
use Rattle.std.specs.Prelude.{Option, Some, None}
use Rattle.asm_syntax.specs.declared.token.Span.{Span}
use Rattle.asm_syntax.specs.declared.token.Token.{Token}
use Rattle.asm_syntax.specs.declared.tree.RangesTree.{RangesTree}
use Rattle.asm_syntax.specs.declared.tree.BindsTree.{BindsTree}
use Rattle.asm_syntax.specs.declared.tree.TermTree.{TermTree}
use Rattle.asm_syntax.specs.declared.tree.RuleTree.{RuleTree}
use Rattle.asm_syntax.specs.declared.tree.RuleCaseTree.{RuleCaseTree}
use Rattle.asm_syntax.specs.declared.tree.RuleTree.TheOpen.{RuleTree-F}
use Rattle.asm_syntax.specs.declared.tree.RuleTree.TheFolds.{fold_out-RuleTree, map-RuleTree}
use Rattle.asm_syntax.specs.declared.tree.RuleTree.TheViews.{out-RuleTree, the_lemmas}
use Rattle.asm_syntax.specs.declared.tree.RuleTree.TheVariants as rules
use Rattle.asm_syntax.specs.Rules.{is_closed, closed_step, Use, Calls, Updates, use_of, choose_of, extend_of}

abbrev step : RuleTree-F RuleTree RuleCaseTree → Bool
step a = closed_step (map-RuleTree RuleTree RuleCaseTree Bool (Unit {0}) is_closed (λ c. tt) a)

closed_out : (r : RuleTree) (a : RuleTree-F RuleTree RuleCaseTree) → out-RuleTree r ≡ a → is_closed r ≡ step a
unfolding is_closed
closed_out r a e = fold_out-RuleTree Bool (Unit {0}) closed_step (λ c. tt) r ∙ ap step e

pub closed-Skip : (span : Span) → is_closed (rules.Skip span) ≡ true
closed-Skip span = closed_out (rules.Skip span) (RuleTree-F.Skip span) (search (the_lemmas))

pub closed-use : (span : Span) (v : Token × Use) → is_closed (use_of span v) ≡ true
closed-use span (name, Calls args) = closed_out (rules.Call name args span) (RuleTree-F.Call name args span) (search (the_lemmas))
closed-use span (name, Updates (args, value)) =
    closed_out (rules.Update name args value span) (RuleTree-F.Update name args value span) (search (the_lemmas))

pub closed-Par : (first : RuleTree) (others : List RuleTree) (span : Span) → is_closed (rules.Par first others span) ≡ true
closed-Par first others span = closed_out (rules.Par first others span) (RuleTree-F.Par first others span) (search (the_lemmas))

pub closed-Seq : (first : RuleTree) (others : List RuleTree) (span : Span) → is_closed (rules.Seq first others span) ≡ true
closed-Seq first others span = closed_out (rules.Seq first others span) (RuleTree-F.Seq first others span) (search (the_lemmas))

pub closed-If : (guard : TermTree) (first : RuleTree) (other : Option RuleTree) (span : Span) → is_closed (rules.If guard first other span) ≡ true
closed-If guard first other span = closed_out (rules.If guard first other span) (RuleTree-F.If guard first other span) (search (the_lemmas))

pub closed-Let : (binds : BindsTree) (body : RuleTree) (span : Span) → is_closed (rules.Let binds body span) ≡ true
closed-Let binds body span = closed_out (rules.Let binds body span) (RuleTree-F.Let binds body span) (search (the_lemmas))

pub closed-Switch : (value : TermTree) (cases : List RuleCaseTree) (other : Option RuleTree) (span : Span)
    → is_closed (rules.Switch value cases other span) ≡ true
closed-Switch value cases other span =
    closed_out (rules.Switch value cases other span) (RuleTree-F.Switch value cases other span) (search (the_lemmas))

-- ---- rules that end with their body

pub closed-Forall : (ranges : RangesTree) (guard : Option TermTree) (body : RuleTree) (span : Span)
    → is_closed (rules.Forall ranges guard body span) ≡ is_closed body
closed-Forall ranges guard body span =
    closed_out (rules.Forall ranges guard body span) (RuleTree-F.Forall ranges guard body span) (search (the_lemmas))

pub closed-extend : (span : Span) (name : Token) (names : Token × List Token) (body : RuleTree)
    → is_closed (extend_of span (name, (names, body))) ≡ is_closed body
closed-extend span name (first, others) body =
    closed_out (rules.Extend name first others body span) (RuleTree-F.Extend name first others body span) (search (the_lemmas))

-- without `ifnone`
pub closed-choose : (span : Span) (ranges : RangesTree) (guard : Option TermTree) (body : RuleTree)
    → is_closed (choose_of span (ranges, (guard, (body, None)))) ≡ false
closed-choose span ranges guard body =
    closed_out (rules.Choose ranges guard body None span) (RuleTree-F.Choose ranges guard body None span) (search (the_lemmas))

pub closed-choose-else : (span : Span) (ranges : RangesTree) (guard : Option TermTree) (body other : RuleTree)
    → is_closed (choose_of span (ranges, (guard, (body, Some other)))) ≡ is_closed other
closed-choose-else span ranges guard body other =
    closed_out (rules.Choose ranges guard body (Some other) span) (RuleTree-F.Choose ranges guard body (Some other) span) (search (the_lemmas))
