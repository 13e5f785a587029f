-- What a fold over rules gives at each form.
use Rattle.std.proofs.Common.{◌≡◌, List, map}
use Rattle.std.specs.Prelude.{Option, Some, None}
use Rattle.std.specs.Option.{option_map}
use Rattle.asm_syntax.specs.declared.token.Span.{Span}
use Rattle.asm_syntax.specs.declared.token.Token.{Token}
use Rattle.asm_syntax.specs.declared.tree.RangesTree.{RangesTree}
use Rattle.asm_syntax.specs.declared.tree.TermTree.{TermTree}
use Rattle.asm_syntax.specs.declared.tree.TermsTree.{TermsTree}
use Rattle.asm_syntax.specs.declared.tree.BindsTree.{BindsTree}
use Rattle.asm_syntax.specs.declared.tree.RuleTree.{RuleTree, fold-RuleTree}
use Rattle.asm_syntax.specs.declared.tree.RuleCaseTree.{RuleCaseTree}
use Rattle.asm_syntax.specs.declared.tree.RuleTree.TheOpen.{RuleTree-F, RuleCaseTree-F}
use Rattle.asm_syntax.specs.declared.tree.RuleTree.TheVariants as rules
use Rattle.asm_syntax.specs.declared.tree.RuleTree.TheFolds.{fold-RuleCaseTree, fold-roll-RuleTree, fold-roll-RuleCaseTree}
use Rattle.asm_syntax.specs.declared.tree.RuleTree.TheViews.{roll-RuleTree, roll-RuleCaseTree}

module _ {A B : Type 0} (rule : RuleTree-F A B → A) (case : RuleCaseTree-F A B → B) where
  abbrev pub folded : RuleTree → A
  folded = fold-RuleTree A B rule case

  abbrev pub folded_case : RuleCaseTree → B
  folded_case = fold-RuleCaseTree A B rule case

  pub folded-Skip : (s : Span)
      → folded (rules.Skip s) ≡ rule (RuleTree-F.Skip s)
  unfolding roll-RuleTree denote.Hole.Carrier.roll
  folded-Skip s = fold-roll-RuleTree A B rule case (RuleTree-F.Skip s)

  pub folded-Call : (name : Token) (args : Option TermsTree) (s : Span)
      → folded (rules.Call name args s) ≡ rule (RuleTree-F.Call name args s)
  unfolding roll-RuleTree denote.Hole.Carrier.roll
  folded-Call name args s = fold-roll-RuleTree A B rule case (RuleTree-F.Call name args s)

  pub folded-Update : (name : Token) (args : Option TermsTree) (t : TermTree) (s : Span)
      → folded (rules.Update name args t s) ≡ rule (RuleTree-F.Update name args t s)
  unfolding roll-RuleTree denote.Hole.Carrier.roll
  folded-Update name args t s = fold-roll-RuleTree A B rule case (RuleTree-F.Update name args t s)

  pub folded-Par : (r : RuleTree) (rs : List RuleTree) (s : Span)
      → folded (rules.Par r rs s) ≡ rule (RuleTree-F.Par (folded r) (map folded rs) s)
  unfolding roll-RuleTree denote.Hole.Carrier.roll
  folded-Par r rs s = fold-roll-RuleTree A B rule case (RuleTree-F.Par r rs s)

  pub folded-Seq : (r : RuleTree) (rs : List RuleTree) (s : Span)
      → folded (rules.Seq r rs s) ≡ rule (RuleTree-F.Seq (folded r) (map folded rs) s)
  unfolding roll-RuleTree denote.Hole.Carrier.roll
  folded-Seq r rs s = fold-roll-RuleTree A B rule case (RuleTree-F.Seq r rs s)

  pub folded-If : (g : TermTree) (r : RuleTree) (o : Option RuleTree) (s : Span)
      → folded (rules.If g r o s) ≡ rule (RuleTree-F.If g (folded r) (option_map folded o) s)
  unfolding roll-RuleTree denote.Hole.Carrier.roll
  folded-If g r None s = fold-roll-RuleTree A B rule case (RuleTree-F.If g r None s)
  folded-If g r (Some q) s = fold-roll-RuleTree A B rule case (RuleTree-F.If g r (Some q) s)

  pub folded-Forall : (rs : RangesTree) (g : Option TermTree) (r : RuleTree) (s : Span)
      → folded (rules.Forall rs g r s) ≡ rule (RuleTree-F.Forall rs g (folded r) s)
  unfolding roll-RuleTree denote.Hole.Carrier.roll
  folded-Forall rs g r s = fold-roll-RuleTree A B rule case (RuleTree-F.Forall rs g r s)

  pub folded-Choose : (rs : RangesTree) (g : Option TermTree) (r : RuleTree) (o : Option RuleTree) (s : Span)
      → folded (rules.Choose rs g r o s) ≡ rule (RuleTree-F.Choose rs g (folded r) (option_map folded o) s)
  unfolding roll-RuleTree denote.Hole.Carrier.roll
  folded-Choose rs g r None s = fold-roll-RuleTree A B rule case (RuleTree-F.Choose rs g r None s)
  folded-Choose rs g r (Some q) s = fold-roll-RuleTree A B rule case (RuleTree-F.Choose rs g r (Some q) s)

  pub folded-Let : (bs : BindsTree) (r : RuleTree) (s : Span)
      → folded (rules.Let bs r s) ≡ rule (RuleTree-F.Let bs (folded r) s)
  unfolding roll-RuleTree denote.Hole.Carrier.roll
  folded-Let bs r s = fold-roll-RuleTree A B rule case (RuleTree-F.Let bs r s)

  pub folded-Switch : (t : TermTree) (cs : List RuleCaseTree) (o : Option RuleTree) (s : Span)
      → folded (rules.Switch t cs o s) ≡ rule (RuleTree-F.Switch t (map folded_case cs) (option_map folded o) s)
  unfolding roll-RuleTree denote.Hole.Carrier.roll
  folded-Switch t cs None s = fold-roll-RuleTree A B rule case (RuleTree-F.Switch t cs None s)
  folded-Switch t cs (Some q) s = fold-roll-RuleTree A B rule case (RuleTree-F.Switch t cs (Some q) s)

  pub folded-Extend : (name : Token) (x : Token) (xs : List Token) (r : RuleTree) (s : Span)
      → folded (rules.Extend name x xs r s) ≡ rule (RuleTree-F.Extend name x xs (folded r) s)
  unfolding roll-RuleTree denote.Hole.Carrier.roll
  folded-Extend name x xs r s = fold-roll-RuleTree A B rule case (RuleTree-F.Extend name x xs r s)

  pub folded-case : (t : TermTree) (r : RuleTree)
      → folded_case (roll-RuleCaseTree (record { value = t; rule = r })) ≡ case (record { value = t; rule = folded r })
  folded-case t r = fold-roll-RuleCaseTree A B rule case (record { value = t; rule = r })
