-- Trees with every span set to one and the same: two trees with the same bare tree are the same
-- apart from spans.
use Rattle.std.specs.Prelude.{map}
use Rattle.std.specs.Option.{option_map}
use Rattle.asm_syntax.specs.declared.token.Span.{Span}
use Rattle.asm_syntax.specs.declared.token.Token.{Token}
use Rattle.asm_syntax.specs.declared.tree.DomainTree.{DomainTree, fold-DomainTree}
use Rattle.asm_syntax.specs.declared.tree.DomainTree.TheOpen.{DomainTree-F}
use Rattle.asm_syntax.specs.declared.tree.DomainTree.TheVariants as domains
use Rattle.asm_syntax.specs.declared.tree.RangeTree.{RangeTree}
use Rattle.asm_syntax.specs.declared.tree.RangesTree.{RangesTree}
use Rattle.asm_syntax.specs.declared.tree.ParamsTree.{ParamsTree}
use Rattle.asm_syntax.specs.declared.tree.IntTree.{IntTree}
use Rattle.asm_syntax.specs.declared.tree.TermTree.{TermTree}
use Rattle.asm_syntax.specs.declared.tree.TermTree.TheFolds.{fold-TermTree, fold-TermsTree}
use Rattle.asm_syntax.specs.declared.tree.TermTree.TheFolds.{fold-BindsTree}
use Rattle.asm_syntax.specs.declared.tree.TermTree.TheOpen.{TermTree-F, TermsTree-F}
use Rattle.asm_syntax.specs.declared.tree.TermTree.TheOpen.{BindTree-F, BindsTree-F, CaseTree-F}
use Rattle.asm_syntax.specs.declared.tree.TermTree.TheVariants as terms
use Rattle.asm_syntax.specs.declared.tree.TermTree.TheViews.{roll-TermsTree, roll-CaseTree}
use Rattle.asm_syntax.specs.declared.tree.TermTree.TheViews.{roll-BindTree, roll-BindsTree}
use Rattle.asm_syntax.specs.declared.tree.TermsTree.{TermsTree}
use Rattle.asm_syntax.specs.declared.tree.BindTree.{BindTree}
use Rattle.asm_syntax.specs.declared.tree.BindsTree.{BindsTree}
use Rattle.asm_syntax.specs.declared.tree.CaseTree.{CaseTree}
use Rattle.asm_syntax.specs.declared.tree.RuleTree.{RuleTree, fold-RuleTree}
use Rattle.asm_syntax.specs.declared.tree.RuleTree.TheOpen.{RuleTree-F, RuleCaseTree-F}
use Rattle.asm_syntax.specs.declared.tree.RuleTree.TheVariants as rules
use Rattle.asm_syntax.specs.declared.tree.RuleTree.TheViews.{roll-RuleCaseTree}
use Rattle.asm_syntax.specs.declared.tree.RuleCaseTree.{RuleCaseTree}
use Rattle.asm_syntax.specs.declared.tree.DeclTree.{DeclTree}
use Rattle.asm_syntax.specs.declared.tree.DeclTree.TheVariants as decls
use Rattle.asm_syntax.specs.declared.tree.DefTree.{DefTree}
use Rattle.asm_syntax.specs.declared.tree.DefTree.TheVariants as defs
use Rattle.asm_syntax.specs.declared.tree.StartTree.{StartTree}
use Rattle.asm_syntax.specs.declared.tree.InitTree.{InitTree}
use Rattle.asm_syntax.specs.declared.tree.ModelTree.{ModelTree}

-- the span that each gets
abbrev pub here : Span
here = record { start = 0; end = 0 }

abbrev pub bare_token : Token → Token
bare_token t = record { kind = t.kind; span = here }

-- ---- domains, ranges and integers

abbrev pub bare_domain_step : DomainTree-F DomainTree → DomainTree
bare_domain_step (DomainTree-F.Truth span) = domains.Truth here
bare_domain_step (DomainTree-F.Int span) = domains.Int here
bare_domain_step (DomainTree-F.Nat span) = domains.Nat here
bare_domain_step (DomainTree-F.Chars span) = domains.Chars here
bare_domain_step (DomainTree-F.Named t span) = domains.Named (bare_token t) here
bare_domain_step (DomainTree-F.Prod first next others span) = domains.Prod first next others here
bare_domain_step (DomainTree-F.Seq d span) = domains.Seq d here
bare_domain_step (DomainTree-F.Powerset d span) = domains.Powerset d here

unfoldable pub bare_domain : DomainTree → DomainTree
bare_domain = fold-DomainTree DomainTree bare_domain_step

abbrev pub bare_range : RangeTree → RangeTree
bare_range r = record { variable = bare_token r.variable; domain = bare_domain r.domain }

abbrev pub bare_ranges : RangesTree → RangesTree
bare_ranges r = record { first = bare_range r.first; others = map bare_range r.others; span = here }

abbrev pub bare_params : ParamsTree → ParamsTree
bare_params p = record { ranges = bare_ranges p.ranges; span = here }

abbrev pub bare_int : IntTree → IntTree
bare_int i = record { is_negative = i.is_negative; number = bare_token i.number; span = here }

-- ---- terms

abbrev pub bare_term_step : TermTree-F TermTree BindTree BindsTree CaseTree TermsTree → TermTree
bare_term_step (TermTree-F.Prefix op t span) = terms.Prefix op t here
bare_term_step (TermTree-F.Binary left op right span) = terms.Binary left op right here
bare_term_step (TermTree-F.Number t span) = terms.Number (bare_token t) here
bare_term_step (TermTree-F.Chars t span) = terms.Chars (bare_token t) here
bare_term_step (TermTree-F.True span) = terms.True here
bare_term_step (TermTree-F.False span) = terms.False here
bare_term_step (TermTree-F.Undef span) = terms.Undef here
bare_term_step (TermTree-F.Var t span) = terms.Var (bare_token t) here
bare_term_step (TermTree-F.Name t args span) = terms.Name (bare_token t) args here
bare_term_step (TermTree-F.Tuple items span) = terms.Tuple items here
bare_term_step (TermTree-F.Forall ranges body span) = terms.Forall (bare_ranges ranges) body here
bare_term_step (TermTree-F.Exist unique ranges body span) =
    terms.Exist unique (bare_ranges ranges) body here
bare_term_step (TermTree-F.Interval from to span) = terms.Interval from to here
bare_term_step (TermTree-F.Set items span) = terms.Set items here
bare_term_step (TermTree-F.Seq items span) = terms.Seq items here
bare_term_step (TermTree-F.If guard first other span) = terms.If guard first other here
bare_term_step (TermTree-F.Let binds body span) = terms.Let binds body here
bare_term_step (TermTree-F.Switch t cases other span) = terms.Switch t cases other here

abbrev pub bare_bind_step : BindTree-F TermTree BindTree BindsTree CaseTree TermsTree → BindTree
bare_bind_step b = roll-BindTree (record { variable = bare_token b.variable; value = b.value })

abbrev pub bare_binds_step : BindsTree-F TermTree BindTree BindsTree CaseTree TermsTree → BindsTree
bare_binds_step b = roll-BindsTree (record { first = b.first; others = b.others; span = here })

abbrev pub bare_case_step : CaseTree-F TermTree BindTree BindsTree CaseTree TermsTree → CaseTree
bare_case_step c = roll-CaseTree (record { value = c.value; term = c.term })

abbrev pub bare_terms_step : TermsTree-F TermTree BindTree BindsTree CaseTree TermsTree → TermsTree
bare_terms_step t = roll-TermsTree (record { first = t.first; others = t.others })

unfoldable pub bare_term : TermTree → TermTree
bare_term =
    fold-TermTree TermTree BindTree BindsTree CaseTree TermsTree
    bare_term_step bare_bind_step bare_binds_step bare_case_step bare_terms_step

unfoldable pub bare_terms : TermsTree → TermsTree
bare_terms =
    fold-TermsTree TermTree BindTree BindsTree CaseTree TermsTree
    bare_term_step bare_bind_step bare_binds_step bare_case_step bare_terms_step

unfoldable pub bare_binds : BindsTree → BindsTree
bare_binds =
    fold-BindsTree TermTree BindTree BindsTree CaseTree TermsTree
    bare_term_step bare_bind_step bare_binds_step bare_case_step bare_terms_step

-- ---- rules

abbrev pub bare_rule_step : RuleTree-F RuleTree RuleCaseTree → RuleTree
bare_rule_step (RuleTree-F.Skip span) = rules.Skip here
bare_rule_step (RuleTree-F.Call name args span) =
    rules.Call (bare_token name) (option_map bare_terms args) here
bare_rule_step (RuleTree-F.Update name args value span) =
    rules.Update (bare_token name) (option_map bare_terms args) (bare_term value) here
bare_rule_step (RuleTree-F.Par first others span) = rules.Par first others here
bare_rule_step (RuleTree-F.Seq first others span) = rules.Seq first others here
bare_rule_step (RuleTree-F.If guard first other span) = rules.If (bare_term guard) first other here
bare_rule_step (RuleTree-F.Forall ranges guard body span) =
    rules.Forall (bare_ranges ranges) (option_map bare_term guard) body here
bare_rule_step (RuleTree-F.Choose ranges guard body other span) =
    rules.Choose (bare_ranges ranges) (option_map bare_term guard) body other here
bare_rule_step (RuleTree-F.Let binds body span) = rules.Let (bare_binds binds) body here
bare_rule_step (RuleTree-F.Switch value cases other span) =
    rules.Switch (bare_term value) cases other here
bare_rule_step (RuleTree-F.Extend name first others body span) =
    rules.Extend (bare_token name) (bare_token first) (map bare_token others) body here

abbrev pub bare_rule_case_step : RuleCaseTree-F RuleTree RuleCaseTree → RuleCaseTree
bare_rule_case_step c = roll-RuleCaseTree (record { value = bare_term c.value; rule = c.rule })

unfoldable pub bare_rule : RuleTree → RuleTree
bare_rule = fold-RuleTree RuleTree RuleCaseTree bare_rule_step bare_rule_case_step

-- ---- models

abbrev pub bare_decl : DeclTree → DeclTree
bare_decl (decls.Enum name first others span) =
    decls.Enum (bare_token name) (bare_token first) (map bare_token others) here
bare_decl (decls.Abstract name span) = decls.Abstract (bare_token name) here
bare_decl (decls.Subset name base span) = decls.Subset (bare_token name) base here
bare_decl (decls.Defined kind name first next span) =
    decls.Defined kind (bare_token name) (bare_domain first) (option_map bare_domain next) here
bare_decl (decls.Dynamic kind name first next span) =
    decls.Dynamic kind (bare_token name) (bare_domain first) (option_map bare_domain next) here

abbrev pub bare_def : DefTree → DefTree
bare_def (defs.Interval name first last span) =
    defs.Interval (bare_token name) (bare_int first) (bare_int last) here
bare_def (defs.Integers name first others span) =
    defs.Integers (bare_token name) (bare_int first) (map bare_int others) here
bare_def (defs.Function name given t span) =
    defs.Function (bare_token name) (option_map bare_params given) (bare_term t) here
bare_def (defs.Rule name given body span) =
    defs.Rule (bare_token name) (option_map bare_params given) (bare_rule body) here
bare_def (defs.Invariant name first others t span) =
    defs.Invariant (option_map bare_token name) (bare_token first) (map bare_token others)
    (bare_term t) here

abbrev pub bare_start : StartTree → StartTree
bare_start s =
    record {
      function = bare_token s.function;
      params = option_map bare_params s.params;
      term = bare_term s.term;
    }

abbrev pub bare_init : InitTree → InitTree
bare_init i = record { name = bare_token i.name; starts = map bare_start i.starts; span = here }

abbrev pub bare_model : ModelTree → ModelTree
bare_model m = record {
  name = bare_token m.name;
  decls = map bare_decl m.decls;
  defs = map bare_def m.defs;
  main = here;
  rule_name = bare_token m.rule_name;
  rule = bare_rule m.rule;
  init = option_map bare_init m.init;
  span = here;
}
