-- Where the trees are in their text, and a term with another span.
use Rattle.asm_syntax.specs.declared.token.Span.{Span}
use Rattle.asm_syntax.specs.declared.tree.TermTree.{TermTree}
use Rattle.asm_syntax.specs.declared.tree.TermsTree.{TermsTree}
use Rattle.asm_syntax.specs.declared.tree.BindTree.{BindTree}
use Rattle.asm_syntax.specs.declared.tree.BindsTree.{BindsTree}
use Rattle.asm_syntax.specs.declared.tree.CaseTree.{CaseTree}
use Rattle.asm_syntax.specs.declared.tree.TermTree.TheOpen.{TermTree-F}
use Rattle.asm_syntax.specs.declared.tree.TermTree.TheViews.{out-TermTree}
use Rattle.asm_syntax.specs.declared.tree.TermTree.TheVariants as terms
use Rattle.asm_syntax.specs.declared.tree.DomainTree.{DomainTree}
use Rattle.asm_syntax.specs.declared.tree.DomainTree.TheOpen.{DomainTree-F}
use Rattle.asm_syntax.specs.declared.tree.DomainTree.TheViews.{out-DomainTree}
use Rattle.asm_syntax.specs.declared.tree.RuleTree.{RuleTree}
use Rattle.asm_syntax.specs.declared.tree.RuleCaseTree.{RuleCaseTree}
use Rattle.asm_syntax.specs.declared.tree.RuleTree.TheOpen.{RuleTree-F}
use Rattle.asm_syntax.specs.declared.tree.RuleTree.TheViews.{out-RuleTree}
use Rattle.asm_syntax.specs.declared.tree.DeclTree.{DeclTree}
use Rattle.asm_syntax.specs.declared.tree.DeclTree.TheVariants as decls
use Rattle.asm_syntax.specs.declared.tree.DefTree.{DefTree}
use Rattle.asm_syntax.specs.declared.tree.DefTree.TheVariants as defs

-- ---- terms

-- a term by its parts
abbrev pub Parts : Type 0
Parts = TermTree-F TermTree BindTree BindsTree CaseTree TermsTree

abbrev pub span_among : Parts → Span
span_among (TermTree-F.Prefix op t span) = span
span_among (TermTree-F.Binary left op right span) = span
span_among (TermTree-F.Number t span) = span
span_among (TermTree-F.Chars t span) = span
span_among (TermTree-F.True span) = span
span_among (TermTree-F.False span) = span
span_among (TermTree-F.Undef span) = span
span_among (TermTree-F.Var t span) = span
span_among (TermTree-F.Name t args span) = span
span_among (TermTree-F.Tuple items span) = span
span_among (TermTree-F.Forall ranges body span) = span
span_among (TermTree-F.Exist unique ranges body span) = span
span_among (TermTree-F.Interval from to span) = span
span_among (TermTree-F.Set items span) = span
span_among (TermTree-F.Seq items span) = span
span_among (TermTree-F.If guard first other span) = span
span_among (TermTree-F.Let binds body span) = span
span_among (TermTree-F.Switch t cases other span) = span

abbrev pub with_among : Span → Parts → TermTree
with_among span (TermTree-F.Prefix op t s) = terms.Prefix op t span
with_among span (TermTree-F.Binary left op right s) = terms.Binary left op right span
with_among span (TermTree-F.Number t s) = terms.Number t span
with_among span (TermTree-F.Chars t s) = terms.Chars t span
with_among span (TermTree-F.True s) = terms.True span
with_among span (TermTree-F.False s) = terms.False span
with_among span (TermTree-F.Undef s) = terms.Undef span
with_among span (TermTree-F.Var t s) = terms.Var t span
with_among span (TermTree-F.Name t args s) = terms.Name t args span
with_among span (TermTree-F.Tuple items s) = terms.Tuple items span
with_among span (TermTree-F.Forall ranges body s) = terms.Forall ranges body span
with_among span (TermTree-F.Exist unique ranges body s) = terms.Exist unique ranges body span
with_among span (TermTree-F.Interval from to s) = terms.Interval from to span
with_among span (TermTree-F.Set items s) = terms.Set items span
with_among span (TermTree-F.Seq items s) = terms.Seq items span
with_among span (TermTree-F.If guard first other s) = terms.If guard first other span
with_among span (TermTree-F.Let binds body s) = terms.Let binds body span
with_among span (TermTree-F.Switch t cases other s) = terms.Switch t cases other span

-- where a term is
unfoldable pub extent : TermTree → Span
extent t = span_among (out-TermTree t)

-- the same term, with this span
unfoldable pub with_extent : Span → TermTree → TermTree
with_extent span t = with_among span (out-TermTree t)

-- ---- other trees

abbrev pub domain_span : DomainTree-F DomainTree → Span
domain_span (DomainTree-F.Truth span) = span
domain_span (DomainTree-F.Int span) = span
domain_span (DomainTree-F.Nat span) = span
domain_span (DomainTree-F.Chars span) = span
domain_span (DomainTree-F.Named t span) = span
domain_span (DomainTree-F.Prod first next others span) = span
domain_span (DomainTree-F.Seq d span) = span
domain_span (DomainTree-F.Powerset d span) = span

unfoldable pub domain_extent : DomainTree → Span
domain_extent d = domain_span (out-DomainTree d)

abbrev pub rule_span : RuleTree-F RuleTree RuleCaseTree → Span
rule_span (RuleTree-F.Skip span) = span
rule_span (RuleTree-F.Call name args span) = span
rule_span (RuleTree-F.Update name args value span) = span
rule_span (RuleTree-F.Par first others span) = span
rule_span (RuleTree-F.Seq first others span) = span
rule_span (RuleTree-F.If guard first other span) = span
rule_span (RuleTree-F.Forall ranges guard body span) = span
rule_span (RuleTree-F.Choose ranges guard body other span) = span
rule_span (RuleTree-F.Let binds body span) = span
rule_span (RuleTree-F.Switch value cases other span) = span
rule_span (RuleTree-F.Extend name first others body span) = span

unfoldable pub rule_extent : RuleTree → Span
rule_extent r = rule_span (out-RuleTree r)

abbrev pub decl_extent : DeclTree → Span
decl_extent (decls.Enum name first others span) = span
decl_extent (decls.Abstract name span) = span
decl_extent (decls.Subset name base span) = span
decl_extent (decls.Defined kind name first next span) = span
decl_extent (decls.Dynamic kind name first next span) = span

abbrev pub def_extent : DefTree → Span
def_extent (defs.Interval name first last span) = span
def_extent (defs.Integers name first others span) = span
def_extent (defs.Function name given t span) = span
def_extent (defs.Rule name given body span) = span
def_extent (defs.Invariant name first others t span) = span
