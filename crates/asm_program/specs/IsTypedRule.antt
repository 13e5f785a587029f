-- Which rules are typed: a relation of variables in scope and a rule, by derivations. Each form of
-- the grammar has its case.
use Rattle.std.specs.Prelude.{◌≡◌, ℕ, true, Option, Some, List, [], ◌∷◌, slice_get}
use Rattle.std.specs.List.{AllByRecursion}
use Rattle.asm_value.specs.declared.domain.Domain.{Domain}
use Rattle.asm_syntax.specs.declared.token.Span.{Span}
use Rattle.asm_syntax.specs.declared.token.Token.{Token}
use Rattle.asm_syntax.specs.declared.tree.RangesTree.{RangesTree}
use Rattle.asm_syntax.specs.declared.tree.BindsTree.{BindsTree}
use Rattle.asm_syntax.specs.declared.tree.TermsTree.{TermsTree}
use Rattle.asm_syntax.specs.declared.tree.TermTree.{TermTree}
use Rattle.asm_syntax.specs.declared.tree.RuleCaseTree.{RuleCaseTree}
use Rattle.asm_syntax.specs.declared.tree.RuleTree.{RuleTree}
use Rattle.asm_syntax.specs.declared.tree.RuleTree.TheOpen.{RuleTree-F}
use Rattle.asm_syntax.specs.declared.tree.RuleTree.TheViews.{out-RuleTree, out-RuleCaseTree}
use Rattle.asm_syntax.specs.Marks.{text_of}
use Rattle.asm_typing.specs.declared.types.Type.{«Type» as TermType}
use Rattle.asm_typing.specs.declared.types.Type.TheVariants as type
use Rattle.asm_typing.specs.Domains.{type_of}
use Rattle.asm_program.specs.declared.named.Named.TheVariants as named
use Rattle.asm_program.specs.Forms.{optional}
use Rattle.asm_program.specs.Items.{binds_of, terms_of}
use Rattle.asm_program.specs.Signatures.{Header, find}
use Rattle.asm_program.specs.TypedTerms.{Scope, Variables}
use Rattle.asm_program.specs.TypedRules.{is_updated, with_members}
use Rattle.asm_program.specs.HasType.{Fits, FitEach, HaveJoin, HasType, HaveTypes, Bind, IsGuard}
use Rattle.asm_program.specs.HasType.{NamesFunction, AreEnumerable, within}

-- ---- names

module _ (scope : Scope) where
  -- a macro rule with these parameters
  abbrev pub NamesMacro : Token → List Domain → Type 0
  NamesMacro name params =
      (m : ℕ) × (find scope.names (text_of name) ≡ Some (named.Macro m))
      × (slice_get scope.macros m ≡ Some params)

  abbrev pub NamesAbstract : Token → ℕ → Type 0
  NamesAbstract name d = find scope.names (text_of name) ≡ Some (named.Abstract d)

-- ---- rules

module _ (scope : Scope) where
  mutual
    -- over these variables, the rule is typed
    pub data IsTypedRule : Variables → RuleTree → Type 0 where
      Skip : {variables : Variables} {r : RuleTree} {span : Span}
          → out-RuleTree r ≡ RuleTree-F.Skip span
          → IsTypedRule variables r
      Call : {variables : Variables} {r : RuleTree} {name : Token} {args : Option TermsTree}
          {span : Span} {params : List Domain} {ss : List TermType}
          → out-RuleTree r ≡ RuleTree-F.Call name args span
          → NamesMacro scope name params
          → HaveTypes scope variables (terms_of args) ss
          → FitEach ss params
          → IsTypedRule variables r
      -- a controlled, shared or out function
      Update : {variables : Variables} {r : RuleTree} {name : Token} {args : Option TermsTree}
          {value : TermTree} {span : Span} {h : Header} {ss : List TermType} {s : TermType}
          → out-RuleTree r ≡ RuleTree-F.Update name args value span
          → NamesFunction scope name h
          → HaveTypes scope variables (terms_of args) ss
          → HasType scope variables value s
          → is_updated h.kind ≡ true
          → FitEach ss h.args
          → Fits s (type_of h.result)
          → IsTypedRule variables r
      Par : {variables : Variables} {r first : RuleTree} {others : List RuleTree} {span : Span}
          → out-RuleTree r ≡ RuleTree-F.Par first others span
          → AreTypedRules variables (first ∷ others)
          → IsTypedRule variables r
      Seq : {variables : Variables} {r first : RuleTree} {others : List RuleTree} {span : Span}
          → out-RuleTree r ≡ RuleTree-F.Seq first others span
          → AreTypedRules variables (first ∷ others)
          → IsTypedRule variables r
      If : {variables : Variables} {r first : RuleTree} {guard : TermTree}
          {other : Option RuleTree} {span : Span}
          → out-RuleTree r ≡ RuleTree-F.If guard first other span
          → IsGuard scope variables guard
          → IsTypedRule variables first
          → AreTypedRules variables (optional other)
          → IsTypedRule variables r
      Forall : {variables : Variables} {r body : RuleTree} {ranges : RangesTree}
          {guard : Option TermTree} {span : Span}
          → out-RuleTree r ≡ RuleTree-F.Forall ranges guard body span
          → AreEnumerable scope ranges
          → AllByRecursion (IsGuard scope (within scope variables ranges)) (optional guard)
          → IsTypedRule (within scope variables ranges) body
          → IsTypedRule variables r
      -- the other rule doesn't see the variables of the ranges
      Choose : {variables : Variables} {r body : RuleTree} {ranges : RangesTree}
          {guard : Option TermTree} {other : Option RuleTree} {span : Span}
          → out-RuleTree r ≡ RuleTree-F.Choose ranges guard body other span
          → AreEnumerable scope ranges
          → AllByRecursion (IsGuard scope (within scope variables ranges)) (optional guard)
          → IsTypedRule (within scope variables ranges) body
          → AreTypedRules variables (optional other)
          → IsTypedRule variables r
      Let : {variables inner : Variables} {r body : RuleTree} {binds : BindsTree} {span : Span}
          → out-RuleTree r ≡ RuleTree-F.Let binds body span
          → Bind scope variables (binds_of binds) inner
          → IsTypedRule inner body
          → IsTypedRule variables r
      -- each case joins with what it is compared with
      Switch : {variables : Variables} {r : RuleTree} {value : TermTree}
          {cases : List RuleCaseTree} {other : Option RuleTree} {span : Span} {s : TermType}
          {ss : List TermType}
          → out-RuleTree r ≡ RuleTree-F.Switch value cases other span
          → HasType scope variables value s
          → AreTypedCases variables cases ss
          → AreTypedRules variables (optional other)
          → AllByRecursion (HaveJoin s) ss
          → IsTypedRule variables r
      -- each variable is a member of the domain
      Extend : {variables : Variables} {r body : RuleTree} {name first : Token}
          {others : List Token} {span : Span} {d : ℕ}
          → out-RuleTree r ≡ RuleTree-F.Extend name first others body span
          → NamesAbstract scope name d
          → IsTypedRule (with_members variables (first ∷ others) (type.Abstract d)) body
          → IsTypedRule variables r

    pub data AreTypedRules : Variables → List RuleTree → Type 0 where
      no_rule : {variables : Variables} → AreTypedRules variables []
      one_rule : {variables : Variables} {r : RuleTree} {rest : List RuleTree}
          → IsTypedRule variables r
          → AreTypedRules variables rest
          → AreTypedRules variables (r ∷ rest)

    -- what is compared has these types, and the rules are typed
    pub data AreTypedCases : Variables → List RuleCaseTree → List TermType → Type 0 where
      no_case : {variables : Variables} → AreTypedCases variables [] []
      one_case : {variables : Variables} {c : RuleCaseTree} {rest : List RuleCaseTree}
          {s : TermType} {ss : List TermType}
          → HasType scope variables (out-RuleCaseTree c).value s
          → IsTypedRule variables (out-RuleCaseTree c).rule
          → AreTypedCases variables rest ss
          → AreTypedCases variables (c ∷ rest) (s ∷ ss)
