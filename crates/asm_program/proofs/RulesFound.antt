-- A rule of which nothing is refused is typed.
use Rattle.std.proofs.Common.{◌≡◌, ℕ, ◌&&◌, Option, Some, None, List, [], ◌∷◌}
use Rattle.std.proofs.Common.{◌++◌, slice_get, refl, sym, ap, ◌∙◌}
use Rattle.std.specs.Option.{option_map_or}
use Rattle.std.specs.List.{AllByRecursion}
use Rattle.asm_value.specs.declared.domain.Domain.{Domain}
use Rattle.asm_syntax.specs.declared.token.Span.{Span}
use Rattle.asm_syntax.specs.declared.token.Token.{Token}
use Rattle.asm_syntax.specs.declared.tree.RangesTree.{RangesTree}
use Rattle.asm_syntax.specs.declared.tree.BindsTree.{BindsTree}
use Rattle.asm_syntax.specs.declared.tree.TermsTree.{TermsTree}
use Rattle.asm_syntax.specs.declared.tree.TermTree.{TermTree}
use Rattle.asm_syntax.specs.declared.tree.RuleCaseTree.{RuleCaseTree}
use Rattle.asm_syntax.specs.declared.tree.RuleTree.{RuleTree}
use Rattle.asm_syntax.specs.declared.tree.RuleTree.TheOpen.{RuleTree-F}
use Rattle.asm_syntax.specs.declared.tree.RuleTree.TheViews.{out-RuleTree, out-RuleCaseTree}
use Rattle.asm_syntax.specs.Marks.{text_of}
use Rattle.asm_typing.specs.declared.types.Type.TheVariants as type
use Rattle.asm_typing.specs.Domains.{type_of}
use Rattle.asm_typing.specs.Fits.{fits}
use Rattle.asm_program.specs.declared.named.Named.{Named}
use Rattle.asm_program.specs.declared.named.Named.TheVariants as named
use Rattle.asm_program.specs.declared.trees.Rule.TheVariants as rules
use Rattle.asm_program.specs.declared.type_refusal.TypeRefusal.{TypeRefusal}
use Rattle.asm_program.specs.declared.type_refusal.TypeRefusal.TheVariants.{Mismatch}
use Rattle.asm_program.specs.Forms.{optional}
use Rattle.asm_program.specs.Items.{bind_of, binds_of, terms_of, list_of_ranges}
use Rattle.asm_program.specs.Signatures.{Header, find}
use Rattle.asm_program.specs.TypedTerms.{Scope, Variables, Checked, unknown, or_else, unless, at}
use Rattle.asm_program.specs.TypedTerms.{ranges_refused, all_refused, types, truth_refused}
use Rattle.asm_program.specs.TypedTerms.{args_fit, bound, join_with, checked}
use Rattle.asm_program.specs.TypedRules.{CheckedRule, is_updated, update_fits, parts_refused}
use Rattle.asm_program.specs.TypedRules.{function_updated, named_updated, macro_called, rule_called}
use Rattle.asm_program.specs.TypedRules.{simple, rules_refused, guard_refused, guards_refused}
use Rattle.asm_program.specs.TypedRules.{binds_typing, case_refused, case_values, own_refused}
use Rattle.asm_program.specs.TypedRules.{with_members, extended, terms_at, option_term}
use Rattle.asm_program.specs.TypedRules.{check_rule_level, checked_rule}
use Rattle.asm_program.specs.TypingLaws.{IsWhole}
use Rattle.asm_program.specs.HasType as has
use Rattle.asm_program.specs.HasType.{HaveTypes, Bind, IsGuard, within}
use Rattle.asm_program.specs.IsTypedRule as typed
use Rattle.asm_program.specs.IsTypedRule.{IsTypedRule, AreTypedRules, AreTypedCases}
use Rattle.asm_program.proofs.Refusals.{not_nil, both_nil, nil_both, else_nil, own_nil, unless_nil}
use Rattle.asm_program.proofs.Refusals.{both_true, fit_each, have_joins, some_or_none}
use Rattle.asm_program.proofs.TermTreeParts.{OfBind}
use Rattle.asm_program.proofs.TypesFound as term
use Rattle.asm_program.proofs.TypesFound.{bind_found, enumerables, truth_found}
use Rattle.asm_program.proofs.RuleTreeParts.{Form, OfCase, OfParts, by_parts, told}
use Rattle.asm_program.proofs.RuleTreeParts.{checked_rule-out, rules_at, cases_of}

-- what is so of all is so of each
every : {A : Type 0} (Q : A → Type 0) → ((x : A) → Q x) → (xs : List A) → AllByRecursion Q xs
every Q all [] = tt
every Q all (x ∷ xs) = (all x, every Q all xs)

module _ (scope : Scope) (whole : IsWhole scope) where
  -- where nothing is refused of the rule, it is typed
  abbrev pub Found : RuleTree → Type 0
  Found r = (variables : Variables) → (checked_rule scope r variables).refused ≡ []
      → IsTypedRule scope variables r

  -- ---- terms

  args_found : (ts : List TermTree) (variables : Variables)
      → all_refused (terms_at scope variables ts) ≡ []
      → HaveTypes scope variables ts (types (terms_at scope variables ts))
  args_found [] variables h = has.no_term
  args_found (t ∷ ts) variables h =
      let both = both_nil (checked scope t variables).refused
      (all_refused (terms_at scope variables ts)) h in
      has.one_term (term.found scope whole t variables both.0) (args_found ts variables both.1)

  binds_found : (binds : BindsTree) (variables : Variables)
      → (bound variables (binds_typing scope binds)).refused ≡ []
      → Bind scope variables (binds_of binds) (bound variables (binds_typing scope binds)).variables
  binds_found binds variables h =
      bind_found scope (binds_of binds)
      (every (OfBind (term.Found scope)) (λ b. term.found scope whole (bind_of b).1)
      (binds_of binds))
      variables h

  guard_found : (guard : TermTree) (variables : Variables)
      → guard_refused (checked scope guard variables) ≡ [] → IsGuard scope variables guard
  guard_found guard variables h =
      let c = checked scope guard variables in
      let both = else_nil c.refused (truth_refused c) h in
      (c.type, term.found scope whole guard variables both.0, truth_found scope c both.1)

  guards_found : (guard : Option TermTree) (variables : Variables)
      → guards_refused (option_term scope variables guard) ≡ []
      → AllByRecursion (IsGuard scope variables) (optional guard)
  guards_found None variables h = tt
  guards_found (Some guard) variables h = (guard_found guard variables h, tt)

  -- ---- calls and updates

  macro_found : (variables : Variables) (r : RuleTree) (name : Token) (args : Option TermsTree)
      (span : Span) (m : ℕ) (o : Option (List Domain)) → slice_get scope.macros m ≡ o
      → find scope.names (text_of name) ≡ Some (named.Macro m)
      → out-RuleTree r ≡ RuleTree-F.Call name args span
      → (option_map_or (λ params. macro_called scope m params
      (terms_at scope variables (terms_of args)) span) o (simple [] rules.Skip)).refused ≡ []
      → IsTypedRule scope variables r
  macro_found variables r name args span m None at names is h =
      let some = whole.macros (text_of name) m names in
      some_or_none (slice_get scope.macros m) some.0 at some.1
  macro_found variables r name args span m (Some params) at names is h =
      let cs = terms_at scope variables (terms_of args) in
      let both = else_nil (all_refused cs)
      (unless (args_fit (types cs) params) (Mismatch span)) h in
      typed.Call is (m, names, at) (args_found (terms_of args) variables both.0)
      (fit_each (types cs) params (unless_nil (args_fit (types cs) params) (Mismatch span) both.1))

  call_found : (variables : Variables) (r : RuleTree) (name : Token) (args : Option TermsTree)
      (span : Span) (n : Option Named) → find scope.names (text_of name) ≡ n
      → out-RuleTree r ≡ RuleTree-F.Call name args span
      → (rule_called scope n name (terms_at scope variables (terms_of args)) span).refused ≡ []
      → IsTypedRule scope variables r
  call_found variables r name args span (Some (named.Macro m)) names is h =
      macro_found variables r name args span m (slice_get scope.macros m) refl names is h
  call_found variables r name args span None names is h =
      not_nil (unknown name) (all_refused (terms_at scope variables (terms_of args))) h
  call_found variables r name args span (Some (named.Enum d)) names is h =
      not_nil (Mismatch name.span) (all_refused (terms_at scope variables (terms_of args))) h
  call_found variables r name args span (Some (named.Abstract d)) names is h =
      not_nil (Mismatch name.span) (all_refused (terms_at scope variables (terms_of args))) h
  call_found variables r name args span (Some (named.Subset d)) names is h =
      not_nil (Mismatch name.span) (all_refused (terms_at scope variables (terms_of args))) h
  call_found variables r name args span (Some (named.Literal d i)) names is h =
      not_nil (Mismatch name.span) (all_refused (terms_at scope variables (terms_of args))) h
  call_found variables r name args span (Some (named.Function f)) names is h =
      not_nil (Mismatch name.span) (all_refused (terms_at scope variables (terms_of args))) h
  call_found variables r name args span (Some named.Main) names is h =
      not_nil (Mismatch name.span) (all_refused (terms_at scope variables (terms_of args))) h

  function_found : (variables : Variables) (r : RuleTree) (name : Token) (args : Option TermsTree)
      (value : TermTree) (span : Span) (f : ℕ) (o : Option Header)
      → slice_get scope.functions f ≡ o → find scope.names (text_of name) ≡ Some (named.Function f)
      → out-RuleTree r ≡ RuleTree-F.Update name args value span
      → (function_updated scope f o (terms_at scope variables (terms_of args))
      (checked scope value variables) span).refused ≡ []
      → IsTypedRule scope variables r
  function_found variables r name args value span f None at names is h =
      let some = whole.functions (text_of name) f names in
      some_or_none (slice_get scope.functions f) some.0 at some.1
  function_found variables r name args value span f (Some header) at names is h =
      let cs = terms_at scope variables (terms_of args) in
      let c = checked scope value variables in
      let kind = is_updated header.kind in
      let args_do = args_fit (types cs) header.args in
      let value_does = fits c.type (type_of header.result) in
      let outer = else_nil (parts_refused cs c)
      (unless (update_fits header (types cs) c.type) (Mismatch span)) h in
      let parts = both_nil (all_refused cs) c.refused outer.0 in
      let tests = both_true (kind && args_do) value_does
      (unless_nil (update_fits header (types cs) c.type) (Mismatch span) outer.1) in
      let first = both_true kind args_do tests.0 in
      typed.Update is (f, names, at) (args_found (terms_of args) variables parts.0)
      (term.found scope whole value variables parts.1) first.0
      (fit_each (types cs) header.args first.1) tests.1

  -- a name that stands for no function is refused
  not_updated : {X : Type 0} (parts : List TypeRefusal) (span : Span)
      → or_else parts (Mismatch span ∷ []) ≡ [] → X
  not_updated parts span h =
      not_nil (Mismatch span) [] (else_nil parts (Mismatch span ∷ []) h).1

  update_found : (variables : Variables) (r : RuleTree) (name : Token) (args : Option TermsTree)
      (value : TermTree) (span : Span) (n : Option Named) → find scope.names (text_of name) ≡ n
      → out-RuleTree r ≡ RuleTree-F.Update name args value span
      → (named_updated scope n name (terms_at scope variables (terms_of args))
      (checked scope value variables) span).refused ≡ []
      → IsTypedRule scope variables r
  update_found variables r name args value span (Some (named.Function f)) names is h =
      function_found variables r name args value span f (slice_get scope.functions f) refl names is
      h
  update_found variables r name args value span None names is h =
      not_nil (unknown name) (parts_refused (terms_at scope variables (terms_of args))
      (checked scope value variables)) h
  update_found variables r name args value span (Some (named.Enum d)) names is h =
      not_updated (parts_refused (terms_at scope variables (terms_of args))
      (checked scope value variables)) span h
  update_found variables r name args value span (Some (named.Abstract d)) names is h =
      not_updated (parts_refused (terms_at scope variables (terms_of args))
      (checked scope value variables)) span h
  update_found variables r name args value span (Some (named.Subset d)) names is h =
      not_updated (parts_refused (terms_at scope variables (terms_of args))
      (checked scope value variables)) span h
  update_found variables r name args value span (Some (named.Literal d i)) names is h =
      not_updated (parts_refused (terms_at scope variables (terms_of args))
      (checked scope value variables)) span h
  update_found variables r name args value span (Some (named.Macro m)) names is h =
      not_updated (parts_refused (terms_at scope variables (terms_of args))
      (checked scope value variables)) span h
  update_found variables r name args value span (Some named.Main) names is h =
      not_updated (parts_refused (terms_at scope variables (terms_of args))
      (checked scope value variables)) span h

  -- ---- rules with rules in them

  all_found : (rs : List RuleTree) → AllByRecursion Found rs → (variables : Variables)
      → rules_refused (rules_at scope variables rs) ≡ [] → AreTypedRules scope variables rs
  all_found [] parts variables h = typed.no_rule
  all_found (r ∷ rs) parts variables h =
      let both = both_nil (checked_rule scope r variables).refused
      (rules_refused (rules_at scope variables rs)) h in
      typed.one_rule (parts.0 variables both.0) (all_found rs parts.1 variables both.1)

  cases_found : (cs : List RuleCaseTree) → AllByRecursion (OfCase Found) cs
      → (variables : Variables) → case_refused (cases_of scope variables cs) ≡ []
      → AreTypedCases scope variables cs (types (case_values (cases_of scope variables cs)))
  cases_found [] parts variables h = typed.no_case
  cases_found (c ∷ cs) parts variables h =
      let value = checked scope (out-RuleCaseTree c).value variables in
      let rule = checked_rule scope (out-RuleCaseTree c).rule variables in
      let rest = both_nil (value.refused ++ rule.refused)
      (case_refused (cases_of scope variables cs)) h in
      let both = both_nil value.refused rule.refused rest.0 in
      typed.one_case (term.found scope whole (out-RuleCaseTree c).value variables both.0)
      (parts.0 variables both.1) (cases_found cs parts.1 variables rest.1)

  values_unrefused : (cs : List (Checked × CheckedRule)) → case_refused cs ≡ []
      → all_refused (case_values cs) ≡ []
  values_unrefused [] h = refl
  values_unrefused (c ∷ cs) h =
      let rest = both_nil (c.0.refused ++ c.1.refused) (case_refused cs) h in
      nil_both c.0.refused (all_refused (case_values cs))
      (both_nil c.0.refused c.1.refused rest.0).0 (values_unrefused cs rest.1)

  if_found : (variables : Variables) (r first : RuleTree) (guard : TermTree)
      (other : Option RuleTree) (span : Span)
      → out-RuleTree r ≡ RuleTree-F.If guard first other span
      → Found first → AllByRecursion Found (optional other)
      → guard_refused (checked scope guard variables)
      ++ (checked_rule scope first variables).refused
      ++ rules_refused (rules_at scope variables (optional other)) ≡ []
      → IsTypedRule scope variables r
  if_found variables r first guard other span is part rest h =
      let g = guard_refused (checked scope guard variables) in
      let f = (checked_rule scope first variables).refused in
      let outer = both_nil (g ++ f) (rules_refused (rules_at scope variables (optional other))) h in
      let both = both_nil g f outer.0 in
      typed.If is (guard_found guard variables both.0) (part variables both.1)
      (all_found (optional other) rest variables outer.1)

  forall_found : (variables : Variables) (r body : RuleTree) (ranges : RangesTree)
      (guard : Option TermTree) (span : Span)
      → out-RuleTree r ≡ RuleTree-F.Forall ranges guard body span → Found body
      → ranges_refused scope (list_of_ranges ranges)
      ++ guards_refused (option_term scope (within scope variables ranges) guard)
      ++ (checked_rule scope body (within scope variables ranges)).refused ≡ []
      → IsTypedRule scope variables r
  forall_found variables r body ranges guard span is part h =
      let inner = within scope variables ranges in
      let own = ranges_refused scope (list_of_ranges ranges) in
      let g = guards_refused (option_term scope inner guard) in
      let outer = both_nil (own ++ g) (checked_rule scope body inner).refused h in
      let both = both_nil own g outer.0 in
      typed.Forall is (enumerables scope ranges both.0) (guards_found guard inner both.1)
      (part inner outer.1)

  choose_found : (variables : Variables) (r body : RuleTree) (ranges : RangesTree)
      (guard : Option TermTree) (other : Option RuleTree) (span : Span)
      → out-RuleTree r ≡ RuleTree-F.Choose ranges guard body other span → Found body
      → AllByRecursion Found (optional other)
      → ranges_refused scope (list_of_ranges ranges)
      ++ guards_refused (option_term scope (within scope variables ranges) guard)
      ++ (checked_rule scope body (within scope variables ranges)).refused
      ++ rules_refused (rules_at scope variables (optional other)) ≡ []
      → IsTypedRule scope variables r
  choose_found variables r body ranges guard other span is part rest h =
      let inner = within scope variables ranges in
      let own = ranges_refused scope (list_of_ranges ranges) in
      let g = guards_refused (option_term scope inner guard) in
      let b = (checked_rule scope body inner).refused in
      let all = both_nil (own ++ g ++ b)
      (rules_refused (rules_at scope variables (optional other))) h in
      let outer = both_nil (own ++ g) b all.0 in
      let both = both_nil own g outer.0 in
      typed.Choose is (enumerables scope ranges both.0) (guards_found guard inner both.1)
      (part inner outer.1) (all_found (optional other) rest variables all.1)

  let_found : (variables : Variables) (r body : RuleTree) (binds : BindsTree) (span : Span)
      → out-RuleTree r ≡ RuleTree-F.Let binds body span → Found body
      → (bound variables (binds_typing scope binds)).refused
      ++ (checked_rule scope body (bound variables (binds_typing scope binds)).variables).refused
      ≡ []
      → IsTypedRule scope variables r
  let_found variables r body binds span is part h =
      let b = bound variables (binds_typing scope binds) in
      let both = both_nil b.refused (checked_rule scope body b.variables).refused h in
      typed.Let is (binds_found binds variables both.0) (part b.variables both.1)

  switch_found : (variables : Variables) (r : RuleTree) (value : TermTree)
      (cases : List RuleCaseTree) (other : Option RuleTree) (span : Span)
      → out-RuleTree r ≡ RuleTree-F.Switch value cases other span
      → AllByRecursion (OfCase Found) cases → AllByRecursion Found (optional other)
      → own_refused (all_refused (checked scope value variables
      ∷ case_values (cases_of scope variables cases)))
      (unless (join_with (checked scope value variables).type
      (types (case_values (cases_of scope variables cases)))) (Mismatch span))
      ++ (checked scope value variables).refused ++ case_refused (cases_of scope variables cases)
      ++ rules_refused (rules_at scope variables (optional other)) ≡ []
      → IsTypedRule scope variables r
  switch_found variables r value cases other span is parts rest h =
      let v = checked scope value variables in
      let cs = cases_of scope variables cases in
      let joins = join_with v.type (types (case_values cs)) in
      let own = own_refused (all_refused (v ∷ case_values cs)) (unless joins (Mismatch span)) in
      let all = both_nil (own ++ v.refused ++ case_refused cs)
      (rules_refused (rules_at scope variables (optional other))) h in
      let most = both_nil (own ++ v.refused) (case_refused cs) all.0 in
      let both = both_nil own v.refused most.0 in
      let tested = own_nil (all_refused (v ∷ case_values cs)) (unless joins (Mismatch span)) both.0
      (nil_both v.refused (all_refused (case_values cs)) both.1 (values_unrefused cs most.1)) in
      typed.Switch is (term.found scope whole value variables both.1)
      (cases_found cases parts variables most.1) (all_found (optional other) rest variables all.1)
      (have_joins v.type (types (case_values cs)) (unless_nil joins (Mismatch span) tested))

  extend_found : (variables : Variables) (r body : RuleTree) (name first : Token)
      (others : List Token) (span : Span) (n : Option Named)
      → find scope.names (text_of name) ≡ n
      → out-RuleTree r ≡ RuleTree-F.Extend name first others body span → Found body
      → (extended n name (first ∷ others) (λ type. checked_rule scope body
      (with_members variables (first ∷ others) type)) span).refused ≡ []
      → IsTypedRule scope variables r
  extend_found variables r body name first others span (Some (named.Abstract d)) names is part h =
      typed.Extend is names (part (with_members variables (first ∷ others) (type.Abstract d)) h)
  extend_found variables r body name first others span None names is part h =
      not_nil (unknown name) (checked_rule scope body
      (with_members variables (first ∷ others) type.Untyped)).refused h
  extend_found variables r body name first others span (Some (named.Enum d)) names is part h =
      not_nil (Mismatch name.span) (checked_rule scope body
      (with_members variables (first ∷ others) type.Untyped)).refused h
  extend_found variables r body name first others span (Some (named.Subset d)) names is part h =
      not_nil (Mismatch name.span) (checked_rule scope body
      (with_members variables (first ∷ others) type.Untyped)).refused h
  extend_found variables r body name first others span (Some (named.Literal d i)) names is part h =
      not_nil (Mismatch name.span) (checked_rule scope body
      (with_members variables (first ∷ others) type.Untyped)).refused h
  extend_found variables r body name first others span (Some (named.Function f)) names is part h =
      not_nil (Mismatch name.span) (checked_rule scope body
      (with_members variables (first ∷ others) type.Untyped)).refused h
  extend_found variables r body name first others span (Some (named.Macro m)) names is part h =
      not_nil (Mismatch name.span) (checked_rule scope body
      (with_members variables (first ∷ others) type.Untyped)).refused h
  extend_found variables r body name first others span (Some named.Main) names is part h =
      not_nil (Mismatch name.span) (checked_rule scope body
      (with_members variables (first ∷ others) type.Untyped)).refused h

  -- ---- each form

  at_form : (r : RuleTree) (a : Form) → out-RuleTree r ≡ a → OfParts Found a
      → (variables : Variables) → (check_rule_level scope (told scope a) variables).refused ≡ []
      → IsTypedRule scope variables r
  at_form r (RuleTree-F.Skip span) is parts variables h = typed.Skip is
  at_form r (RuleTree-F.Call name args span) is parts variables h =
      call_found variables r name args span (find scope.names (text_of name)) refl is h
  at_form r (RuleTree-F.Update name args value span) is parts variables h =
      update_found variables r name args value span (find scope.names (text_of name)) refl is h
  at_form r (RuleTree-F.Par first others span) is parts variables h =
      typed.Par is (all_found (first ∷ others) parts variables h)
  at_form r (RuleTree-F.Seq first others span) is parts variables h =
      typed.Seq is (all_found (first ∷ others) parts variables h)
  at_form r (RuleTree-F.If guard first None span) is parts variables h =
      if_found variables r first guard None span is parts.0 parts.1 h
  at_form r (RuleTree-F.If guard first (Some other) span) is parts variables h =
      if_found variables r first guard (Some other) span is parts.0 parts.1 h
  at_form r (RuleTree-F.Forall ranges guard body span) is part variables h =
      forall_found variables r body ranges guard span is part h
  at_form r (RuleTree-F.Choose ranges guard body None span) is parts variables h =
      choose_found variables r body ranges guard None span is parts.0 parts.1 h
  at_form r (RuleTree-F.Choose ranges guard body (Some other) span) is parts variables h =
      choose_found variables r body ranges guard (Some other) span is parts.0 parts.1 h
  at_form r (RuleTree-F.Let binds body span) is part variables h =
      let_found variables r body binds span is part h
  at_form r (RuleTree-F.Switch value cases None span) is parts variables h =
      switch_found variables r value cases None span is parts.0 parts.1 h
  at_form r (RuleTree-F.Switch value cases (Some other) span) is parts variables h =
      switch_found variables r value cases (Some other) span is parts.0 parts.1 h
  at_form r (RuleTree-F.Extend name first others body span) is part variables h =
      extend_found variables r body name first others span (find scope.names (text_of name)) refl
      is part h

  pub found : (r : RuleTree) → Found r
  found = by_parts Found (λ r a is parts variables h.
      at_form r a is parts variables
      (ap (λ m. (m variables).refused) (sym (checked_rule-out scope r a is)) ∙ h))
