-- Of a typed rule nothing is refused.
use Rattle.std.proofs.Common.{◌≡◌, ℕ, true, ◌&&◌, Option, Some, None, List, [], ◌∷◌}
use Rattle.std.proofs.Common.{◌++◌, refl, sym, ap, subst, ◌∙◌}
use Rattle.std.specs.Option.{option_map_or}
use Rattle.std.specs.List.{AllByRecursion}
use Rattle.asm_value.specs.declared.domain.Domain.{Domain}
use Rattle.asm_syntax.specs.declared.token.Span.{Span}
use Rattle.asm_syntax.specs.declared.token.Token.{Token}
use Rattle.asm_syntax.specs.declared.tree.RangesTree.{RangesTree}
use Rattle.asm_syntax.specs.declared.tree.BindsTree.{BindsTree}
use Rattle.asm_syntax.specs.declared.tree.TermTree.{TermTree}
use Rattle.asm_syntax.specs.declared.tree.RuleCaseTree.{RuleCaseTree}
use Rattle.asm_syntax.specs.declared.tree.RuleTree.{RuleTree}
use Rattle.asm_syntax.specs.declared.tree.RuleTree.TheOpen.{RuleTree-F}
use Rattle.asm_syntax.specs.declared.tree.RuleTree.TheViews.{out-RuleTree, out-RuleCaseTree}
use Rattle.asm_syntax.specs.Marks.{text_of}
use Rattle.asm_typing.specs.declared.types.Type.{«Type» as TermType}
use Rattle.asm_typing.specs.declared.types.Type.TheVariants as type
use Rattle.asm_typing.specs.Domains.{type_of}
use Rattle.asm_typing.specs.Fits.{fits}
use Rattle.asm_program.specs.declared.trees.Rule.TheVariants as rules
use Rattle.asm_program.specs.declared.type_refusal.TypeRefusal.TheVariants.{Mismatch}
use Rattle.asm_program.specs.Forms.{optional}
use Rattle.asm_program.specs.Items.{binds_of, terms_of, list_of_ranges}
use Rattle.asm_program.specs.Signatures.{Header, find}
use Rattle.asm_program.specs.TypedTerms.{Scope, Variables, Checked, unless, ranges_refused}
use Rattle.asm_program.specs.TypedTerms.{all_refused, types, truth_refused, args_fit, bound}
use Rattle.asm_program.specs.TypedTerms.{join_with, checked}
use Rattle.asm_program.specs.TypedRules.{is_updated, update_fits, parts_refused}
use Rattle.asm_program.specs.TypedRules.{function_updated, named_updated, macro_called, rule_called}
use Rattle.asm_program.specs.TypedRules.{simple, rules_refused, guard_refused, guards_refused}
use Rattle.asm_program.specs.TypedRules.{binds_typing, case_refused, case_values, own_refused}
use Rattle.asm_program.specs.TypedRules.{with_members, extended, terms_at, option_term}
use Rattle.asm_program.specs.TypedRules.{check_rule_level, checked_rule}
use Rattle.asm_program.specs.TypingLaws.{IsWhole, RulesUnrefusedWhereTyped}
use Rattle.asm_program.specs.HasType as has
use Rattle.asm_program.specs.HasType.{HasType, HaveTypes, Bind, IsGuard, FitEach, Fits, HaveJoin}
use Rattle.asm_program.specs.HasType.{NamesFunction, AreEnumerable, within}
use Rattle.asm_program.specs.IsTypedRule as typed
use Rattle.asm_program.specs.IsTypedRule.{IsTypedRule, AreTypedRules, AreTypedCases, NamesMacro}
use Rattle.asm_program.specs.IsTypedRule.{NamesAbstract}
use Rattle.asm_program.proofs.Refusals.{nil_both, nil_else, nil_own, nil_unless, true_both}
use Rattle.asm_program.proofs.Refusals.{each_fit, joins_have}
use Rattle.asm_program.proofs.TypesKept as term
use Rattle.asm_program.proofs.TypesKept.{Tells, TellAll, truth_kept, first_told, ranges_kept}
use Rattle.asm_program.proofs.TypesKept.{bind_kept}
use Rattle.asm_program.proofs.RuleTreeParts.{Form, told, checked_rule-out, rules_at, cases_of}
use Rattle.asm_program.proofs.RulesFound.{found}

module _ (scope : Scope) where
  -- ---- terms

  args_kept : {variables : Variables} {ts : List TermTree} {ss : List TermType}
      → HaveTypes scope variables ts ss → TellAll (terms_at scope variables ts) ss
  args_kept has.no_term = (refl, refl)
  args_kept (has.one_term {variables = v} {t = t} {rest = ts} {s = s} {ss = ss} h hs) =
      first_told (checked scope t v) s (terms_at scope v ts) ss (term.kept scope h) (args_kept hs)

  guard_kept : (variables : Variables) (guard : TermTree) → IsGuard scope variables guard
      → guard_refused (checked scope guard variables) ≡ []
  guard_kept variables guard h =
      let c = checked scope guard variables in
      let k = term.kept scope h.1 in
      nil_else c.refused (truth_refused c) k.0 (truth_kept c h.0 k.1 h.2)

  guards_kept : (variables : Variables) (guard : Option TermTree)
      → AllByRecursion (IsGuard scope variables) (optional guard)
      → guards_refused (option_term scope variables guard) ≡ []
  guards_kept variables None h = refl
  guards_kept variables (Some guard) h = guard_kept variables guard h.0

  -- ---- calls and updates

  call_kept : (name : Token) (cs : List Checked) (span : Span) (params : List Domain)
      (ss : List TermType) → NamesMacro scope name params → TellAll cs ss → FitEach ss params
      → (rule_called scope (find scope.names (text_of name)) name cs span).refused ≡ []
  call_kept name cs span params ss names k fit =
      subst (λ n. (rule_called scope n name cs span).refused ≡ []) (sym names.1)
      (subst (λ o. (option_map_or (λ ds. macro_called scope names.0 ds cs span) o
      (simple [] rules.Skip)).refused ≡ []) (sym names.2)
      (nil_else (all_refused cs) (unless (args_fit (types cs) params) (Mismatch span)) k.0
      (nil_unless (args_fit (types cs) params) (Mismatch span)
      (ap (λ z. args_fit z params) (sym k.1) ∙ each_fit ss params fit))))

  update_kept : (name : Token) (cs : List Checked) (c : Checked) (span : Span) (h : Header)
      (ss : List TermType) (s : TermType)
      → NamesFunction scope name h → TellAll cs ss → Tells c s → is_updated h.kind ≡ true
      → FitEach ss h.args → Fits s (type_of h.result)
      → (named_updated scope (find scope.names (text_of name)) name cs c span).refused ≡ []
  update_kept name cs c span h ss s names k one kind fit value =
      let args_do = args_fit (types cs) h.args in
      let value_does = fits c.type (type_of h.result) in
      subst (λ n. (named_updated scope n name cs c span).refused ≡ []) (sym names.1)
      (subst (λ o. (function_updated scope names.0 o cs c span).refused ≡ []) (sym names.2)
      (nil_else (parts_refused cs c) (unless (update_fits h (types cs) c.type) (Mismatch span))
      (nil_both (all_refused cs) c.refused k.0 one.0)
      (nil_unless (update_fits h (types cs) c.type) (Mismatch span)
      (true_both (is_updated h.kind && args_do) value_does
      (true_both (is_updated h.kind) args_do kind
      (ap (λ z. args_fit z h.args) (sym k.1) ∙ each_fit ss h.args fit))
      (ap (λ z. fits z (type_of h.result)) (sym one.1) ∙ value)))))

  -- ---- rules with rules in them

  -- nothing is refused of the rule
  abbrev Kept : Variables → RuleTree → Type 0
  Kept variables r = (checked_rule scope r variables).refused ≡ []

  abbrev AllKept : Variables → List RuleTree → Type 0
  AllKept variables rs = rules_refused (rules_at scope variables rs) ≡ []

  -- nothing is refused of the cases, and these types are told of what is compared
  abbrev CasesKept : Variables → List RuleCaseTree → List TermType → Type 0
  CasesKept variables cs ss =
      (case_refused (cases_of scope variables cs) ≡ [])
      × TellAll (case_values (cases_of scope variables cs)) ss

  abbrev At : Variables → Form → Type 0
  At variables a = (check_rule_level scope (told scope a) variables).refused ≡ []

  by_form : (variables : Variables) (r : RuleTree) (a : Form) → out-RuleTree r ≡ a
      → At variables a → Kept variables r
  by_form variables r a is k = ap (λ m. (m variables).refused) (checked_rule-out scope r a is) ∙ k

  if_form : (variables : Variables) (guard : TermTree) (first : RuleTree) (other : Option RuleTree)
      (span : Span) → IsGuard scope variables guard → Kept variables first
      → AllKept variables (optional other)
      → At variables (RuleTree-F.If guard first other span)
  if_form variables guard first None span h k rest =
      let g = guard_refused (checked scope guard variables) in
      let f = (checked_rule scope first variables).refused in
      nil_both (g ++ f) [] (nil_both g f (guard_kept variables guard h) k) rest
  if_form variables guard first (Some other) span h k rest =
      let g = guard_refused (checked scope guard variables) in
      let f = (checked_rule scope first variables).refused in
      nil_both (g ++ f) (rules_refused (rules_at scope variables (other ∷ [])))
      (nil_both g f (guard_kept variables guard h) k) rest

  body_kept : (variables : Variables) (ranges : RangesTree) (guard : Option TermTree)
      (body : RuleTree) → AreEnumerable scope ranges
      → AllByRecursion (IsGuard scope (within scope variables ranges)) (optional guard)
      → Kept (within scope variables ranges) body
      → ranges_refused scope (list_of_ranges ranges)
      ++ guards_refused (option_term scope (within scope variables ranges) guard)
      ++ (checked_rule scope body (within scope variables ranges)).refused ≡ []
  body_kept variables ranges guard body enumerable h k =
      let inner = within scope variables ranges in
      let own = ranges_refused scope (list_of_ranges ranges) in
      let g = guards_refused (option_term scope inner guard) in
      nil_both (own ++ g) (checked_rule scope body inner).refused
      (nil_both own g (ranges_kept scope ranges enumerable) (guards_kept inner guard h)) k

  choose_form : (variables : Variables) (ranges : RangesTree) (guard : Option TermTree)
      (body : RuleTree) (other : Option RuleTree) (span : Span)
      → ranges_refused scope (list_of_ranges ranges)
      ++ guards_refused (option_term scope (within scope variables ranges) guard)
      ++ (checked_rule scope body (within scope variables ranges)).refused ≡ []
      → AllKept variables (optional other)
      → At variables (RuleTree-F.Choose ranges guard body other span)
  choose_form variables ranges guard body None span k rest =
      let inner = within scope variables ranges in
      nil_both (ranges_refused scope (list_of_ranges ranges)
      ++ guards_refused (option_term scope inner guard)
      ++ (checked_rule scope body inner).refused) [] k rest
  choose_form variables ranges guard body (Some other) span k rest =
      let inner = within scope variables ranges in
      nil_both (ranges_refused scope (list_of_ranges ranges)
      ++ guards_refused (option_term scope inner guard)
      ++ (checked_rule scope body inner).refused)
      (rules_refused (rules_at scope variables (other ∷ []))) k rest

  let_kept : (variables inner : Variables) (binds : BindsTree) (body : RuleTree) (span : Span)
      → Bind scope variables (binds_of binds) inner → Kept inner body
      → At variables (RuleTree-F.Let binds body span)
  let_kept variables inner binds body span h k =
      let b = bound variables (binds_typing scope binds) in
      let bs = bind_kept scope h in
      nil_both b.refused (checked_rule scope body b.variables).refused bs.0
      (subst (λ z. Kept z body) bs.1 k)

  cases_unrefused : (variables : Variables) (value : TermTree) (cases : List RuleCaseTree)
      (s : TermType) (ss : List TermType) (span : Span)
      → Tells (checked scope value variables) s → CasesKept variables cases ss
      → AllByRecursion (HaveJoin s) ss
      → own_refused (all_refused (checked scope value variables
      ∷ case_values (cases_of scope variables cases)))
      (unless (join_with (checked scope value variables).type
      (types (case_values (cases_of scope variables cases)))) (Mismatch span))
      ++ (checked scope value variables).refused ++ case_refused (cases_of scope variables cases)
      ≡ []
  cases_unrefused variables value cases s ss span h k joins =
      let v = checked scope value variables in
      let cs = cases_of scope variables cases in
      let all = all_refused (v ∷ case_values cs) in
      let test = join_with v.type (types (case_values cs)) in
      nil_both (own_refused all (unless test (Mismatch span)) ++ v.refused) (case_refused cs)
      (nil_both (own_refused all (unless test (Mismatch span))) v.refused
      (nil_own all (unless test (Mismatch span))
      (nil_unless test (Mismatch span)
      ((λ i. join_with (sym h.1 i) (sym k.1.1 i)) ∙ joins_have s ss joins)))
      h.0) k.0

  switch_form : (variables : Variables) (value : TermTree) (cases : List RuleCaseTree)
      (other : Option RuleTree) (span : Span)
      → own_refused (all_refused (checked scope value variables
      ∷ case_values (cases_of scope variables cases)))
      (unless (join_with (checked scope value variables).type
      (types (case_values (cases_of scope variables cases)))) (Mismatch span))
      ++ (checked scope value variables).refused ++ case_refused (cases_of scope variables cases)
      ≡ []
      → AllKept variables (optional other)
      → At variables (RuleTree-F.Switch value cases other span)
  switch_form variables value cases None span k rest =
      let v = checked scope value variables in
      let cs = cases_of scope variables cases in
      nil_both (own_refused (all_refused (v ∷ case_values cs))
      (unless (join_with v.type (types (case_values cs))) (Mismatch span))
      ++ v.refused ++ case_refused cs) [] k rest
  switch_form variables value cases (Some other) span k rest =
      let v = checked scope value variables in
      let cs = cases_of scope variables cases in
      nil_both (own_refused (all_refused (v ∷ case_values cs))
      (unless (join_with v.type (types (case_values cs))) (Mismatch span))
      ++ v.refused ++ case_refused cs) (rules_refused (rules_at scope variables (other ∷ []))) k
      rest

  first_case : (variables : Variables) (c : RuleCaseTree) (cs : List RuleCaseTree) (s : TermType)
      (ss : List TermType)
      → Tells (checked scope (out-RuleCaseTree c).value variables) s
      → Kept variables (out-RuleCaseTree c).rule
      → CasesKept variables cs ss → CasesKept variables (c ∷ cs) (s ∷ ss)
  first_case variables c cs s ss h k rest =
      let value = checked scope (out-RuleCaseTree c).value variables in
      let rule = checked_rule scope (out-RuleCaseTree c).rule variables in (
        nil_both (value.refused ++ rule.refused) (case_refused (cases_of scope variables cs))
            (nil_both value.refused rule.refused h.0 k) rest.0,
        first_told value s (case_values (cases_of scope variables cs)) ss h rest.1,
      )

  extend_kept : (variables : Variables) (name first : Token) (others : List Token) (span : Span)
      (d : ℕ) (body : RuleTree) → NamesAbstract scope name d
      → Kept (with_members variables (first ∷ others) (type.Abstract d)) body
      → At variables (RuleTree-F.Extend name first others body span)
  extend_kept variables name first others span d body names k =
      subst (λ n. (extended n name (first ∷ others) (λ type. checked_rule scope body
      (with_members variables (first ∷ others) type)) span).refused ≡ []) (sym names) k

  -- ---- derivations

  mutual
    pub kept : {variables : Variables} {r : RuleTree} → IsTypedRule scope variables r
        → Kept variables r
    kept (typed.Skip {variables = v} {r = r} {span = span} is) =
        by_form v r (RuleTree-F.Skip span) is refl
    kept (typed.Call {variables = v} {r = r} {name = name} {args = args} {span = span}
        {params = params} {ss = ss} is names hs fit) =
        by_form v r (RuleTree-F.Call name args span) is
        (call_kept name (terms_at scope v (terms_of args)) span params ss names (args_kept hs) fit)
    kept (typed.Update {variables = v} {r = r} {name = name} {args = args} {value = value}
        {span = span} {h = f} {ss = ss} {s = s} is names hs h kind fit fits_too) =
        by_form v r (RuleTree-F.Update name args value span) is
        (update_kept name (terms_at scope v (terms_of args)) (checked scope value v) span f ss s
        names (args_kept hs) (term.kept scope h) kind fit fits_too)
    kept (typed.Par {variables = v} {r = r} {first = first} {others = others} {span = span} is hs) =
        by_form v r (RuleTree-F.Par first others span) is (all_kept hs)
    kept (typed.Seq {variables = v} {r = r} {first = first} {others = others} {span = span} is hs) =
        by_form v r (RuleTree-F.Seq first others span) is (all_kept hs)
    kept (typed.If {variables = v} {r = r} {first = first} {guard = guard} {other = other}
        {span = span} is h k rest) =
        by_form v r (RuleTree-F.If guard first other span) is
        (if_form v guard first other span h (kept k) (all_kept rest))
    kept (typed.Forall {variables = v} {r = r} {body = body} {ranges = ranges} {guard = guard}
        {span = span} is enumerable h k) =
        by_form v r (RuleTree-F.Forall ranges guard body span) is
        (body_kept v ranges guard body enumerable h (kept k))
    kept (typed.Choose {variables = v} {r = r} {body = body} {ranges = ranges} {guard = guard}
        {other = other} {span = span} is enumerable h k rest) =
        by_form v r (RuleTree-F.Choose ranges guard body other span) is
        (choose_form v ranges guard body other span
        (body_kept v ranges guard body enumerable h (kept k)) (all_kept rest))
    kept (typed.Let {variables = v} {inner = inner} {r = r} {body = body} {binds = binds}
        {span = span} is h k) =
        by_form v r (RuleTree-F.Let binds body span) is
        (let_kept v inner binds body span h (kept k))
    kept (typed.Switch {variables = v} {r = r} {value = value} {cases = cases} {other = other}
        {span = span} {s = s} {ss = ss} is h hs rest joins) =
        by_form v r (RuleTree-F.Switch value cases other span) is
        (switch_form v value cases other span
        (cases_unrefused v value cases s ss span (term.kept scope h) (cases_kept hs) joins)
        (all_kept rest))
    kept (typed.Extend {variables = v} {r = r} {body = body} {name = name} {first = first}
        {others = others} {span = span} {d = d} is names k) =
        by_form v r (RuleTree-F.Extend name first others body span) is
        (extend_kept v name first others span d body names (kept k))

    all_kept : {variables : Variables} {rs : List RuleTree} → AreTypedRules scope variables rs
        → AllKept variables rs
    all_kept typed.no_rule = refl
    all_kept (typed.one_rule {variables = v} {r = r} {rest = rs} h hs) =
        nil_both (checked_rule scope r v).refused (rules_refused (rules_at scope v rs)) (kept h)
        (all_kept hs)

    cases_kept : {variables : Variables} {cs : List RuleCaseTree} {ss : List TermType}
        → AreTypedCases scope variables cs ss → CasesKept variables cs ss
    cases_kept typed.no_case = (refl, (refl, refl))
    cases_kept (typed.one_case {variables = v} {c = c} {rest = cs} {s = s} {ss = ss} h k hs) =
        first_case v c cs s ss (term.kept scope h) (kept k) (cases_kept hs)

pub rules_unrefused_where_typed : (scope : Scope) → IsWhole scope
    → RulesUnrefusedWhereTyped scope
rules_unrefused_where_typed scope whole r variables =
    (λ h. found scope whole r variables h, λ h. kept scope h)
