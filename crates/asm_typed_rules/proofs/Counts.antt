-- Lists of rules, of cases and of new members, one after the other.
use Rattle.std.proofs.Common.{◌≡◌, ℕ, ◌+◌, ◌<◌, ◌≤◌, List, [], ◌∷◌, ◌++◌, length, map, drop, get_or, take, refl, sym, ap, ◌∙◌, append_assoc, arith}
use Rattle.std.proofs.lemmas.List.{drop_all, drop_more, append-nil}
use Rattle.std.proofs.Math.Seq.{take-append_seam}
use Rattle.asm_syntax.specs.declared.token.Token.{Token}
use Rattle.asm_syntax.specs.declared.tree.RuleTree.{RuleTree}
use Rattle.asm_syntax.specs.declared.tree.RuleCaseTree.{RuleCaseTree}
use Rattle.asm_syntax.specs.declared.tree.RuleTree.TheViews.{out-RuleCaseTree, the_lemmas}
use Rattle.asm_syntax.specs.Marks.{text_of}
use Rattle.asm_typing.specs.declared.types.Type.{«Type» as TermType}
use Rattle.asm_typing.specs.declared.types.Type.TheVariants as type
use Rattle.asm_program.specs.declared.trees.Rule.{Rule}
use Rattle.asm_program.specs.declared.trees.RuleCase.{RuleCase}
use Rattle.asm_program.specs.declared.type_refusal.TypeRefusal.{TypeRefusal}
use Rattle.asm_program.specs.TypedTerms.{Scope, Variables, Checked, checked, with_variable, all_refused, types}
use Rattle.asm_program.specs.TypedRules as typed
use Rattle.asm_program.specs.TypedRules.{CheckedRule, checked_rule}
use Rattle.asm_typed.specs.Answers.{settled}
use Rattle.asm_typed.proofs.Refusals.{settled-first, settled-rest, settled-memory}
use Rattle.asm_typed_rules.specs.Forms.{rules_at, values_at, case_at, cases_at, one_case_refused, all_rules_refused, all_chooses, numbered, all_case_refused, case_chooses, numbered_cases, numbered_case, with_members}

-- ---- rules

module _ (scope : Scope) (vs : Variables) (rs : List RuleTree) (i : ℕ) (d : RuleTree) where
  abbrev this : CheckedRule
  this = checked_rule scope (get_or rs i d) vs

  abbrev those : List CheckedRule
  those = rules_at scope vs (drop (i + 1) rs)

  rules-drop : i < length rs → rules_at scope vs (drop i rs) ≡ this ∷ those
  unfolding rules_at
  rules-drop h = ap (map (λ r. checked_rule scope r vs)) (drop_more rs i d h)

  pub rules-next : i < length rs → this.refused ≡ [] → all_rules_refused those ≡ all_rules_refused (rules_at scope vs (drop i rs))
  unfolding all_rules_refused
  rules-next h none =
      sym (ap typed.rules_refused (rules-drop h) ∙ ap (λ xs. xs ++ typed.rules_refused those) none)

  pub rules-stop : (why : TypeRefusal) → i < length rs → settled why this.refused ≡ why
      → settled why (all_rules_refused (rules_at scope vs (drop i rs))) ≡ why
  unfolding all_rules_refused
  rules-stop why h first =
      ap (λ cs. settled why (typed.rules_refused cs)) (rules-drop h)
      ∙ settled-first why this.refused (typed.rules_refused those) first

  pub numbered-drop : (ms : List Rule) (n c : ℕ) → i < length rs
      → ms ++ numbered (rules_at scope vs (drop i rs)) (n + c) ≡ (ms ++ this.rule (n + c) ∷ []) ++ numbered those (n + (c + this.chooses))
  unfolding numbered
  numbered-drop ms n c h =
      let e : n + c + this.chooses ≡ n + (c + this.chooses) = omega arith in
      ap (λ cs. ms ++ typed.numbered cs (n + c)) (rules-drop h)
      ∙ ap (λ k. ms ++ this.rule (n + c) ∷ typed.numbered those k) e
      ∙ sym (append_assoc ms (this.rule (n + c) ∷ []) (typed.numbered those (n + (c + this.chooses))))

  pub chooses-drop : i < length rs → all_chooses (rules_at scope vs (drop i rs)) ≡ this.chooses + all_chooses those
  unfolding all_chooses
  chooses-drop h = ap typed.all_chooses (rules-drop h)

module _ (scope : Scope) (vs : Variables) (rs : List RuleTree) (i : ℕ) where
  rules-none : length rs ≤ i → rules_at scope vs (drop i rs) ≡ []
  unfolding rules_at
  rules-none h = ap (map (λ r. checked_rule scope r vs)) (drop_all i rs h)

  pub rules-end : length rs ≤ i → all_rules_refused (rules_at scope vs (drop i rs)) ≡ []
  unfolding all_rules_refused
  rules-end h = ap typed.rules_refused (rules-none h)

  pub numbered-end : (ms : List Rule) (n : ℕ) → length rs ≤ i → ms ++ numbered (rules_at scope vs (drop i rs)) n ≡ ms
  unfolding numbered
  numbered-end ms n h = ap (λ cs. ms ++ typed.numbered cs n) (rules-none h) ∙ append-nil ms

  pub chooses-end : length rs ≤ i → all_chooses (rules_at scope vs (drop i rs)) ≡ 0
  unfolding all_chooses
  chooses-end h = ap typed.all_chooses (rules-none h)

pub ruleset more_steps =
    (settled-memory, rules-next, rules-stop, numbered-drop, chooses-drop, rules-end, numbered-end, chooses-end, the_lemmas)

module _ (scope : Scope) (vs : Variables) (r : RuleTree) (rs : List RuleTree) where
  abbrev head : CheckedRule
  head = checked_rule scope r vs

  abbrev rest : List CheckedRule
  rest = rules_at scope vs rs

  rules-cons : rules_at scope vs (r ∷ rs) ≡ head ∷ rest
  unfolding rules_at
  rules-cons = refl

  pub parts-first : (why : TypeRefusal) → settled why head.refused ≡ why → settled why (all_rules_refused (rules_at scope vs (r ∷ rs))) ≡ why
  unfolding all_rules_refused
  parts-first why h = ap (λ cs. settled why (typed.rules_refused cs)) rules-cons ∙ settled-first why head.refused (typed.rules_refused rest) h

  pub parts-rest : head.refused ≡ [] → all_rules_refused (rules_at scope vs (r ∷ rs)) ≡ all_rules_refused rest
  unfolding all_rules_refused
  parts-rest h = ap typed.rules_refused rules-cons ∙ ap (λ xs. xs ++ typed.rules_refused rest) h

  pub parts-numbered : (n : ℕ) → numbered (rules_at scope vs (r ∷ rs)) n ≡ ([] ++ head.rule (n + 0) ∷ []) ++ numbered rest (n + (0 + head.chooses))
  unfolding numbered
  parts-numbered n =
      let e : n ≡ n + 0 = omega arith in
      let f : n + head.chooses ≡ n + (0 + head.chooses) = omega arith in
      ap (λ cs. typed.numbered cs n) rules-cons
      ∙ ap (λ k. head.rule k ∷ typed.numbered rest (n + head.chooses)) e
      ∙ ap (λ k. head.rule (n + 0) ∷ typed.numbered rest k) f

  pub parts-chooses : all_chooses (rules_at scope vs (r ∷ rs)) ≡ 0 + head.chooses + all_chooses rest
  unfolding all_chooses
  parts-chooses =
      let e : head.chooses + typed.all_chooses rest ≡ 0 + head.chooses + typed.all_chooses rest = omega arith in
      ap typed.all_chooses rules-cons ∙ e

pub ruleset parts_steps = (settled-memory, parts-first, parts-rest, parts-numbered, parts-chooses)

-- ---- cases

module _ (scope : Scope) (vs : Variables) (ts : List RuleCaseTree) (i : ℕ) (d : RuleCaseTree) where
  abbrev this_case : Checked × CheckedRule
  this_case = case_at scope vs (get_or ts i d)

  abbrev more_cases : List (Checked × CheckedRule)
  more_cases = cases_at scope vs (drop (i + 1) ts)

  cases-drop : i < length ts → cases_at scope vs (drop i ts) ≡ this_case ∷ more_cases
  unfolding cases_at
  cases-drop h = ap (map (case_at scope vs)) (drop_more ts i d h)

  pub cases-next : i < length ts → one_case_refused this_case ≡ [] → all_case_refused more_cases ≡ all_case_refused (cases_at scope vs (drop i ts))
  unfolding all_case_refused one_case_refused
  cases-next h none =
      let after = typed.case_refused more_cases in
      sym (ap typed.case_refused (cases-drop h)
      ∙ ap (λ xs. xs ++ after) none)

  pub cases-stop : (why : TypeRefusal) → i < length ts → settled why (one_case_refused this_case) ≡ why
      → settled why (all_case_refused (cases_at scope vs (drop i ts))) ≡ why
  unfolding all_case_refused one_case_refused
  cases-stop why h first =
      let after = typed.case_refused more_cases in
      ap (λ cs. settled why (typed.case_refused cs)) (cases-drop h)
      ∙ settled-first why (this_case.0.refused ++ this_case.1.refused) after first

  pub numbered_cases-drop : (ms : List RuleCase) (n c : ℕ) → i < length ts
      → ms ++ numbered_cases (cases_at scope vs (drop i ts)) (n + c) ≡ (ms ++ numbered_case this_case (n + c) ∷ []) ++ numbered_cases more_cases (n + (c + this_case.1.chooses))
  unfolding numbered_cases
  numbered_cases-drop ms n c h =
      let e : n + c + this_case.1.chooses ≡ n + (c + this_case.1.chooses) = omega arith in
      ap (λ cs. ms ++ typed.numbered_cases cs (n + c)) (cases-drop h)
      ∙ ap (λ k. ms ++ numbered_case this_case (n + c) ∷ typed.numbered_cases more_cases k) e
      ∙ sym (append_assoc ms (numbered_case this_case (n + c) ∷ []) (typed.numbered_cases more_cases (n + (c + this_case.1.chooses))))

  pub case_chooses-drop : i < length ts → case_chooses (cases_at scope vs (drop i ts)) ≡ this_case.1.chooses + case_chooses more_cases
  unfolding case_chooses
  case_chooses-drop h = ap (λ cs. typed.all_chooses (typed.case_rules cs)) (cases-drop h)

module _ (scope : Scope) (vs : Variables) (ts : List RuleCaseTree) (i : ℕ) where
  cases-none : length ts ≤ i → cases_at scope vs (drop i ts) ≡ []
  unfolding cases_at
  cases-none h = ap (map (case_at scope vs)) (drop_all i ts h)

  pub cases-end : length ts ≤ i → all_case_refused (cases_at scope vs (drop i ts)) ≡ []
  unfolding all_case_refused
  cases-end h = ap typed.case_refused (cases-none h)

  pub numbered_cases-end : (ms : List RuleCase) (n : ℕ) → length ts ≤ i → ms ++ numbered_cases (cases_at scope vs (drop i ts)) n ≡ ms
  unfolding numbered_cases
  numbered_cases-end ms n h = ap (λ cs. ms ++ typed.numbered_cases cs n) (cases-none h) ∙ append-nil ms

  pub case_chooses-end : length ts ≤ i → case_chooses (cases_at scope vs (drop i ts)) ≡ 0
  unfolding case_chooses
  case_chooses-end h = ap (λ cs. typed.all_chooses (typed.case_rules cs)) (cases-none h)

pub ruleset cases_steps =
    (settled-memory, cases-next, cases-stop, numbered_cases-drop, case_chooses-drop, cases-end, numbered_cases-end, case_chooses-end, the_lemmas)

-- ---- new members

pub members-cons : (vs : Variables) (t : Token) (ts : List Token) (d : ℕ)
    → with_members vs (t ∷ ts) d ≡ with_members (with_variable vs t (type.Abstract d)) ts d
unfolding with_members
members-cons vs t ts d = refl

pub members-drop : (vs : Variables) (ts : List Token) (d i : ℕ) (x : Token) → i < length ts
    → with_members vs (drop i ts) d ≡ with_members (with_variable vs (get_or ts i x) (type.Abstract d)) (drop (i + 1) ts) d
members-drop vs ts d i x h =
    ap (λ us. with_members vs us d) (drop_more ts i x h) ∙ members-cons vs (get_or ts i x) (drop (i + 1) ts) d

pub members-end : (vs : Variables) (ts : List Token) (d i : ℕ) → length ts ≤ i → with_members vs (drop i ts) d ≡ vs
unfolding with_members
members-end vs ts d i h = ap (λ us. with_members vs us d) (drop_all i ts h)

abbrev new_members : List Token → ℕ → Variables
new_members ts d = map (λ t. (text_of t, type.Abstract d)) ts

members-more : (vs : Variables) (ts : List Token) (d : ℕ) → with_members vs ts d ≡ vs ++ new_members ts d
unfolding with_members
members-more vs [] d = sym (append-nil vs)
members-more vs (t ∷ ts) d =
    let v : List ℕ × TermType = (text_of t, type.Abstract d) in
    members-more (vs ++ v ∷ []) ts d ∙ append_assoc vs (v ∷ []) (new_members ts d)

pub take-members : (vs : Variables) (ts : List Token) (d : ℕ) → take (length vs) (with_members vs ts d) ≡ vs
take-members vs ts d = ap (take (length vs)) (members-more vs ts d) ∙ take-append_seam vs (new_members ts d)

-- ---- values of cases

module _ (scope : Scope) (vs : Variables) (ts : List RuleCaseTree) (i : ℕ) (d : RuleCaseTree) where
  abbrev this_value : Checked
  this_value = checked scope (out-RuleCaseTree (get_or ts i d)).value vs

  abbrev more_values : List Checked
  more_values = values_at scope vs (drop (i + 1) ts)

  values-drop : i < length ts → values_at scope vs (drop i ts) ≡ this_value ∷ more_values
  unfolding values_at
  values-drop h = ap (map (λ c. checked scope (out-RuleCaseTree c).value vs)) (drop_more ts i d h)

  pub values-next : i < length ts → this_value.refused ≡ [] → all_refused more_values ≡ all_refused (values_at scope vs (drop i ts))
  values-next h none = sym (ap all_refused (values-drop h) ∙ ap (λ xs. xs ++ all_refused more_values) none)

  pub values-stop : (why : TypeRefusal) → i < length ts → settled why this_value.refused ≡ why
      → settled why (all_refused (values_at scope vs (drop i ts))) ≡ why
  values-stop why h first =
      ap (λ cs. settled why (all_refused cs)) (values-drop h) ∙ settled-first why this_value.refused (all_refused more_values) first

  pub value_types-drop : (us : List TermType) → i < length ts
      → us ++ types (values_at scope vs (drop i ts)) ≡ (us ++ this_value.type ∷ []) ++ types more_values
  value_types-drop us h =
      ap (λ cs. us ++ types cs) (values-drop h) ∙ sym (append_assoc us (this_value.type ∷ []) (types more_values))

module _ (scope : Scope) (vs : Variables) (ts : List RuleCaseTree) (i : ℕ) where
  values-none : length ts ≤ i → values_at scope vs (drop i ts) ≡ []
  unfolding values_at
  values-none h = ap (map (λ c. checked scope (out-RuleCaseTree c).value vs)) (drop_all i ts h)

  pub values-end : length ts ≤ i → all_refused (values_at scope vs (drop i ts)) ≡ []
  values-end h = ap all_refused (values-none h)

  pub value_types-end : (us : List TermType) → length ts ≤ i → us ++ types (values_at scope vs (drop i ts)) ≡ us
  value_types-end us h = ap (λ cs. us ++ types cs) (values-none h) ∙ append-nil us

pub ruleset values_steps = (settled-memory, values-next, values-stop, value_types-drop, values-end, value_types-end, the_lemmas)
