-- A rule of which nothing is refused is sorted: it sets functions that rules set, extends abstract
-- domains, and its terms are sorted.
use Rattle.std.proofs.Common.{◌≡◌, ℕ, ◌+◌, Bool, true, ◌&&◌, Option, Some, None, List, []}
use Rattle.std.proofs.Common.{◌∷◌, ◌++◌, map, length, slice_get, refl, sym, ap, subst, ◌∙◌, rules}
use Rattle.std.specs.Option.{option_map_or}
use Rattle.std.specs.List.{AllByRecursion, list_all}
use Rattle.std.proofs.lemmas.List.Folds.{list_all-map, list_all-append}
use Rattle.asm_value.specs.declared.domain.Domain.{Domain}
use Rattle.asm_value.specs.declared.domain.DomainInfo.{DomainInfo}
use Rattle.asm_value.specs.Living.{is_abstract}
use Rattle.asm_value.proofs.RangeLaws.{every}
use Rattle.asm_syntax.specs.declared.token.Span.{Span}
use Rattle.asm_syntax.specs.declared.token.Token.{Token}
use Rattle.asm_syntax.specs.declared.tree.RangesTree.{RangesTree}
use Rattle.asm_syntax.specs.declared.tree.BindsTree.{BindsTree}
use Rattle.asm_syntax.specs.declared.tree.TermTree.{TermTree}
use Rattle.asm_syntax.specs.declared.tree.RuleCaseTree.{RuleCaseTree}
use Rattle.asm_syntax.specs.declared.tree.RuleTree.{RuleTree}
use Rattle.asm_syntax.specs.declared.tree.RuleTree.TheOpen.{RuleTree-F}
use Rattle.asm_syntax.specs.declared.tree.RuleTree.TheViews.{out-RuleCaseTree}
use Rattle.asm_syntax.specs.Marks.{text_of}
use Rattle.asm_typing.specs.declared.types.Type.TheVariants as type
use Rattle.asm_typing.specs.Domains.{type_of}
use Rattle.asm_typing.specs.Fits.{fits}
use Rattle.asm_program.specs.declared.named.Named.{Named}
use Rattle.asm_program.specs.declared.named.Named.TheVariants as named
use Rattle.asm_program.specs.declared.trees.Term.{Term}
use Rattle.asm_program.specs.declared.trees.Rule.{Rule}
use Rattle.asm_program.specs.declared.trees.RuleCase.{RuleCase}
use Rattle.asm_program.specs.declared.trees.Rule.TheOpen.{Rule-F, RuleCase-F}
use Rattle.asm_program.specs.declared.trees.Rule.TheVariants as rule
use Rattle.asm_program.specs.declared.trees.Rule.TheViews.{out-Rule, out-RuleCase, roll-RuleCase}
use Rattle.asm_program.specs.declared.trees.Rule.TheViews.{the_lemmas}
use Rattle.asm_program.specs.declared.program.FunctionInfo.{FunctionInfo}
use Rattle.asm_program.specs.declared.type_refusal.TypeRefusal.{TypeRefusal}
use Rattle.asm_program.specs.declared.type_refusal.TypeRefusal.TheVariants.{Mismatch}
use Rattle.asm_program.specs.Forms.{optional}
use Rattle.asm_program.specs.Items.{bind_of, binds_of, terms_of, list_of_ranges}
use Rattle.asm_program.specs.Signatures.{Header, find}
use Rattle.asm_program.specs.TypedTerms.{Scope, Variables, Checked, or_else, unless, unknown}
use Rattle.asm_program.specs.TypedTerms.{with_ranges, ranges_refused, range_domains, all_refused}
use Rattle.asm_program.specs.TypedTerms.{types, checked_terms, args_fit, bound, some_term}
use Rattle.asm_program.specs.TypedTerms.{checked, join_with}
use Rattle.asm_program.specs.TypedRules.{is_updated, update_fits, parts_refused}
use Rattle.asm_program.specs.TypedRules.{function_updated, named_updated, macro_called}
use Rattle.asm_program.specs.TypedRules.{rule_called, simple, rules_refused, numbered}
use Rattle.asm_program.specs.TypedRules.{guard_refused, guards_refused, case_refused, case_values}
use Rattle.asm_program.specs.TypedRules.{case_rules, all_chooses, numbered_cases, own_refused}
use Rattle.asm_program.specs.TypedRules.{with_members, extended, terms_at, option_term}
use Rattle.asm_program.specs.TypedRules.{check_rule_level, checked_rule}
use Rattle.asm_program.specs.TypingLaws.{IsWhole}
use Rattle.asm_program.proofs.Refusals.{not_nil, both_nil, else_nil, unless_nil, both_true}
use Rattle.asm_program.proofs.Refusals.{true_both, some_or_none}
use Rattle.asm_program.proofs.RuleParts.{case_rule, case_term, level_of, of_rule-out}
use Rattle.asm_program.proofs.RuleTreeParts.{Form, OfCase, OfParts, by_parts, told}
use Rattle.asm_program.proofs.RuleTreeParts.{checked_rule-out, rules_at, cases_of}
use Rattle.asm_program.proofs.TermTreeParts.{OfBind, bind_typing}
use Rattle.asm_soundness.specs.Sorted.{is_sorted_term, is_set_by_rules, rule_level, is_sorted_rule}
use Rattle.asm_soundness.proofs.CheckedNames.{NamesMembers}
use Rattle.asm_soundness.proofs.CheckedTerms.{IsSortedTerm, AreSortedTerms, one_sorted}
use Rattle.asm_soundness.proofs.CheckedTerms.{first_sorted, Sorts, bound_sorted, term_sorted}

-- ---- each form

module _ (domains : List DomainInfo) (functions : List FunctionInfo) where
  abbrev pub IsSortedRule : Rule → Type 0
  IsSortedRule r = is_sorted_rule domains functions r ≡ true

  abbrev AreSortedRules : List Rule → Type 0
  AreSortedRules rs = list_all (is_sorted_rule domains functions) rs ≡ true

  by_form : (r : Rule) (a : Rule-F Rule RuleCase) → out-Rule r ≡ a
      → level_of (rule_level domains functions) (λ m. true) a ≡ true → IsSortedRule r
  by_form r a e h = of_rule-out (rule_level domains functions) (λ m. true) r a e ∙ h

  one_rule : (r : Rule) → IsSortedRule r → AreSortedRules (r ∷ [])
  one_rule r h = true_both (is_sorted_rule domains functions r) true h refl

  first_rule : (r : Rule) (rs : List Rule) → IsSortedRule r → AreSortedRules rs
      → AreSortedRules (r ∷ rs)
  first_rule r rs h k =
      true_both (is_sorted_rule domains functions r)
      (list_all (is_sorted_rule domains functions) rs) h k

  -- what is said of the parts
  said : (rs : List Rule) → AreSortedRules rs
      → list_all (λ b. b) (map (is_sorted_rule domains functions) rs) ≡ true
  said rs h = list_all-map (λ b. b) (is_sorted_rule domains functions) rs ∙ h

  -- the terms and the rules of a form
  both_sorted : (ts : List Term) (bs : List Bool) → AreSortedTerms domains ts
      → list_all (λ b. b) bs ≡ true
      → (list_all (is_sorted_term domains) ts && list_all (λ b. b) bs) ≡ true
  both_sorted ts bs h k =
      true_both (list_all (is_sorted_term domains) ts) (list_all (λ b. b) bs) h k

  sorted-Skip : IsSortedRule rule.Skip
  sorted-Skip = by_form rule.Skip Rule-F.Skip (search (rules, the_lemmas)) refl

  sorted-Call : (m : ℕ) (args : List Term) → AreSortedTerms domains args
      → IsSortedRule (rule.Call m args)
  sorted-Call m args h =
      by_form (rule.Call m args) (Rule-F.Call m args) (search (rules, the_lemmas))
      (both_sorted args [] h refl)

  sorted-Update : (f : ℕ) (args : List Term) (value : Term) (span : Span)
      → is_set_by_rules functions f ≡ true → AreSortedTerms domains args
      → IsSortedTerm domains value → IsSortedRule (rule.Update f args value span)
  sorted-Update f args value span set h k =
      let sorted = is_sorted_term domains in
      by_form (rule.Update f args value span) (Rule-F.Update f args value span)
      (search (rules, the_lemmas))
      (true_both (is_set_by_rules functions f)
      (list_all sorted (args ++ value ∷ []) && true) set
      (both_sorted (args ++ value ∷ []) []
      (list_all-append sorted args (value ∷ [])
      ∙ true_both (list_all sorted args) (list_all sorted (value ∷ [])) h
      (one_sorted domains value k)) refl))

  sorted-Par : (rs : List Rule) (span : Span) → AreSortedRules rs → IsSortedRule (rule.Par rs span)
  sorted-Par rs span h =
      by_form (rule.Par rs span) (Rule-F.Par rs span) (search (rules, the_lemmas)) (said rs h)

  sorted-Seq : (rs : List Rule) (span : Span) → AreSortedRules rs → IsSortedRule (rule.Seq rs span)
  sorted-Seq rs span h =
      by_form (rule.Seq rs span) (Rule-F.Seq rs span) (search (rules, the_lemmas)) (said rs h)

  sorted-If : (guard : Term) (first : Rule) (other : Option Rule) → IsSortedTerm domains guard
      → AreSortedRules (first ∷ optional other) → IsSortedRule (rule.If guard first other)
  sorted-If guard first None h k =
      by_form (rule.If guard first None) (Rule-F.If guard first None) (search (rules, the_lemmas))
      (both_sorted (guard ∷ []) (is_sorted_rule domains functions first ∷ [])
      (one_sorted domains guard h) k)
  sorted-If guard first (Some other) h k =
      let sorted = is_sorted_rule domains functions in
      by_form (rule.If guard first (Some other)) (Rule-F.If guard first (Some other))
      (search (rules, the_lemmas))
      (both_sorted (guard ∷ []) (sorted first ∷ sorted other ∷ []) (one_sorted domains guard h) k)

  sorted-Forall : (ranges : List Domain) (guard : Option Term) (body : Rule) (span : Span)
      → AreSortedTerms domains (optional guard) → IsSortedRule body
      → IsSortedRule (rule.Forall ranges guard body span)
  sorted-Forall ranges guard body span h k =
      by_form (rule.Forall ranges guard body span) (Rule-F.Forall ranges guard body span)
      (search (rules, the_lemmas))
      (both_sorted (optional guard) (is_sorted_rule domains functions body ∷ []) h
      (one_rule body k))

  sorted-Choose : (ranges : List Domain) (guard : Option Term) (body : Rule) (other : Option Rule)
      (place : ℕ) → AreSortedTerms domains (optional guard)
      → AreSortedRules (body ∷ optional other)
      → IsSortedRule (rule.Choose ranges guard body other place)
  sorted-Choose ranges guard body None place h k =
      by_form (rule.Choose ranges guard body None place)
      (Rule-F.Choose ranges guard body None place) (search (rules, the_lemmas))
      (both_sorted (optional guard) (is_sorted_rule domains functions body ∷ []) h k)
  sorted-Choose ranges guard body (Some other) place h k =
      let sorted = is_sorted_rule domains functions in
      by_form (rule.Choose ranges guard body (Some other) place)
      (Rule-F.Choose ranges guard body (Some other) place) (search (rules, the_lemmas))
      (both_sorted (optional guard) (sorted body ∷ sorted other ∷ []) h k)

  sorted-Let : (ts : List Term) (body : Rule) → AreSortedTerms domains ts → IsSortedRule body
      → IsSortedRule (rule.Let ts body)
  sorted-Let ts body h k =
      by_form (rule.Let ts body) (Rule-F.Let ts body) (search (rules, the_lemmas))
      (both_sorted ts (is_sorted_rule domains functions body ∷ []) h (one_rule body k))

  sorted-Extend : (d count : ℕ) (body : Rule) (span : Span) → is_abstract domains d ≡ true
      → IsSortedRule body → IsSortedRule (rule.Extend d count body span)
  sorted-Extend d count body span abstract h =
      by_form (rule.Extend d count body span) (Rule-F.Extend d count body span)
      (search (rules, the_lemmas))
      (true_both (is_abstract domains d) (is_sorted_rule domains functions body && true) abstract
      (one_rule body h))

  -- ---- switches

  -- what is compared, with what is said of the rule
  abbrev case_said : RuleCase → Term × Bool
  case_said c = (case_term c, is_sorted_rule domains functions (case_rule c))

  record AreSortedCases (cs : List RuleCase) : Type 0 where
    pub values : AreSortedTerms domains (map (λ (c : Term × Bool). c.0) (map case_said cs))
    pub bodies : list_all (λ b. b) (map (λ (c : Term × Bool). c.1) (map case_said cs)) ≡ true

  sorted-Switch : (t : Term) (cases : List RuleCase) (other : Option Rule)
      → IsSortedTerm domains t → AreSortedCases cases → AreSortedRules (optional other)
      → IsSortedRule (rule.Switch t cases other)
  sorted-Switch t cases None h k rest =
      let vs = map (λ (c : Term × Bool). c.0) (map case_said cases) in
      let bs = map (λ (c : Term × Bool). c.1) (map case_said cases) in
      by_form (rule.Switch t cases None) (Rule-F.Switch t cases None) (search (rules, the_lemmas))
      (both_sorted (t ∷ vs) (bs ++ []) (first_sorted domains t vs h k.values)
      (list_all-append (λ b. b) bs []
      ∙ true_both (list_all (λ b. b) bs) true k.bodies rest))
  sorted-Switch t cases (Some other) h k rest =
      let vs = map (λ (c : Term × Bool). c.0) (map case_said cases) in
      let bs = map (λ (c : Term × Bool). c.1) (map case_said cases) in
      let last = is_sorted_rule domains functions other ∷ [] in
      by_form (rule.Switch t cases (Some other)) (Rule-F.Switch t cases (Some other))
      (search (rules, the_lemmas))
      (both_sorted (t ∷ vs) (bs ++ last) (first_sorted domains t vs h k.values)
      (list_all-append (λ b. b) bs last
      ∙ true_both (list_all (λ b. b) bs) (list_all (λ b. b) last) k.bodies rest))

  out_roll : (a : RuleCase-F Rule RuleCase) → out-RuleCase (roll-RuleCase a) ≡ a
  out_roll a = search (rules, the_lemmas)

  first_case : (v : Term) (r : Rule) (cs : List RuleCase) → IsSortedTerm domains v
      → IsSortedRule r → AreSortedCases cs
      → AreSortedCases (roll-RuleCase (record { value = v; rule = r }) ∷ cs)
  first_case v r cs h k rest =
      let a : RuleCase-F Rule RuleCase = record { value = v; rule = r } in
      let c = roll-RuleCase a in
      record {
        values = first_sorted domains (case_term c)
            (map (λ (q : Term × Bool). q.0) (map case_said cs))
            (ap (λ q. is_sorted_term domains q.value) (out_roll a) ∙ h) rest.values;
        bodies = true_both (is_sorted_rule domains functions (case_rule c))
            (list_all (λ b. b) (map (λ (q : Term × Bool). q.1) (map case_said cs)))
            (ap (λ q. is_sorted_rule domains functions q.rule) (out_roll a) ∙ k) rest.bodies;
      }

-- ---- what the checker tells

-- the functions of the scope that rules set are so among these functions
abbrev pub SetsAgree : Scope → List FunctionInfo → Type 0
SetsAgree scope functions = (f : ℕ) (h : Header) → slice_get scope.functions f ≡ Some h
    → is_updated h.kind ≡ true → is_set_by_rules functions f ≡ true

module _ (scope : Scope) (right : NamesMembers scope) (whole : IsWhole scope)
    (functions : List FunctionInfo) (agree : SetsAgree scope functions) where
  abbrev IsSorted : Rule → Type 0
  IsSorted r = IsSortedRule scope.domains functions r

  -- where nothing is refused of the rule, the one that the checker makes of it is sorted
  abbrev pub SortsRule : RuleTree → Type 0
  SortsRule r = (variables : Variables) → (checked_rule scope r variables).refused ≡ []
      → (n : ℕ) → IsSorted ((checked_rule scope r variables).rule n)

  -- ---- terms

  tree_sorted : (t : TermTree) → Sorts scope t
  tree_sorted = term_sorted scope right

  args_sorted : (ts : List TermTree) (variables : Variables)
      → AreSortedTerms scope.domains (checked_terms (terms_at scope variables ts))
  args_sorted [] variables = refl
  args_sorted (t ∷ ts) variables =
      first_sorted scope.domains (checked scope t variables).term
      (checked_terms (terms_at scope variables ts)) (tree_sorted t variables)
      (args_sorted ts variables)

  guards_sorted : (guard : Option TermTree) (variables : Variables)
      → AreSortedTerms scope.domains (optional (some_term (option_term scope variables guard)))
  guards_sorted None variables = refl
  guards_sorted (Some guard) variables =
      one_sorted scope.domains (checked scope guard variables).term (tree_sorted guard variables)

  binds_sorted : (binds : BindsTree) (variables : Variables) → AreSortedTerms scope.domains
      (bound variables (map (bind_typing scope) (binds_of binds))).terms
  binds_sorted binds variables =
      bound_sorted scope (binds_of binds)
      (every (OfBind (Sorts scope)) (λ b. tree_sorted (bind_of b).1) (binds_of binds)) variables

  -- ---- calls and updates

  macro_sorted : (m : ℕ) (o : Option (List Domain)) (cs : List Checked) (span : Span) (n : ℕ)
      → AreSortedTerms scope.domains (checked_terms cs)
      → IsSorted ((option_map_or (λ params. macro_called scope m params cs span) o
      (simple [] rule.Skip)).rule n)
  macro_sorted m None cs span n h = sorted-Skip scope.domains functions
  macro_sorted m (Some params) cs span n h =
      sorted-Call scope.domains functions m (checked_terms cs) h

  call_sorted : (o : Option Named) (name : Token) (cs : List Checked) (span : Span) (n : ℕ)
      → AreSortedTerms scope.domains (checked_terms cs)
      → IsSorted ((rule_called scope o name cs span).rule n)
  call_sorted (Some (named.Macro m)) name cs span n h =
      macro_sorted m (slice_get scope.macros m) cs span n h
  call_sorted None name cs span n h = sorted-Skip scope.domains functions
  call_sorted (Some (named.Enum d)) name cs span n h = sorted-Skip scope.domains functions
  call_sorted (Some (named.Abstract d)) name cs span n h = sorted-Skip scope.domains functions
  call_sorted (Some (named.Subset d)) name cs span n h = sorted-Skip scope.domains functions
  call_sorted (Some (named.Literal d i)) name cs span n h = sorted-Skip scope.domains functions
  call_sorted (Some (named.Function f)) name cs span n h = sorted-Skip scope.domains functions
  call_sorted (Some named.Main) name cs span n h = sorted-Skip scope.domains functions

  module _ (cs : List Checked) (c : Checked) (span : Span)
      (args : AreSortedTerms scope.domains (checked_terms cs))
      (value : IsSortedTerm scope.domains c.term) where
    -- an update of a function that rules set
    function_set : (f : ℕ) (h : Header) → slice_get scope.functions f ≡ Some h
        → or_else (parts_refused cs c)
        (unless (update_fits h (types cs) c.type) (Mismatch span)) ≡ []
        → is_set_by_rules functions f ≡ true
    function_set f h g none =
        let outer = else_nil (parts_refused cs c)
        (unless (update_fits h (types cs) c.type) (Mismatch span)) none in
        let tests = both_true (is_updated h.kind && args_fit (types cs) h.args)
        (fits c.type (type_of h.result))
        (unless_nil (update_fits h (types cs) c.type) (Mismatch span) outer.1) in
        agree f h g (both_true (is_updated h.kind) (args_fit (types cs) h.args) tests.0).0

    function_sorted : (name : Token) (f : ℕ) (o : Option Header) (n : ℕ)
        → slice_get scope.functions f ≡ o
        → find scope.names (text_of name) ≡ Some (named.Function f)
        → (function_updated scope f o cs c span).refused ≡ []
        → IsSorted ((function_updated scope f o cs c span).rule n)
    function_sorted name f None n at names h =
        let some = whole.functions (text_of name) f names in
        some_or_none (slice_get scope.functions f) some.0 at some.1
    function_sorted name f (Some header) n at names h =
        sorted-Update scope.domains functions f (checked_terms cs) c.term span
        (function_set f header at h) args value

    -- a name that stands for no function is refused
    not_updated : {X : Type 0} → or_else (parts_refused cs c) (Mismatch span ∷ []) ≡ [] → X
    not_updated h =
        not_nil (Mismatch span) []
        (else_nil (parts_refused cs c) (Mismatch span ∷ []) h).1

    update_sorted : (name : Token) (o : Option Named) (n : ℕ)
        → find scope.names (text_of name) ≡ o
        → (named_updated scope o name cs c span).refused ≡ []
        → IsSorted ((named_updated scope o name cs c span).rule n)
    update_sorted name (Some (named.Function f)) n names h =
        function_sorted name f (slice_get scope.functions f) n refl names h
    update_sorted name None n names h = not_nil (unknown name) (parts_refused cs c) h
    update_sorted name (Some (named.Enum d)) n names h = not_updated h
    update_sorted name (Some (named.Abstract d)) n names h = not_updated h
    update_sorted name (Some (named.Subset d)) n names h = not_updated h
    update_sorted name (Some (named.Literal d i)) n names h = not_updated h
    update_sorted name (Some (named.Macro m)) n names h = not_updated h
    update_sorted name (Some named.Main) n names h = not_updated h

  -- ---- rules with rules in them

  all_sorted : (rs : List RuleTree) → AllByRecursion SortsRule rs → (variables : Variables)
      → rules_refused (rules_at scope variables rs) ≡ [] → (n : ℕ)
      → AreSortedRules scope.domains functions (numbered (rules_at scope variables rs) n)
  all_sorted [] parts variables h n = refl
  all_sorted (r ∷ rs) parts variables h n =
      let c = checked_rule scope r variables in
      let later = n + c.chooses in
      let both = both_nil c.refused (rules_refused (rules_at scope variables rs)) h in
      first_rule scope.domains functions (c.rule n) (numbered (rules_at scope variables rs) later)
      (parts.0 variables both.0 n) (all_sorted rs parts.1 variables both.1 later)

  cases_sorted : (cs : List RuleCaseTree) → AllByRecursion (OfCase SortsRule) cs
      → (variables : Variables) → case_refused (cases_of scope variables cs) ≡ [] → (n : ℕ)
      → AreSortedCases scope.domains functions (numbered_cases (cases_of scope variables cs) n)
  cases_sorted [] parts variables h n = record { values = refl; bodies = refl }
  cases_sorted (c ∷ cs) parts variables h n =
      let value = checked scope (out-RuleCaseTree c).value variables in
      let body = checked_rule scope (out-RuleCaseTree c).rule variables in
      let later = n + body.chooses in
      let rest = both_nil (value.refused ++ body.refused)
      (case_refused (cases_of scope variables cs)) h in
      let both = both_nil value.refused body.refused rest.0 in
      first_case scope.domains functions value.term (body.rule n)
      (numbered_cases (cases_of scope variables cs) later)
      (tree_sorted (out-RuleCaseTree c).value variables) (parts.0 variables both.1 n)
      (cases_sorted cs parts.1 variables rest.1 later)

  abbrev At : Form → Type 0
  At a = (variables : Variables) → (check_rule_level scope (told scope a) variables).refused ≡ []
      → (n : ℕ) → IsSorted ((check_rule_level scope (told scope a) variables).rule n)

  if_sorted : (guard : TermTree) (first : RuleTree) (other : Option RuleTree) (span : Span)
      → SortsRule first → AllByRecursion SortsRule (optional other)
      → At (RuleTree-F.If guard first other span)
  if_sorted guard first None span part rest variables h n =
      let g = guard_refused (checked scope guard variables) in
      let f = checked_rule scope first variables in
      let outer = both_nil (g ++ f.refused) [] h in
      let both = both_nil g f.refused outer.0 in
      sorted-If scope.domains functions (checked scope guard variables).term (f.rule n) None
      (tree_sorted guard variables)
      (one_rule scope.domains functions (f.rule n) (part variables both.1 n))
  if_sorted guard first (Some other) span part rest variables h n =
      let g = guard_refused (checked scope guard variables) in
      let f = checked_rule scope first variables in
      let o = checked_rule scope other variables in
      let outer = both_nil (g ++ f.refused) (o.refused ++ []) h in
      let both = both_nil g f.refused outer.0 in
      let last = o.rule (n + f.chooses) in
      sorted-If scope.domains functions (checked scope guard variables).term (f.rule n) (Some last)
      (tree_sorted guard variables)
      (first_rule scope.domains functions (f.rule n) (last ∷ []) (part variables both.1 n)
      (one_rule scope.domains functions last
      (rest.0 variables (both_nil o.refused [] outer.1).0 (n + f.chooses))))

  forall_sorted : (ranges : RangesTree) (guard : Option TermTree) (body : RuleTree) (span : Span)
      → SortsRule body → At (RuleTree-F.Forall ranges guard body span)
  forall_sorted ranges guard body span part variables h n =
      let all = list_of_ranges ranges in
      let inner = with_ranges scope variables all in
      let own = ranges_refused scope all ++ guards_refused (option_term scope inner guard) in
      let c = checked_rule scope body inner in
      sorted-Forall scope.domains functions (range_domains scope all)
      (some_term (option_term scope inner guard)) (c.rule n) span (guards_sorted guard inner)
      (part inner (both_nil own c.refused h).1 n)

  choose_sorted : (ranges : RangesTree) (guard : Option TermTree) (body : RuleTree)
      (other : Option RuleTree) (span : Span) → SortsRule body
      → AllByRecursion SortsRule (optional other)
      → At (RuleTree-F.Choose ranges guard body other span)
  choose_sorted ranges guard body None span part rest variables h n =
      let all = list_of_ranges ranges in
      let inner = with_ranges scope variables all in
      let own = ranges_refused scope all ++ guards_refused (option_term scope inner guard) in
      let c = checked_rule scope body inner in
      let outer = both_nil (own ++ c.refused) [] h in
      sorted-Choose scope.domains functions (range_domains scope all)
      (some_term (option_term scope inner guard)) (c.rule (n + 1)) None n
      (guards_sorted guard inner)
      (one_rule scope.domains functions (c.rule (n + 1))
      (part inner (both_nil own c.refused outer.0).1 (n + 1)))
  choose_sorted ranges guard body (Some other) span part rest variables h n =
      let all = list_of_ranges ranges in
      let inner = with_ranges scope variables all in
      let own = ranges_refused scope all ++ guards_refused (option_term scope inner guard) in
      let c = checked_rule scope body inner in
      let o = checked_rule scope other variables in
      let outer = both_nil (own ++ c.refused) (o.refused ++ []) h in
      let last = o.rule (n + 1 + c.chooses) in
      sorted-Choose scope.domains functions (range_domains scope all)
      (some_term (option_term scope inner guard)) (c.rule (n + 1)) (Some last) n
      (guards_sorted guard inner)
      (first_rule scope.domains functions (c.rule (n + 1)) (last ∷ [])
      (part inner (both_nil own c.refused outer.0).1 (n + 1))
      (one_rule scope.domains functions last
      (rest.0 variables (both_nil o.refused [] outer.1).0 (n + 1 + c.chooses))))

  let_sorted : (binds : BindsTree) (body : RuleTree) (span : Span) → SortsRule body
      → At (RuleTree-F.Let binds body span)
  let_sorted binds body span part variables h n =
      let b = bound variables (map (bind_typing scope) (binds_of binds)) in
      let c = checked_rule scope body b.variables in
      sorted-Let scope.domains functions b.terms (c.rule n) (binds_sorted binds variables)
      (part b.variables (both_nil b.refused c.refused h).1 n)

  -- what is refused of the switch itself
  abbrev switch_refused : TermTree → List RuleCaseTree → Variables → Span → List TypeRefusal
  switch_refused value cases variables span =
      let v = checked scope value variables in
      let cs = cases_of scope variables cases in
      own_refused (all_refused (v ∷ case_values cs))
      (unless (join_with v.type (types (case_values cs))) (Mismatch span))

  switch_sorted : (value : TermTree) (cases : List RuleCaseTree) (other : Option RuleTree)
      (span : Span) → AllByRecursion (OfCase SortsRule) cases
      → AllByRecursion SortsRule (optional other)
      → At (RuleTree-F.Switch value cases other span)
  switch_sorted value cases None span parts rest variables h n =
      let v = checked scope value variables in
      let cs = cases_of scope variables cases in
      let own = switch_refused value cases variables span ++ v.refused in
      let outer = both_nil (own ++ case_refused cs) [] h in
      sorted-Switch scope.domains functions v.term (numbered_cases cs n) None
      (tree_sorted value variables)
      (cases_sorted cases parts variables (both_nil own (case_refused cs) outer.0).1 n) refl
  switch_sorted value cases (Some other) span parts rest variables h n =
      let v = checked scope value variables in
      let cs = cases_of scope variables cases in
      let o = checked_rule scope other variables in
      let own = switch_refused value cases variables span ++ v.refused in
      let outer = both_nil (own ++ case_refused cs) (o.refused ++ []) h in
      let later = n + all_chooses (case_rules cs) in
      sorted-Switch scope.domains functions v.term (numbered_cases cs n) (Some (o.rule later))
      (tree_sorted value variables)
      (cases_sorted cases parts variables (both_nil own (case_refused cs) outer.0).1 n)
      (one_rule scope.domains functions (o.rule later)
      (rest.0 variables (both_nil o.refused [] outer.1).0 later))

  -- what has new members is an abstract domain
  extend_sorted : (o : Option Named) (name : Token) (ts : List Token) (body : RuleTree)
      (variables : Variables) (span : Span) (n : ℕ) → find scope.names (text_of name) ≡ o
      → SortsRule body
      → (extended o name ts (λ t. checked_rule scope body (with_members variables ts t))
      span).refused ≡ []
      → IsSorted ((extended o name ts (λ t. checked_rule scope body (with_members variables ts t))
      span).rule n)
  extend_sorted (Some (named.Abstract d)) name ts body variables span n names part h =
      let inner = with_members variables ts (type.Abstract d) in
      sorted-Extend scope.domains functions d (length ts)
      ((checked_rule scope body inner).rule n) span (right.abstracts (text_of name) d names)
      (part inner h n)
  extend_sorted None name ts body variables span n names part h =
      not_nil (unknown name)
      (checked_rule scope body (with_members variables ts type.Untyped)).refused h
  extend_sorted (Some (named.Enum d)) name ts body variables span n names part h =
      not_nil (Mismatch name.span)
      (checked_rule scope body (with_members variables ts type.Untyped)).refused h
  extend_sorted (Some (named.Subset d)) name ts body variables span n names part h =
      not_nil (Mismatch name.span)
      (checked_rule scope body (with_members variables ts type.Untyped)).refused h
  extend_sorted (Some (named.Literal d i)) name ts body variables span n names part h =
      not_nil (Mismatch name.span)
      (checked_rule scope body (with_members variables ts type.Untyped)).refused h
  extend_sorted (Some (named.Function f)) name ts body variables span n names part h =
      not_nil (Mismatch name.span)
      (checked_rule scope body (with_members variables ts type.Untyped)).refused h
  extend_sorted (Some (named.Macro m)) name ts body variables span n names part h =
      not_nil (Mismatch name.span)
      (checked_rule scope body (with_members variables ts type.Untyped)).refused h
  extend_sorted (Some named.Main) name ts body variables span n names part h =
      not_nil (Mismatch name.span)
      (checked_rule scope body (with_members variables ts type.Untyped)).refused h

  -- ---- each form

  at_form : (a : Form) → OfParts SortsRule a → At a
  at_form (RuleTree-F.Skip span) parts variables h n = sorted-Skip scope.domains functions
  at_form (RuleTree-F.Call name args span) parts variables h n =
      call_sorted (find scope.names (text_of name)) name (terms_at scope variables (terms_of args))
      span n (args_sorted (terms_of args) variables)
  at_form (RuleTree-F.Update name args value span) parts variables h n =
      update_sorted (terms_at scope variables (terms_of args)) (checked scope value variables) span
      (args_sorted (terms_of args) variables) (tree_sorted value variables) name
      (find scope.names (text_of name)) n refl h
  at_form (RuleTree-F.Par first others span) parts variables h n =
      sorted-Par scope.domains functions (numbered (rules_at scope variables (first ∷ others)) n)
      span (all_sorted (first ∷ others) parts variables h n)
  at_form (RuleTree-F.Seq first others span) parts variables h n =
      sorted-Seq scope.domains functions (numbered (rules_at scope variables (first ∷ others)) n)
      span (all_sorted (first ∷ others) parts variables h n)
  at_form (RuleTree-F.If guard first other span) parts variables h n =
      if_sorted guard first other span parts.0 parts.1 variables h n
  at_form (RuleTree-F.Forall ranges guard body span) part variables h n =
      forall_sorted ranges guard body span part variables h n
  at_form (RuleTree-F.Choose ranges guard body other span) parts variables h n =
      choose_sorted ranges guard body other span parts.0 parts.1 variables h n
  at_form (RuleTree-F.Let binds body span) part variables h n =
      let_sorted binds body span part variables h n
  at_form (RuleTree-F.Switch value cases other span) parts variables h n =
      switch_sorted value cases other span parts.0 parts.1 variables h n
  at_form (RuleTree-F.Extend name first others body span) part variables h n =
      extend_sorted (find scope.names (text_of name)) name (first ∷ others) body variables span n
      refl part h

  pub rule_sorted : (r : RuleTree) → SortsRule r
  rule_sorted = by_parts SortsRule (λ r a is parts variables h n.
      subst (λ m. IsSorted ((m variables).rule n)) (sym (checked_rule-out scope r a is))
      (at_form a parts variables
      (ap (λ m. (m variables).refused) (sym (checked_rule-out scope r a is)) ∙ h) n))
