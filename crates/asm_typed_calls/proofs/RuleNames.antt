-- Each macro rule that a checked rule calls is named in its text.
use Rattle.std.proofs.Common.{◌≡◌, ℕ, ◌+◌, Option, Some, None, List, [], ◌∷◌, ◌++◌, map, length}
use Rattle.std.proofs.Common.{slice_get, refl, sym, ap, subst, ◌∙◌, append_assoc, rules}
use Rattle.std.specs.Option.{option_map_or}
use Rattle.std.specs.List.{AllByRecursion}
use Rattle.asm_value.specs.declared.domain.Domain.{Domain}
use Rattle.asm_syntax.specs.declared.token.Span.{Span}
use Rattle.asm_syntax.specs.declared.token.Token.{Token}
use Rattle.asm_syntax.specs.declared.tree.RangesTree.{RangesTree}
use Rattle.asm_syntax.specs.declared.tree.BindsTree.{BindsTree}
use Rattle.asm_syntax.specs.declared.tree.TermTree.{TermTree}
use Rattle.asm_syntax.specs.declared.tree.RuleCaseTree.{RuleCaseTree}
use Rattle.asm_syntax.specs.declared.tree.RuleTree.{RuleTree}
use Rattle.asm_syntax.specs.declared.tree.RuleTree.TheOpen.{RuleTree-F}
use Rattle.asm_syntax.specs.declared.tree.RuleTree.TheViews.{out-RuleTree, out-RuleCaseTree}
use Rattle.asm_syntax.specs.Marks.{text_of}
use Rattle.asm_typing.specs.declared.types.Type.{«Type» as TermType}
use Rattle.asm_typing.specs.declared.types.Type.TheVariants as type
use Rattle.asm_program.specs.declared.named.Named.{Named}
use Rattle.asm_program.specs.declared.named.Named.TheVariants as named
use Rattle.asm_program.specs.declared.trees.Term.{Term}
use Rattle.asm_program.specs.declared.trees.Rule.{Rule}
use Rattle.asm_program.specs.declared.trees.RuleCase.{RuleCase}
use Rattle.asm_program.specs.declared.trees.Rule.TheOpen.{Rule-F, RuleCase-F}
use Rattle.asm_program.specs.declared.trees.Rule.TheFolds.{map-Rule}
use Rattle.asm_program.specs.declared.trees.Rule.TheVariants as rule
use Rattle.asm_program.specs.declared.trees.Rule.TheViews.{out-Rule, out-RuleCase, roll-RuleCase}
use Rattle.asm_program.specs.declared.trees.Rule.TheViews.{the_lemmas}
use Rattle.asm_program.specs.Forms.{optional, rule_parts, rule_called}
use Rattle.asm_program.specs.Items.{Items, NamesMacro, joined, term_items, rule_items, terms_of}
use Rattle.asm_program.specs.Items.{list_of_ranges}
use Rattle.asm_program.specs.Signatures.{Header, find}
use Rattle.asm_program.specs.TypedTerms.{Scope, Variables, Checked, with_ranges, checked}
use Rattle.asm_program.specs.TypedTerms.{checked_terms, range_domains, some_term, bound}
use Rattle.asm_program.specs.TypedRules.{CheckedRule, RuleTyping, function_updated, named_updated}
use Rattle.asm_program.specs.TypedRules.{macro_called, simple, numbered, case_rules, numbered_cases}
use Rattle.asm_program.specs.TypedRules.{all_chooses, with_members, extended, extend_checked}
use Rattle.asm_program.specs.TypedRules.{terms_at, option_term, binds_typing, check_rule_level}
use Rattle.asm_program.specs.TypedRules.{checked_rule}
use Rattle.asm_program.specs.TypedRules as typed
use Rattle.asm_program.proofs.RuleParts.{case_rule, case_term, sub_rules, of_rule-out}
use Rattle.asm_program.proofs.RuleTreeParts.{Form, OfCase, OfParts, by_parts, told}
use Rattle.asm_program.proofs.RuleTreeParts.{checked_rule-out, rules_at, cases_of}
use Rattle.asm_items.specs.Parts.{all_variables, args_of, all_binds, quantifier, more_rules}
use Rattle.asm_items.specs.Parts.{maybe_rule, rule_cases}
use Rattle.asm_items.proofs.RuleSteps.{rule_form, rule_items-out}
use Rattle.asm_calls.specs.Nested.{all_of, called_rule_level, macros_called}
use Rattle.asm_typed_calls.proofs.Named as items_
use Rattle.asm_typed_calls.proofs.Named.{AreNamed}

-- ---- what a rule calls, by its form

-- the macro rules that some rules call
abbrev pub called_in : List Rule → List ℕ
called_in rs = all_of (map macros_called rs)

abbrev calls_none : ℕ → List ℕ
calls_none m = []

abbrev said_case : RuleCase → Term × List ℕ
said_case c = (case_term c, macros_called (case_rule c))

abbrev said : Rule-F Rule RuleCase → Rule-F (List ℕ) (Term × List ℕ)
said a = map-Rule Rule RuleCase (List ℕ) (Term × List ℕ) macros_called said_case a

said_cases : (cases : List RuleCase) (others : List Rule)
    → map (λ (c : Term × List ℕ). c.1) (map said_case cases) ++ map macros_called others
    ≡ map macros_called (map case_rule cases ++ others)
said_cases [] others = refl
said_cases (c ∷ cases) others =
    ap (λ xs. macros_called (case_rule c) ∷ xs) (said_cases cases others)

parts_said : (a : Rule-F Rule RuleCase) → rule_parts (said a) ≡ map macros_called (sub_rules a)
parts_said Rule-F.Skip = refl
parts_said (Rule-F.Call m args) = refl
parts_said (Rule-F.Update f args value span) = refl
parts_said (Rule-F.Par parts_ span) = refl
parts_said (Rule-F.Seq parts_ span) = refl
parts_said (Rule-F.If guard first None) = refl
parts_said (Rule-F.If guard first (Some other)) = refl
parts_said (Rule-F.Forall ranges guard body span) = refl
parts_said (Rule-F.Choose ranges guard body None place) = refl
parts_said (Rule-F.Choose ranges guard body (Some other) place) = refl
parts_said (Rule-F.Let values body) = refl
parts_said (Rule-F.Switch v cases None) = said_cases cases []
parts_said (Rule-F.Switch v cases (Some other)) = said_cases cases (other ∷ [])
parts_said (Rule-F.Extend d count body span) = refl

called_said : (a : Rule-F Rule RuleCase) → rule_called (said a) ≡ rule_called a
called_said Rule-F.Skip = refl
called_said (Rule-F.Call m args) = refl
called_said (Rule-F.Update f args value span) = refl
called_said (Rule-F.Par parts_ span) = refl
called_said (Rule-F.Seq parts_ span) = refl
called_said (Rule-F.If guard first other) = refl
called_said (Rule-F.Forall ranges guard body span) = refl
called_said (Rule-F.Choose ranges guard body other place) = refl
called_said (Rule-F.Let values body) = refl
called_said (Rule-F.Switch v cases other) = refl
called_said (Rule-F.Extend d count body span) = refl

called_out : (r : Rule) (a : Rule-F Rule RuleCase) → out-Rule r ≡ a
    → macros_called r ≡ optional (rule_called a) ++ called_in (sub_rules a)
called_out r a e =
    of_rule-out called_rule_level calls_none r a e
    ∙ (λ i. optional (called_said a i) ++ all_of (parts_said a i))

called_append : (rs qs : List Rule) → called_in (rs ++ qs) ≡ called_in rs ++ called_in qs
called_append [] qs = refl
called_append (r ∷ rs) qs =
    ap (λ ns. macros_called r ++ ns) (called_append rs qs)
    ∙ sym (append_assoc (macros_called r) (called_in rs) (called_in qs))

-- ---- forms

out_skip : out-Rule rule.Skip ≡ Rule-F.Skip
out_skip = search (rules, the_lemmas)

out_call : (m : ℕ) (args : List Term) → out-Rule (rule.Call m args) ≡ Rule-F.Call m args
out_call m args = search (rules, the_lemmas)

out_update : (f : ℕ) (args : List Term) (value : Term) (span : Span)
    → out-Rule (rule.Update f args value span) ≡ Rule-F.Update f args value span
out_update f args value span = search (rules, the_lemmas)

out_par : (rs : List Rule) (span : Span) → out-Rule (rule.Par rs span) ≡ Rule-F.Par rs span
out_par rs span = search (rules, the_lemmas)

out_seq : (rs : List Rule) (span : Span) → out-Rule (rule.Seq rs span) ≡ Rule-F.Seq rs span
out_seq rs span = search (rules, the_lemmas)

out_if : (g : Term) (r : Rule) (o : Option Rule) → out-Rule (rule.If g r o) ≡ Rule-F.If g r o
out_if g r o = search (rules, the_lemmas)

out_forall : (ds : List Domain) (g : Option Term) (r : Rule) (span : Span)
    → out-Rule (rule.Forall ds g r span) ≡ Rule-F.Forall ds g r span
out_forall ds g r span = search (rules, the_lemmas)

out_choose : (ds : List Domain) (g : Option Term) (r : Rule) (o : Option Rule) (n : ℕ)
    → out-Rule (rule.Choose ds g r o n) ≡ Rule-F.Choose ds g r o n
out_choose ds g r o n = search (rules, the_lemmas)

out_let : (ts : List Term) (r : Rule) → out-Rule (rule.Let ts r) ≡ Rule-F.Let ts r
out_let ts r = search (rules, the_lemmas)

out_switch : (t : Term) (cs : List RuleCase) (o : Option Rule)
    → out-Rule (rule.Switch t cs o) ≡ Rule-F.Switch t cs o
out_switch t cs o = search (rules, the_lemmas)

out_extend : (d count : ℕ) (r : Rule) (span : Span)
    → out-Rule (rule.Extend d count r span) ≡ Rule-F.Extend d count r span
out_extend d count r span = search (rules, the_lemmas)

out_case : (a : RuleCase-F Rule RuleCase) → out-RuleCase (roll-RuleCase a) ≡ a
out_case a = search (rules, the_lemmas)

-- the rules of checked cases
abbrev numbered_rules : List (Checked × CheckedRule) → ℕ → List Rule
numbered_rules [] n = []
numbered_rules (c ∷ cs) n = c.1.rule n ∷ numbered_rules cs (n + c.1.chooses)

cases_are : (cs : List (Checked × CheckedRule)) (n : ℕ)
    → map case_rule (numbered_cases cs n) ≡ numbered_rules cs n
cases_are [] n = refl
cases_are (c ∷ cs) n =
    let is = out_case (record { value = c.0.term; rule = c.1.rule n }) in
    λ i. (is i).rule ∷ cases_are cs (n + c.1.chooses) i

module _ (scope : Scope) where
  -- the items name each of these macro rules
  abbrev Name : List ℕ → Items → Type 0
  Name = AreNamed scope.names NamesMacro named.Macro

  left : (ns : List ℕ) (xs ys : Items) → Name ns xs → Name ns (xs ++ ys)
  left = items_.left scope.names NamesMacro named.Macro

  right : (ns : List ℕ) (xs ys : Items) → Name ns ys → Name ns (xs ++ ys)
  right = items_.right scope.names NamesMacro named.Macro

  none : (items : Items) → Name [] items
  none = items_.none_named scope.names NamesMacro named.Macro

  together : (ns ms : List ℕ) (items : Items) → Name ns items → Name ms items
      → Name (ns ++ ms) items
  together = items_.together scope.names NamesMacro named.Macro

  both : (ns ms : List ℕ) (xs ys : Items) → Name ns xs → Name ms ys → Name (ns ++ ms) (xs ++ ys)
  both = items_.both_named scope.names NamesMacro named.Macro

  moved : (ns ms : List ℕ) (items : Items) → ns ≡ ms → Name ms items → Name ns items
  moved = items_.moved scope.names NamesMacro named.Macro

  -- the macro rules that the checked rule calls are named in the tree
  abbrev pub Called : RuleTree → Type 0
  Called r = (variables : Variables) (n : ℕ)
      → Name (macros_called ((checked_rule scope r variables).rule n)) (rule_items r)

  by_form : (items : Items) (r : Rule) (a : Rule-F Rule RuleCase) → out-Rule r ≡ a
      → Name (optional (rule_called a) ++ called_in (sub_rules a)) items
      → Name (macros_called r) items
  by_form items r a e h =
      moved (macros_called r) (optional (rule_called a) ++ called_in (sub_rules a)) items
      (called_out r a e) h

  one : (r : Rule) (items : Items) → Name (macros_called r) items
      → Name (called_in (r ∷ [])) items
  one r items h = together (macros_called r) [] items h (none items)

  appended : (rs qs : List Rule) (xs ys : Items) → Name (called_in rs) xs
      → Name (called_in qs) ys → Name (called_in (rs ++ qs)) (xs ++ ys)
  appended rs qs xs ys h k =
      moved (called_in (rs ++ qs)) (called_in rs ++ called_in qs) (xs ++ ys) (called_append rs qs)
      (both (called_in rs) (called_in qs) xs ys h k)

  -- ---- several rules

  all_named : (rs : List RuleTree) → AllByRecursion Called rs → (v : Variables) (n : ℕ)
      → Name (called_in (numbered (rules_at scope v rs) n)) (joined (map rule_items rs))
  all_named [] parts v n = none []
  all_named (r ∷ rs) parts v n =
      let c = checked_rule scope r v in
      both (macros_called (c.rule n))
      (called_in (numbered (rules_at scope v rs) (n + c.chooses))) (rule_items r)
      (joined (map rule_items rs)) (parts.0 v n) (all_named rs parts.1 v (n + c.chooses))

  cases_named : (cs : List RuleCaseTree) → AllByRecursion (OfCase Called) cs
      → (v : Variables) (n : ℕ)
      → Name (called_in (numbered_rules (cases_of scope v cs) n)) (rule_cases cs)
  unfolding rule_cases
  cases_named [] parts v n = none []
  cases_named (c ∷ cs) parts v n =
      let r = checked_rule scope (out-RuleCaseTree c).rule v in
      let xs = term_items (out-RuleCaseTree c).value in
      let ys = rule_items (out-RuleCaseTree c).rule in
      both (macros_called (r.rule n))
      (called_in (numbered_rules (cases_of scope v cs) (n + r.chooses))) (xs ++ ys)
      (rule_cases cs) (right (macros_called (r.rule n)) xs ys (parts.0 v n))
      (cases_named cs parts.1 v (n + r.chooses))

  -- ---- calls and updates

  skip : (items : Items) → Name (macros_called rule.Skip) items
  skip items = by_form items rule.Skip Rule-F.Skip out_skip (none items)

  call : (m : ℕ) (name : Token) (args : List Term) (items : Items)
      → find scope.names (text_of name) ≡ Some (named.Macro m)
      → Name (macros_called (rule.Call m args)) (NamesMacro name ∷ items)
  call m name args items names =
      by_form (NamesMacro name ∷ items) (rule.Call m args) (Rule-F.Call m args) (out_call m args)
      (items_.itself_named scope.names NamesMacro named.Macro name m items names)

  macro : (m : ℕ) (o : Option (List Domain)) (name : Token) (cs : List Checked) (span : Span)
      (items : Items) (n : ℕ) → find scope.names (text_of name) ≡ Some (named.Macro m)
      → Name (macros_called ((option_map_or (λ params. macro_called scope m params cs span) o
      (simple [] rule.Skip)).rule n)) (NamesMacro name ∷ items)
  macro m None name cs span items n names = skip (NamesMacro name ∷ items)
  macro m (Some params) name cs span items n names = call m name (checked_terms cs) items names

  called_as : (o : Option Named) (name : Token) (cs : List Checked) (span : Span) (items : Items)
      (n : ℕ) → find scope.names (text_of name) ≡ o
      → Name (macros_called ((typed.rule_called scope o name cs span).rule n))
      (NamesMacro name ∷ items)
  called_as (Some (named.Macro m)) name cs span items n names =
      macro m (slice_get scope.macros m) name cs span items n names
  called_as None name cs span items n names = skip (NamesMacro name ∷ items)
  called_as (Some (named.Enum d)) name cs span items n names = skip (NamesMacro name ∷ items)
  called_as (Some (named.Abstract d)) name cs span items n names = skip (NamesMacro name ∷ items)
  called_as (Some (named.Subset d)) name cs span items n names = skip (NamesMacro name ∷ items)
  called_as (Some (named.Literal d i)) name cs span items n names = skip (NamesMacro name ∷ items)
  called_as (Some (named.Function f)) name cs span items n names = skip (NamesMacro name ∷ items)
  called_as (Some named.Main) name cs span items n names = skip (NamesMacro name ∷ items)

  update : (f : ℕ) (args : List Term) (value : Term) (span : Span) (items : Items)
      → Name (macros_called (rule.Update f args value span)) items
  update f args value span items =
      by_form items (rule.Update f args value span) (Rule-F.Update f args value span)
      (out_update f args value span) (none items)

  of_function : (f : ℕ) (o : Option Header) (cs : List Checked) (c : Checked) (span : Span)
      (items : Items) (n : ℕ)
      → Name (macros_called ((function_updated scope f o cs c span).rule n)) items
  of_function f None cs c span items n = update f (checked_terms cs) c.term span items
  of_function f (Some header) cs c span items n = update f (checked_terms cs) c.term span items

  updated_as : (o : Option Named) (name : Token) (cs : List Checked) (c : Checked) (span : Span)
      (items : Items) (n : ℕ)
      → Name (macros_called ((named_updated scope o name cs c span).rule n)) items
  updated_as (Some (named.Function f)) name cs c span items n =
      of_function f (slice_get scope.functions f) cs c span items n
  updated_as None name cs c span items n = update 0 (checked_terms cs) c.term span items
  updated_as (Some (named.Enum d)) name cs c span items n =
      update 0 (checked_terms cs) c.term span items
  updated_as (Some (named.Abstract d)) name cs c span items n =
      update 0 (checked_terms cs) c.term span items
  updated_as (Some (named.Subset d)) name cs c span items n =
      update 0 (checked_terms cs) c.term span items
  updated_as (Some (named.Literal d i)) name cs c span items n =
      update 0 (checked_terms cs) c.term span items
  updated_as (Some (named.Macro m)) name cs c span items n =
      update 0 (checked_terms cs) c.term span items
  updated_as (Some named.Main) name cs c span items n =
      update 0 (checked_terms cs) c.term span items

  -- ---- rules with rules in them

  -- of one level, with what the checker tells of each rule in its place
  abbrev At : Variables → ℕ → Form → Type 0
  At v n a = Name (macros_called ((check_rule_level scope (told scope a) v).rule n)) (rule_form a)

  par_form : (v : Variables) (n : ℕ) (first : RuleTree) (others : List RuleTree) (span : Span)
      → AllByRecursion Called (first ∷ others) → At v n (RuleTree-F.Par first others span)
  unfolding more_rules
  par_form v n first others span parts =
      let rs = numbered (rules_at scope v (first ∷ others)) n in
      by_form (joined (map rule_items (first ∷ others))) (rule.Par rs span) (Rule-F.Par rs span)
      (out_par rs span) (all_named (first ∷ others) parts v n)

  seq_form : (v : Variables) (n : ℕ) (first : RuleTree) (others : List RuleTree) (span : Span)
      → AllByRecursion Called (first ∷ others) → At v n (RuleTree-F.Seq first others span)
  unfolding more_rules
  seq_form v n first others span parts =
      let rs = numbered (rules_at scope v (first ∷ others)) n in
      by_form (joined (map rule_items (first ∷ others))) (rule.Seq rs span) (Rule-F.Seq rs span)
      (out_seq rs span) (all_named (first ∷ others) parts v n)

  if_form : (v : Variables) (n : ℕ) (guard : TermTree) (first : RuleTree)
      (other : Option RuleTree) (span : Span) → Called first
      → AllByRecursion Called (optional other) → At v n (RuleTree-F.If guard first other span)
  unfolding maybe_rule
  if_form v n guard first None span h rest =
      let g = (checked scope guard v).term in
      let r = (checked_rule scope first v).rule n in
      let xs = term_items guard ++ rule_items first in
      by_form (xs ++ []) (rule.If g r None) (Rule-F.If g r None) (out_if g r None)
      (left (called_in (r ∷ [])) xs []
      (one r xs (right (macros_called r) (term_items guard) (rule_items first) (h v n))))
  if_form v n guard first (Some last) span h rest =
      let g = (checked scope guard v).term in
      let c = checked_rule scope first v in
      let r = c.rule n in
      let q = (checked_rule scope last v).rule (n + c.chooses) in
      let xs = term_items guard ++ rule_items first in
      by_form (xs ++ rule_items last) (rule.If g r (Some q)) (Rule-F.If g r (Some q))
      (out_if g r (Some q))
      (appended (r ∷ []) (q ∷ []) xs (rule_items last)
      (one r xs (right (macros_called r) (term_items guard) (rule_items first) (h v n)))
      (one q (rule_items last) (rest.0 v (n + c.chooses))))

  body_named : (r : Rule) (before : Items) (body : RuleTree)
      → Name (macros_called r) (rule_items body)
      → Name (called_in (r ∷ [])) (before ++ rule_items body)
  body_named r before body h =
      one r (before ++ rule_items body) (right (macros_called r) before (rule_items body) h)

  forall_form : (v : Variables) (n : ℕ) (ranges : RangesTree) (guard : Option TermTree)
      (body : RuleTree) (span : Span) → Called body
      → At v n (RuleTree-F.Forall ranges guard body span)
  forall_form v n ranges guard body span h =
      let inner = with_ranges scope v (list_of_ranges ranges) in
      let ds = range_domains scope (list_of_ranges ranges) in
      let g = some_term (option_term scope inner guard) in
      let r = (checked_rule scope body inner).rule n in
      by_form (quantifier ranges guard ++ rule_items body) (rule.Forall ds g r span)
      (Rule-F.Forall ds g r span) (out_forall ds g r span)
      (body_named r (quantifier ranges guard) body (h inner n))

  choose_form : (v : Variables) (n : ℕ) (ranges : RangesTree) (guard : Option TermTree)
      (body : RuleTree) (other : Option RuleTree) (span : Span) → Called body
      → AllByRecursion Called (optional other)
      → At v n (RuleTree-F.Choose ranges guard body other span)
  unfolding maybe_rule
  choose_form v n ranges guard body None span h rest =
      let inner = with_ranges scope v (list_of_ranges ranges) in
      let ds = range_domains scope (list_of_ranges ranges) in
      let g = some_term (option_term scope inner guard) in
      let r = (checked_rule scope body inner).rule (n + 1) in
      let xs = quantifier ranges guard ++ rule_items body in
      by_form (xs ++ []) (rule.Choose ds g r None n) (Rule-F.Choose ds g r None n)
      (out_choose ds g r None n)
      (left (called_in (r ∷ [])) xs []
      (body_named r (quantifier ranges guard) body (h inner (n + 1))))
  choose_form v n ranges guard body (Some last) span h rest =
      let inner = with_ranges scope v (list_of_ranges ranges) in
      let ds = range_domains scope (list_of_ranges ranges) in
      let g = some_term (option_term scope inner guard) in
      let c = checked_rule scope body inner in
      let r = c.rule (n + 1) in
      let q = (checked_rule scope last v).rule (n + 1 + c.chooses) in
      let xs = quantifier ranges guard ++ rule_items body in
      by_form (xs ++ rule_items last) (rule.Choose ds g r (Some q) n)
      (Rule-F.Choose ds g r (Some q) n) (out_choose ds g r (Some q) n)
      (appended (r ∷ []) (q ∷ []) xs (rule_items last)
      (body_named r (quantifier ranges guard) body (h inner (n + 1)))
      (one q (rule_items last) (rest.0 v (n + 1 + c.chooses))))

  let_form : (v : Variables) (n : ℕ) (binds : BindsTree) (body : RuleTree) (span : Span)
      → Called body → At v n (RuleTree-F.Let binds body span)
  let_form v n binds body span h =
      let b = bound v (binds_typing scope binds) in
      let r = (checked_rule scope body b.variables).rule n in
      by_form (all_binds binds ++ rule_items body) (rule.Let b.terms r) (Rule-F.Let b.terms r)
      (out_let b.terms r) (body_named r (all_binds binds) body (h b.variables n))

  cases_form : (v : Variables) (n : ℕ) (value : TermTree) (cs : List RuleCaseTree)
      → AllByRecursion (OfCase Called) cs
      → Name (called_in (map case_rule (numbered_cases (cases_of scope v cs) n)))
      (term_items value ++ rule_cases cs)
  cases_form v n value cs parts =
      let rs = map case_rule (numbered_cases (cases_of scope v cs) n) in
      right (called_in rs) (term_items value) (rule_cases cs)
      (moved (called_in rs) (called_in (numbered_rules (cases_of scope v cs) n)) (rule_cases cs)
      (ap called_in (cases_are (cases_of scope v cs) n)) (cases_named cs parts v n))

  switch_form : (v : Variables) (n : ℕ) (value : TermTree) (cs : List RuleCaseTree)
      (other : Option RuleTree) (span : Span) → AllByRecursion (OfCase Called) cs
      → AllByRecursion Called (optional other) → At v n (RuleTree-F.Switch value cs other span)
  unfolding maybe_rule
  switch_form v n value cs None span parts rest =
      let t = (checked scope value v).term in
      let all = numbered_cases (cases_of scope v cs) n in
      let xs = term_items value ++ rule_cases cs in
      by_form (xs ++ []) (rule.Switch t all None) (Rule-F.Switch t all None)
      (out_switch t all None)
      (appended (map case_rule all) [] xs [] (cases_form v n value cs parts) (none []))
  switch_form v n value cs (Some last) span parts rest =
      let t = (checked scope value v).term in
      let all = numbered_cases (cases_of scope v cs) n in
      let m = n + all_chooses (case_rules (cases_of scope v cs)) in
      let q = (checked_rule scope last v).rule m in
      let xs = term_items value ++ rule_cases cs in
      by_form (xs ++ rule_items last) (rule.Switch t all (Some q)) (Rule-F.Switch t all (Some q))
      (out_switch t all (Some q))
      (appended (map case_rule all) (q ∷ []) xs (rule_items last)
      (cases_form v n value cs parts) (one q (rule_items last) (rest.0 v m)))

  extend : (d count : ℕ) (r : Rule) (span : Span) (first : Token) (others : List Token)
      (body : RuleTree) → Name (macros_called r) (rule_items body)
      → Name (macros_called (rule.Extend d count r span))
      (all_variables first others ++ rule_items body)
  extend d count r span first others body h =
      by_form (all_variables first others ++ rule_items body) (rule.Extend d count r span)
      (Rule-F.Extend d count r span) (out_extend d count r span)
      (body_named r (all_variables first others) body h)

  -- the body with new members of this type
  abbrev body_with : Variables → Token → List Token → RuleTree → TermType → CheckedRule
  body_with v first others body t =
      checked_rule scope body (with_members v (first ∷ others) t)

  extended_as : (v : Variables) (n : ℕ) (o : Option Named) (name first : Token)
      (others : List Token) (body : RuleTree) (span : Span) → Called body
      → Name (macros_called ((extended o name (first ∷ others)
      (body_with v first others body) span).rule n))
      (all_variables first others ++ rule_items body)
  extended_as v n (Some (named.Abstract d)) name first others body span h =
      extend d (length (first ∷ others)) ((body_with v first others body (type.Abstract d)).rule n)
      span first others body (h (with_members v (first ∷ others) (type.Abstract d)) n)
  extended_as v n None name first others body span h =
      extend 0 (length (first ∷ others)) ((body_with v first others body type.Untyped).rule n)
      span first others body (h (with_members v (first ∷ others) type.Untyped) n)
  extended_as v n (Some (named.Enum d)) name first others body span h =
      extend 0 (length (first ∷ others)) ((body_with v first others body type.Untyped).rule n)
      span first others body (h (with_members v (first ∷ others) type.Untyped) n)
  extended_as v n (Some (named.Subset d)) name first others body span h =
      extend 0 (length (first ∷ others)) ((body_with v first others body type.Untyped).rule n)
      span first others body (h (with_members v (first ∷ others) type.Untyped) n)
  extended_as v n (Some (named.Literal d i)) name first others body span h =
      extend 0 (length (first ∷ others)) ((body_with v first others body type.Untyped).rule n)
      span first others body (h (with_members v (first ∷ others) type.Untyped) n)
  extended_as v n (Some (named.Function f)) name first others body span h =
      extend 0 (length (first ∷ others)) ((body_with v first others body type.Untyped).rule n)
      span first others body (h (with_members v (first ∷ others) type.Untyped) n)
  extended_as v n (Some (named.Macro m)) name first others body span h =
      extend 0 (length (first ∷ others)) ((body_with v first others body type.Untyped).rule n)
      span first others body (h (with_members v (first ∷ others) type.Untyped) n)
  extended_as v n (Some named.Main) name first others body span h =
      extend 0 (length (first ∷ others)) ((body_with v first others body type.Untyped).rule n)
      span first others body (h (with_members v (first ∷ others) type.Untyped) n)

  -- ---- trees

  by_tree : (v : Variables) (n : ℕ) (r : RuleTree) (a : Form) → out-RuleTree r ≡ a → At v n a
      → Name (macros_called ((checked_rule scope r v).rule n)) (rule_items r)
  by_tree v n r a e h =
      subst (λ items. Name (macros_called ((checked_rule scope r v).rule n)) items)
      (sym (rule_items-out r ∙ ap rule_form e))
      (moved (macros_called ((checked_rule scope r v).rule n))
      (macros_called ((check_rule_level scope (told scope a) v).rule n)) (rule_form a)
      (ap (λ m. macros_called ((m v).rule n)) (checked_rule-out scope r a e)) h)

  at_form : (v : Variables) (n : ℕ) (a : Form) → OfParts Called a → At v n a
  at_form v n (RuleTree-F.Skip span) h = skip []
  at_form v n (RuleTree-F.Call name args span) h =
      called_as (find scope.names (text_of name)) name (terms_at scope v (terms_of args)) span
      (args_of args) n refl
  at_form v n (RuleTree-F.Update name args value span) h =
      updated_as (find scope.names (text_of name)) name (terms_at scope v (terms_of args))
      (checked scope value v) span (args_of args ++ term_items value) n
  at_form v n (RuleTree-F.Par first others span) h = par_form v n first others span (h.0, h.1)
  at_form v n (RuleTree-F.Seq first others span) h = seq_form v n first others span (h.0, h.1)
  at_form v n (RuleTree-F.If guard first other span) h =
      if_form v n guard first other span h.0 h.1
  at_form v n (RuleTree-F.Forall ranges guard body span) h =
      forall_form v n ranges guard body span h
  at_form v n (RuleTree-F.Choose ranges guard body other span) h =
      choose_form v n ranges guard body other span h.0 h.1
  at_form v n (RuleTree-F.Let binds body span) h = let_form v n binds body span h
  at_form v n (RuleTree-F.Switch value cs other span) h =
      switch_form v n value cs other span h.0 h.1
  at_form v n (RuleTree-F.Extend name first others body span) h =
      extended_as v n (find scope.names (text_of name)) name first others body span h

  -- each macro rule that the checked rule calls is named in the tree
  pub rule_named : (r : RuleTree) → Called r
  rule_named = by_parts Called (λ r a e h v n. by_tree v n r a e (at_form v n a h))
