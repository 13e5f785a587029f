-- Each function that a checked term calls is named in its text.
use Rattle.std.proofs.Common.{◌≡◌, ℕ, ◌+◌, Bool, true, false, Option, Some, None, List, [], ◌∷◌}
use Rattle.std.proofs.Common.{◌++◌, map, slice_get, codes, refl, sym, ap, subst, ◌∙◌, append_assoc, rules}
use Rattle.std.specs.List.{AllByRecursion}
use Rattle.std.specs.Str.{bytes_eq}
use Rattle.asm_value.specs.declared.value.Value.{Value}
use Rattle.asm_value.specs.declared.value.Value.TheVariants as values
use Rattle.asm_value.specs.declared.domain.Domain.{Domain}
use Rattle.asm_syntax.specs.declared.token.Span.{Span}
use Rattle.asm_syntax.specs.declared.token.Token.{Token}
use Rattle.asm_syntax.specs.declared.tree.RangesTree.{RangesTree}
use Rattle.asm_syntax.specs.declared.tree.BindTree.{BindTree}
use Rattle.asm_syntax.specs.declared.tree.BindsTree.{BindsTree}
use Rattle.asm_syntax.specs.declared.tree.CaseTree.{CaseTree}
use Rattle.asm_syntax.specs.declared.tree.TermsTree.{TermsTree}
use Rattle.asm_syntax.specs.declared.tree.TermTree.{TermTree}
use Rattle.asm_syntax.specs.declared.tree.TermTree.TheOpen.{TermTree-F}
use Rattle.asm_syntax.specs.declared.tree.TermTree.TheViews.{out-TermTree, out-CaseTree}
use Rattle.asm_syntax.specs.Marks.{text_of}
use Rattle.asm_tables.specs.declared.rows.Operation.{Operation}
use Rattle.asm_typing.specs.declared.types.Type.{«Type» as TermType}
use Rattle.asm_typing.specs.Operators.{operator_type, is_operator}
use Rattle.asm_program.specs.declared.named.Named.{Named}
use Rattle.asm_program.specs.declared.named.Named.TheVariants as named
use Rattle.asm_program.specs.declared.program.FunctionKind.{FunctionKind}
use Rattle.asm_program.specs.declared.program.FunctionKind.TheVariants as kinds
use Rattle.asm_program.specs.declared.trees.Term.{Term}
use Rattle.asm_program.specs.declared.trees.Case.{Case}
use Rattle.asm_program.specs.declared.trees.Term.TheOpen.{Term-F, Case-F}
use Rattle.asm_program.specs.declared.trees.Term.TheVariants as terms
use Rattle.asm_program.specs.declared.trees.Term.TheViews.{out-Term, out-Case, roll-Case, the_lemmas}
use Rattle.asm_program.specs.Forms.{optional, called}
use Rattle.asm_program.specs.Items.{Items, NamesFunction, ninth, numbered, numbered_from, all_items}
use Rattle.asm_program.specs.Items.{repeated, term_part, term_items, binds_from, bind_part, bind_of}
use Rattle.asm_program.specs.Items.{binds_of, bound_items, listed_terms, terms_of, list_of_ranges}
use Rattle.asm_program.specs.Signatures.{Header, find}
use Rattle.asm_program.specs.TypedTerms.{Scope, Variables, Checked, with_variable, with_ranges}
use Rattle.asm_program.specs.TypedTerms.{types, checked_terms, operation_of, operator_checked}
use Rattle.asm_program.specs.TypedTerms.{function_term, function_checked, named_checked, name_checked}
use Rattle.asm_program.specs.TypedTerms.{variable_checked, bound, case_of, range_domains}
use Rattle.asm_program.specs.TypedTerms.{check_level, checked}
use Rattle.asm_program.proofs.TermTreeParts.{Form, OfBind, OfCase, OfParts, by_parts, bind_typing}
use Rattle.asm_program.proofs.TermTreeParts.{told, checked-out}
use Rattle.asm_program.proofs.TypesFound.{all_at, cases_at, by_word, by_operator}
use Rattle.asm_items.specs.Parts.{all_ranges, numbered_terms, args_of, more_terms, listed_of}
use Rattle.asm_items.specs.Parts.{quantified, maybe_term, cases_of, all_binds}
use Rattle.asm_items.specs.Parts as part
use Rattle.asm_items.proofs.TermSteps.{term_form, term_items-out}
use Rattle.asm_calls.specs.Nested.{all_of, called_level, functions_called}
use Rattle.asm_calls.proofs.TermParts.{case_terms, sub_terms, of_term-out, parts-said, called-said}
use Rattle.asm_typed_calls.proofs.Named as items_
use Rattle.asm_typed_calls.proofs.Named.{IsNamed, AreNamed}

-- ---- what a term calls, by its form

-- the functions that some terms call
abbrev pub called_in : List Term → List ℕ
called_in ts = all_of (map functions_called ts)

called_out : (t : Term) (a : Term-F Term Case) → out-Term t ≡ a
    → functions_called t ≡ optional (called a) ++ called_in (sub_terms a)
called_out t a e =
    of_term-out called_level (λ f. []) t a e
    ∙ (λ i. optional (called-said called_level (λ f. []) a i)
    ++ all_of (parts-said called_level (λ f. []) a i))

called_append : (ts us : List Term) → called_in (ts ++ us) ≡ called_in ts ++ called_in us
called_append [] us = refl
called_append (t ∷ ts) us =
    ap (λ ns. functions_called t ++ ns) (called_append ts us)
    ∙ sym (append_assoc (functions_called t) (called_in ts) (called_in us))

-- ---- forms

out_operator : (o : Option Operation) (args : List Term) (span : Span)
    → out-Term (terms.Operator o args span) ≡ Term-F.Operator o args span
out_operator o args span = search (rules, the_lemmas)

out_and : (l r : Term) → out-Term (terms.And l r) ≡ Term-F.And l r
out_and l r = search (rules, the_lemmas)

out_or : (l r : Term) → out-Term (terms.Or l r) ≡ Term-F.Or l r
out_or l r = search (rules, the_lemmas)

out_implies : (l r : Term) → out-Term (terms.Implies l r) ≡ Term-F.Implies l r
out_implies l r = search (rules, the_lemmas)

out_constant : (v : Value) → out-Term (terms.Constant v) ≡ Term-F.Constant v
out_constant v = search (rules, the_lemmas)

out_variable : (i : ℕ) → out-Term (terms.Variable i) ≡ Term-F.Variable i
out_variable i = search (rules, the_lemmas)

out_read : (f : ℕ) (args : List Term) → out-Term (terms.Read f args) ≡ Term-F.Read f args
out_read f args = search (rules, the_lemmas)

out_call : (f : ℕ) (args : List Term) → out-Term (terms.Call f args) ≡ Term-F.Call f args
out_call f args = search (rules, the_lemmas)

out_tuple : (ts : List Term) (span : Span) → out-Term (terms.Tuple ts span) ≡ Term-F.Tuple ts span
out_tuple ts span = search (rules, the_lemmas)

out_forall : (ds : List Domain) (t : Term) → out-Term (terms.Forall ds t) ≡ Term-F.Forall ds t
out_forall ds t = search (rules, the_lemmas)

out_exist : (ds : List Domain) (t : Term) → out-Term (terms.Exist ds t) ≡ Term-F.Exist ds t
out_exist ds t = search (rules, the_lemmas)

out_unique : (ds : List Domain) (t : Term)
    → out-Term (terms.ExistUnique ds t) ≡ Term-F.ExistUnique ds t
out_unique ds t = search (rules, the_lemmas)

out_interval : (l r : Term) (span : Span)
    → out-Term (terms.Interval l r span) ≡ Term-F.Interval l r span
out_interval l r span = search (rules, the_lemmas)

out_set : (ts : List Term) (span : Span) → out-Term (terms.Set ts span) ≡ Term-F.Set ts span
out_set ts span = search (rules, the_lemmas)

out_seq : (ts : List Term) (span : Span) → out-Term (terms.Seq ts span) ≡ Term-F.Seq ts span
out_seq ts span = search (rules, the_lemmas)

out_if : (g t : Term) (o : Option Term) → out-Term (terms.If g t o) ≡ Term-F.If g t o
out_if g t o = search (rules, the_lemmas)

out_let : (ts : List Term) (t : Term) → out-Term (terms.Let ts t) ≡ Term-F.Let ts t
out_let ts t = search (rules, the_lemmas)

out_switch : (t : Term) (cs : List Case) (o : Option Term)
    → out-Term (terms.Switch t cs o) ≡ Term-F.Switch t cs o
out_switch t cs o = search (rules, the_lemmas)

out_case : (a : Case-F Term Case) → out-Case (roll-Case a) ≡ a
out_case a = search (rules, the_lemmas)

-- the terms of checked cases
abbrev both_terms : List (Checked × Checked) → List Term
both_terms [] = []
both_terms (c ∷ cs) = c.0.term ∷ c.1.term ∷ both_terms cs

cases_are : (cs : List (Checked × Checked)) → case_terms (map case_of cs) ≡ both_terms cs
cases_are [] = refl
cases_are (c ∷ cs) =
    let is = out_case (record { value = c.0.term; term = c.1.term }) in
    λ i. (is i).value ∷ (is i).term ∷ cases_are cs i

module _ (scope : Scope) where
  -- the items name each of these functions
  abbrev Name : List ℕ → Items → Type 0
  Name = AreNamed scope.names NamesFunction named.Function

  left : (ns : List ℕ) (xs ys : Items) → Name ns xs → Name ns (xs ++ ys)
  left = items_.left scope.names NamesFunction named.Function

  right : (ns : List ℕ) (xs ys : Items) → Name ns ys → Name ns (xs ++ ys)
  right = items_.right scope.names NamesFunction named.Function

  none : (items : Items) → Name [] items
  none = items_.none_named scope.names NamesFunction named.Function

  together : (ns ms : List ℕ) (items : Items) → Name ns items → Name ms items
      → Name (ns ++ ms) items
  together = items_.together scope.names NamesFunction named.Function

  both : (ns ms : List ℕ) (xs ys : Items) → Name ns xs → Name ms ys → Name (ns ++ ms) (xs ++ ys)
  both = items_.both_named scope.names NamesFunction named.Function

  moved : (ns ms : List ℕ) (items : Items) → ns ≡ ms → Name ms items → Name ns items
  moved = items_.moved scope.names NamesFunction named.Function

  -- the functions that the checked term calls are named in the tree
  abbrev pub Called : TermTree → Type 0
  Called t = (variables : Variables)
      → Name (functions_called (checked scope t variables).term) (term_items t)

  by_form : (items : Items) (t : Term) (a : Term-F Term Case) → out-Term t ≡ a
      → Name (optional (called a) ++ called_in (sub_terms a)) items
      → Name (functions_called t) items
  by_form items t a e h =
      moved (functions_called t) (optional (called a) ++ called_in (sub_terms a)) items
      (called_out t a e) h

  one : (t : Term) (items : Items) → Name (functions_called t) items
      → Name (called_in (t ∷ [])) items
  one t items h = together (functions_called t) [] items h (none items)

  two : (t u : Term) (xs ys : Items) → Name (functions_called t) xs
      → Name (functions_called u) ys → Name (called_in (t ∷ u ∷ [])) (xs ++ ys)
  two t u xs ys h k =
      both (functions_called t) (functions_called u ++ []) xs ys h (one u ys k)

  joined : (ts us : List Term) (xs ys : Items) → Name (called_in ts) xs → Name (called_in us) ys
      → Name (called_in (ts ++ us)) (xs ++ ys)
  joined ts us xs ys h k =
      moved (called_in (ts ++ us)) (called_in ts ++ called_in us) (xs ++ ys) (called_append ts us)
      (both (called_in ts) (called_in us) xs ys h k)

  -- ---- several terms

  all_named : (ts : List TermTree) → AllByRecursion Called ts → (variables : Variables)
      → Name (called_in (checked_terms (all_at scope variables ts))) (all_items (map term_part ts))
  all_named [] parts v = none []
  all_named (t ∷ ts) parts v =
      both (functions_called (checked scope t v).term)
      (called_in (checked_terms (all_at scope v ts))) (term_items t)
      (all_items (map term_part ts)) (parts.0 v) (all_named ts parts.1 v)

  numbered_named : (n : ℕ) (ts : List TermTree) → AllByRecursion Called ts
      → (variables : Variables)
      → Name (called_in (checked_terms (all_at scope variables ts)))
      (numbered_from n (map term_part ts))
  numbered_named n [] parts v = none []
  numbered_named n (t ∷ ts) parts v =
      both (functions_called (checked scope t v).term)
      (called_in (checked_terms (all_at scope v ts))) (ninth n (term_part t).0 ++ term_items t)
      (numbered_from (n + 1) (map term_part ts))
      (right (functions_called (checked scope t v).term) (ninth n (term_part t).0) (term_items t)
      (parts.0 v)) (numbered_named (n + 1) ts parts.1 v)

  binds_named : (bs : List BindTree) → AllByRecursion (OfBind Called) bs
      → (variables : Variables) (seen : List (List ℕ))
      → Name (called_in (bound variables (map (bind_typing scope) bs)).terms)
      (binds_from seen (map bind_part bs))
  binds_named [] parts v seen = none []
  binds_named (b ∷ bs) parts v seen =
      let c = checked scope (bind_of b).1 v in
      let inner = with_variable v (bind_of b).0 c.type in
      both (functions_called c.term)
      (called_in (bound inner (map (bind_typing scope) bs)).terms)
      (repeated seen (bind_of b).0 ++ term_items (bind_of b).1)
      (binds_from (text_of (bind_of b).0 ∷ seen) (map bind_part bs))
      (right (functions_called c.term) (repeated seen (bind_of b).0) (term_items (bind_of b).1)
      (parts.0 v))
      (binds_named bs parts.1 inner (text_of (bind_of b).0 ∷ seen))

  cases_named : (cs : List CaseTree) → AllByRecursion (OfCase Called) cs
      → (variables : Variables)
      → Name (called_in (both_terms (cases_at scope variables cs))) (cases_of cs)
  unfolding cases_of
  cases_named [] parts v = none []
  cases_named (c ∷ cs) parts v =
      let value = checked scope (out-CaseTree c).value v in
      let term = checked scope (out-CaseTree c).term v in
      let xs = term_items (out-CaseTree c).value in
      let ys = term_items (out-CaseTree c).term in
      let rest = called_in (both_terms (cases_at scope v cs)) in
      let items = xs ++ ys ++ cases_of cs in
      together (functions_called value.term) (functions_called term.term ++ rest) items
      (left (functions_called value.term) (xs ++ ys) (cases_of cs)
      (left (functions_called value.term) xs ys (parts.0.0 v)))
      (together (functions_called term.term) rest items
      (left (functions_called term.term) (xs ++ ys) (cases_of cs)
      (right (functions_called term.term) xs ys (parts.0.1 v)))
      (right rest (xs ++ ys) (cases_of cs) (cases_named cs parts.1 v)))

  -- ---- operators

  operator : (name : List ℕ) (args : List Checked) (span : Span) (items : Items)
      → Name (called_in (checked_terms args)) items
      → Name (functions_called (operator_checked name args span).term) items
  operator name args span items h =
      by_form items (operator_checked name args span).term
      (Term-F.Operator (operation_of (operator_type name (types args))) (checked_terms args) span)
      (out_operator (operation_of (operator_type name (types args))) (checked_terms args) span) h

  binary : (a b c : Bool) (op : List ℕ) (l r : Checked) (span : Span) (items : Items)
      → Name (called_in (l.term ∷ r.term ∷ [])) items
      → Name (functions_called (by_word scope a b c op l r span).term) items
  binary true b c op l r span items h =
      by_form items (terms.And l.term r.term) (Term-F.And l.term r.term) (out_and l.term r.term) h
  binary false true c op l r span items h =
      by_form items (terms.Or l.term r.term) (Term-F.Or l.term r.term) (out_or l.term r.term) h
  binary false false true op l r span items h =
      by_form items (terms.Implies l.term r.term) (Term-F.Implies l.term r.term)
      (out_implies l.term r.term) h
  binary false false false op l r span items h = operator op (l ∷ r ∷ []) span items h

  -- ---- names

  constant : (v : Value) (items : Items) → Name (functions_called (terms.Constant v)) items
  constant v items =
      by_form items (terms.Constant v) (Term-F.Constant v) (out_constant v) (none items)

  variable : (t : Token) (span : Span) (o : Option (ℕ × TermType)) (items : Items)
      → Name (functions_called (variable_checked t span o).term) items
  variable t span None items = constant values.Undef items
  variable t span (Some found) items =
      by_form items (terms.Variable found.0) (Term-F.Variable found.0) (out_variable found.0)
      (none items)

  call : (f : ℕ) (name : Token) (args : List Term) (items : Items)
      → find scope.names (text_of name) ≡ Some (named.Function f) → Name (called_in args) items
      → Name (functions_called (terms.Call f args)) (NamesFunction name ∷ items)
  call f name args items names h =
      by_form (NamesFunction name ∷ items) (terms.Call f args) (Term-F.Call f args)
      (out_call f args)
      (both (f ∷ []) (called_in args) (NamesFunction name ∷ []) items
      (items_.itself_named scope.names NamesFunction named.Function name f [] names) h)

  read : (f : ℕ) (name : Token) (args : List Term) (items : Items) → Name (called_in args) items
      → Name (functions_called (terms.Read f args)) (NamesFunction name ∷ items)
  read f name args items h =
      by_form (NamesFunction name ∷ items) (terms.Read f args) (Term-F.Read f args)
      (out_read f args) (right (called_in args) (NamesFunction name ∷ []) items h)

  of_kind : (f : ℕ) (header : Header) (kind : FunctionKind) (name : Token) (args : List Term)
      (items : Items)
      → find scope.names (text_of name) ≡ Some (named.Function f) → Name (called_in args) items
      → Name (functions_called (function_term scope.functions f header kind args))
      (NamesFunction name ∷ items)
  of_kind f header kinds.Static name args items names h = call f name args items names h
  of_kind f header kinds.Derived name args items names h = call f name args items names h
  of_kind f header kinds.Controlled name args items names h = read f name args items h
  of_kind f header kinds.Monitored name args items names h = read f name args items h
  of_kind f header kinds.Shared name args items names h = read f name args items h
  of_kind f header kinds.Out name args items names h = read f name args items h
  of_kind f header kinds.Constant name args items names h = constant _ (NamesFunction name ∷ items)

  function : (f : ℕ) (o : Option Header) (name : Token) (cs : List Checked) (span : Span)
      (items : Items)
      → find scope.names (text_of name) ≡ Some (named.Function f)
      → Name (called_in (checked_terms cs)) items
      → Name (functions_called (function_checked scope f o cs span).term)
      (NamesFunction name ∷ items)
  function f None name cs span items names h = constant values.Undef (NamesFunction name ∷ items)
  function f (Some header) name cs span items names h =
      of_kind f header header.kind name (checked_terms cs) items names h

  other : (b : Bool) (name : Token) (cs : List Checked) (span : Span) (items : Items)
      → Name (called_in (checked_terms cs)) items
      → Name (functions_called (by_operator scope b name cs span).term)
      (NamesFunction name ∷ items)
  other true name cs span items h =
      operator (text_of name) cs span (NamesFunction name ∷ items)
      (right (called_in (checked_terms cs)) (NamesFunction name ∷ []) items h)
  other false name cs span items h = constant values.Undef (NamesFunction name ∷ items)

  named_as : (n : Option Named) (name : Token) (cs : List Checked) (span : Span) (items : Items)
      → find scope.names (text_of name) ≡ n → Name (called_in (checked_terms cs)) items
      → Name (functions_called (named_checked scope n name cs span).term)
      (NamesFunction name ∷ items)
  named_as (Some (named.Function f)) name cs span items names h =
      function f (slice_get scope.functions f) name cs span items names h
  named_as (Some (named.Literal d i)) name cs span items names h =
      constant (values.Member d i) (NamesFunction name ∷ items)
  named_as None name cs span items names h =
      other (is_operator (text_of name)) name cs span items h
  named_as (Some (named.Enum d)) name cs span items names h =
      other (is_operator (text_of name)) name cs span items h
  named_as (Some (named.Abstract d)) name cs span items names h =
      other (is_operator (text_of name)) name cs span items h
  named_as (Some (named.Subset d)) name cs span items names h =
      other (is_operator (text_of name)) name cs span items h
  named_as (Some (named.Macro m)) name cs span items names h =
      other (is_operator (text_of name)) name cs span items h
  named_as (Some named.Main) name cs span items names h =
      other (is_operator (text_of name)) name cs span items h

  name_at : (name : Token) (cs : List Checked) (span : Span) (items : Items)
      → Name (called_in (checked_terms cs)) items
      → Name (functions_called (name_checked scope name cs span).term)
      (NamesFunction name ∷ items)
  name_at name cs span items h =
      named_as (find scope.names (text_of name)) name cs span items refl h

  -- ---- the other forms

  -- of one level, with what the checker tells of each part in its place
  abbrev At : Variables → Form → Type 0
  At v a = Name (functions_called (check_level scope (told scope a) v).term) (term_form a)

  name_form : (v : Variables) (name : Token) (args : Option TermsTree) (span : Span)
      → AllByRecursion Called (terms_of args) → At v (TermTree-F.Name name args span)
  unfolding part.named args_of
  name_form v name None span parts = name_at name [] span [] (none [])
  name_form v name (Some ts) span parts =
      name_at name (all_at scope v (listed_terms ts)) span
      (numbered (map term_part (listed_terms ts))) (numbered_named 1 (listed_terms ts) parts v)

  tuple_form : (v : Variables) (ts : TermsTree) (span : Span)
      → AllByRecursion Called (listed_terms ts) → At v (TermTree-F.Tuple ts span)
  unfolding numbered_terms
  tuple_form v ts span parts =
      let us = checked_terms (all_at scope v (listed_terms ts)) in
      by_form (numbered (map term_part (listed_terms ts))) (terms.Tuple us span)
      (Term-F.Tuple us span) (out_tuple us span) (numbered_named 1 (listed_terms ts) parts v)

  body_named : (v : Variables) (ranges : RangesTree) (body : TermTree) → Called body
      → Name (called_in ((checked scope body (with_ranges scope v (list_of_ranges ranges))).term ∷ []))
      (all_ranges ranges ++ term_items body)
  body_named v ranges body h =
      let t = (checked scope body (with_ranges scope v (list_of_ranges ranges))).term in
      one t (all_ranges ranges ++ term_items body)
      (right (functions_called t) (all_ranges ranges) (term_items body)
      (h (with_ranges scope v (list_of_ranges ranges))))

  forall_form : (v : Variables) (ranges : RangesTree) (body : TermTree) (span : Span)
      → Called body → At v (TermTree-F.Forall ranges body span)
  unfolding quantified
  forall_form v ranges body span h =
      let t = (checked scope body (with_ranges scope v (list_of_ranges ranges))).term in
      let ds = range_domains scope (list_of_ranges ranges) in
      by_form (all_ranges ranges ++ term_items body) (terms.Forall ds t) (Term-F.Forall ds t)
      (out_forall ds t) (body_named v ranges body h)

  exist_form : (v : Variables) (unique : Bool) (ranges : RangesTree) (body : TermTree)
      (span : Span) → Called body → At v (TermTree-F.Exist unique ranges body span)
  unfolding quantified
  exist_form v true ranges body span h =
      let t = (checked scope body (with_ranges scope v (list_of_ranges ranges))).term in
      let ds = range_domains scope (list_of_ranges ranges) in
      by_form (all_ranges ranges ++ term_items body) (terms.ExistUnique ds t)
      (Term-F.ExistUnique ds t) (out_unique ds t) (body_named v ranges body h)
  exist_form v false ranges body span h =
      let t = (checked scope body (with_ranges scope v (list_of_ranges ranges))).term in
      let ds = range_domains scope (list_of_ranges ranges) in
      by_form (all_ranges ranges ++ term_items body) (terms.Exist ds t) (Term-F.Exist ds t)
      (out_exist ds t) (body_named v ranges body h)

  interval_form : (v : Variables) (from to : TermTree) (span : Span) → Called from → Called to
      → At v (TermTree-F.Interval from to span)
  interval_form v from to span h k =
      let l = (checked scope from v).term in
      let r = (checked scope to v).term in
      by_form (term_items from ++ term_items to) (terms.Interval l r span)
      (Term-F.Interval l r span) (out_interval l r span)
      (two l r (term_items from) (term_items to) (h v) (k v))

  set_form : (v : Variables) (items : Option TermsTree) (span : Span)
      → AllByRecursion Called (terms_of items) → At v (TermTree-F.Set items span)
  unfolding listed_of more_terms
  set_form v None span parts =
      by_form [] (terms.Set [] span) (Term-F.Set [] span) (out_set [] span) (none [])
  set_form v (Some ts) span parts =
      let us = checked_terms (all_at scope v (listed_terms ts)) in
      by_form (all_items (map term_part (listed_terms ts))) (terms.Set us span)
      (Term-F.Set us span) (out_set us span) (all_named (listed_terms ts) parts v)

  seq_form : (v : Variables) (items : Option TermsTree) (span : Span)
      → AllByRecursion Called (terms_of items) → At v (TermTree-F.Seq items span)
  unfolding listed_of more_terms
  seq_form v None span parts =
      by_form [] (terms.Seq [] span) (Term-F.Seq [] span) (out_seq [] span) (none [])
  seq_form v (Some ts) span parts =
      let us = checked_terms (all_at scope v (listed_terms ts)) in
      by_form (all_items (map term_part (listed_terms ts))) (terms.Seq us span)
      (Term-F.Seq us span) (out_seq us span) (all_named (listed_terms ts) parts v)

  if_form : (v : Variables) (guard first : TermTree) (other_ : Option TermTree) (span : Span)
      → Called guard → Called first → AllByRecursion Called (optional other_)
      → At v (TermTree-F.If guard first other_ span)
  unfolding maybe_term
  if_form v guard first None span h k rest =
      let g = (checked scope guard v).term in
      let t = (checked scope first v).term in
      let xs = term_items guard ++ term_items first in
      by_form (xs ++ []) (terms.If g t None) (Term-F.If g t None) (out_if g t None)
      (left (called_in (g ∷ t ∷ [])) xs []
      (two g t (term_items guard) (term_items first) (h v) (k v)))
  if_form v guard first (Some last) span h k rest =
      let g = (checked scope guard v).term in
      let t = (checked scope first v).term in
      let u = (checked scope last v).term in
      let xs = term_items guard ++ term_items first in
      by_form (xs ++ term_items last) (terms.If g t (Some u)) (Term-F.If g t (Some u))
      (out_if g t (Some u))
      (joined (g ∷ t ∷ []) (u ∷ []) xs (term_items last)
      (two g t (term_items guard) (term_items first) (h v) (k v))
      (one u (term_items last) (rest.0 v)))

  let_form : (v : Variables) (binds : BindsTree) (body : TermTree) (span : Span)
      → AllByRecursion (OfBind Called) (binds_of binds) → Called body
      → At v (TermTree-F.Let binds body span)
  unfolding all_binds
  let_form v binds body span parts h =
      let b = bound v (map (bind_typing scope) (binds_of binds)) in
      let t = (checked scope body b.variables).term in
      by_form (bound_items binds ++ term_items body) (terms.Let b.terms t) (Term-F.Let b.terms t)
      (out_let b.terms t)
      (joined b.terms (t ∷ []) (bound_items binds) (term_items body)
      (binds_named (binds_of binds) parts v [])
      (one t (term_items body) (h b.variables)))

  cases_form : (v : Variables) (value : TermTree) (cs : List CaseTree) → Called value
      → AllByRecursion (OfCase Called) cs
      → Name (called_in ((checked scope value v).term
      ∷ case_terms (map case_of (cases_at scope v cs)))) (term_items value ++ cases_of cs)
  cases_form v value cs h parts =
      let t = (checked scope value v).term in
      let ts = case_terms (map case_of (cases_at scope v cs)) in
      both (functions_called t) (called_in ts) (term_items value) (cases_of cs) (h v)
      (moved (called_in ts) (called_in (both_terms (cases_at scope v cs))) (cases_of cs)
      (ap called_in (cases_are (cases_at scope v cs))) (cases_named cs parts v))

  switch_form : (v : Variables) (value : TermTree) (cs : List CaseTree)
      (other_ : Option TermTree) (span : Span) → Called value → AllByRecursion (OfCase Called) cs
      → AllByRecursion Called (optional other_) → At v (TermTree-F.Switch value cs other_ span)
  unfolding maybe_term
  switch_form v value cs None span h parts rest =
      let t = (checked scope value v).term in
      let all = map case_of (cases_at scope v cs) in
      by_form (term_items value ++ cases_of cs ++ []) (terms.Switch t all None)
      (Term-F.Switch t all None) (out_switch t all None)
      (joined (t ∷ case_terms all) [] (term_items value ++ cases_of cs) []
      (cases_form v value cs h parts) (none []))
  switch_form v value cs (Some last) span h parts rest =
      let t = (checked scope value v).term in
      let u = (checked scope last v).term in
      let all = map case_of (cases_at scope v cs) in
      by_form (term_items value ++ cases_of cs ++ term_items last) (terms.Switch t all (Some u))
      (Term-F.Switch t all (Some u)) (out_switch t all (Some u))
      (joined (t ∷ case_terms all) (u ∷ []) (term_items value ++ cases_of cs) (term_items last)
      (cases_form v value cs h parts) (one u (term_items last) (rest.0 v)))

  -- ---- trees

  by_tree : (v : Variables) (t : TermTree) (a : Form) → out-TermTree t ≡ a → At v a
      → Name (functions_called (checked scope t v).term) (term_items t)
  by_tree v t a e h =
      subst (λ items. Name (functions_called (checked scope t v).term) items)
      (sym (term_items-out t ∙ ap term_form e))
      (moved (functions_called (checked scope t v).term)
      (functions_called (check_level scope (told scope a) v).term) (term_form a)
      (ap (λ m. functions_called (m v).term) (checked-out scope t a e)) h)

  at_form : (v : Variables) (a : Form) → OfParts Called a → At v a
  at_form v (TermTree-F.Prefix op t span) h =
      operator op (checked scope t v ∷ []) span (term_items t)
      (one (checked scope t v).term (term_items t) (h v))
  at_form v (TermTree-F.Binary l op r span) h =
      binary (bytes_eq op (codes "and")) (bytes_eq op (codes "or")) (bytes_eq op (codes "implies"))
      op (checked scope l v) (checked scope r v) span (term_items l ++ term_items r)
      (two (checked scope l v).term (checked scope r v).term (term_items l) (term_items r)
      (h.0 v) (h.1 v))
  at_form v (TermTree-F.Number t span) h = constant _ []
  at_form v (TermTree-F.Chars t span) h = constant (values.Chars (text_of t)) []
  at_form v (TermTree-F.True span) h = constant (values.Truth true) []
  at_form v (TermTree-F.False span) h = constant (values.Truth false) []
  at_form v (TermTree-F.Undef span) h = constant values.Undef []
  at_form v (TermTree-F.Var t span) h = variable t span _ []
  at_form v (TermTree-F.Name t args span) h = name_form v t args span h
  at_form v (TermTree-F.Tuple ts span) h = tuple_form v ts span h
  at_form v (TermTree-F.Forall ranges body span) h = forall_form v ranges body span h
  at_form v (TermTree-F.Exist unique ranges body span) h =
      exist_form v unique ranges body span h
  at_form v (TermTree-F.Interval from to span) h = interval_form v from to span h.0 h.1
  at_form v (TermTree-F.Set items span) h = set_form v items span h
  at_form v (TermTree-F.Seq items span) h = seq_form v items span h
  at_form v (TermTree-F.If guard first other_ span) h = if_form v guard first other_ span h.0 h.1 h.2
  at_form v (TermTree-F.Let binds body span) h = let_form v binds body span h.0 h.1
  at_form v (TermTree-F.Switch t cs other_ span) h = switch_form v t cs other_ span h.0 h.1 h.2

  -- each function that the checked term calls is named in the tree
  pub term_named : (t : TermTree) → Called t
  term_named = by_parts Called (λ t a e h v. by_tree v t a e (at_form v a h))
