-- A term of which nothing is refused has the type that the checker tells.
use Rattle.std.proofs.Common.{◌≡◌, ℕ, ◌≤◌, Bool, true, false, not, ◌&&◌, ◌||◌, if◌then◌else◌}
use Rattle.std.proofs.Common.{Option, Some, None, is_some, List, [], ◌∷◌, ◌++◌, map, length}
use Rattle.std.proofs.Common.{slice_get, codes, refl, sym, ap, subst, ◌∙◌, arith}
use Rattle.std.specs.Prelude.{nat_lt}
use Rattle.std.specs.Option.{option_map_or}
use Rattle.std.specs.List.{AllByRecursion}
use Rattle.std.specs.Str.{bytes_eq}
use Rattle.std.proofs.lemmas.Bool.{true≢false}
use Rattle.std.proofs.lemmas.Bool.Decides.{nat_tests}
use Rattle.asm_value.specs.declared.domain.Domain.TheViews.{out-Domain}
use Rattle.asm_value.specs.declared.value.Value.TheVariants as values
use Rattle.asm_value.specs.Enumerable.{size}
use Rattle.asm_syntax.specs.declared.token.Span.{Span}
use Rattle.asm_syntax.specs.declared.token.Token.{Token}
use Rattle.asm_syntax.specs.declared.tree.RangeTree.{RangeTree}
use Rattle.asm_syntax.specs.declared.tree.RangesTree.{RangesTree}
use Rattle.asm_syntax.specs.declared.tree.BindTree.{BindTree}
use Rattle.asm_syntax.specs.declared.tree.BindsTree.{BindsTree}
use Rattle.asm_syntax.specs.declared.tree.CaseTree.{CaseTree}
use Rattle.asm_syntax.specs.declared.tree.TermsTree.{TermsTree}
use Rattle.asm_syntax.specs.declared.tree.TermTree.{TermTree}
use Rattle.asm_syntax.specs.declared.tree.TermTree.TheOpen.{TermTree-F}
use Rattle.asm_syntax.specs.declared.tree.TermTree.TheViews.{out-TermTree, out-CaseTree}
use Rattle.asm_syntax.specs.Extents.{domain_extent}
use Rattle.asm_syntax.specs.Marks.{text_of}
use Rattle.asm_typing.specs.declared.types.Type.{«Type» as TermType}
use Rattle.asm_typing.specs.declared.types.Type.TheVariants as type
use Rattle.asm_typing.specs.declared.operators.Operator.{Operator}
use Rattle.asm_typing.specs.Joins.{join_all}
use Rattle.asm_typing.specs.Operators.{operator_type, is_operator}
use Rattle.asm_program.specs.declared.named.Named.{Named}
use Rattle.asm_program.specs.declared.named.Named.TheVariants as named
use Rattle.asm_program.specs.declared.trees.Term.{Term}
use Rattle.asm_program.specs.declared.trees.Term.TheVariants as terms
use Rattle.asm_program.specs.declared.type_refusal.TypeRefusal.{TypeRefusal}
use Rattle.asm_program.specs.declared.type_refusal.TypeRefusal.TheVariants.{Mismatch, Limit}
use Rattle.asm_program.specs.declared.type_refusal.Limited.TheVariants.{Chars}
use Rattle.asm_program.specs.Forms.{optional}
use Rattle.asm_program.specs.Items.{bind_of, binds_of, listed_terms, terms_of, list_of_ranges}
use Rattle.asm_program.specs.Signatures.{Header, find, range_domain}
use Rattle.asm_program.specs.TypedTerms.{Scope, Variables, Checked, variable_at}
use Rattle.asm_program.specs.TypedTerms.{with_variable, innumerable, range_refused, ranges_refused}
use Rattle.asm_program.specs.TypedTerms.{all_refused, types, at, is_truth, is_int}
use Rattle.asm_program.specs.TypedTerms.{truth_refused, type_or, operator_checked, connected}
use Rattle.asm_program.specs.TypedTerms.{args_fit, call_refused, function_checked}
use Rattle.asm_program.specs.TypedTerms.{named_checked}
use Rattle.asm_program.specs.TypedTerms.{variable_checked, chars_checked, items_checked, unknown}
use Rattle.asm_program.specs.TypedTerms.{interval_checked}
use Rattle.asm_program.specs.TypedTerms.{bound, case_refused, join_with}
use Rattle.asm_program.specs.TypedTerms.{both_at, check_level, checked}
use Rattle.asm_program.specs.TypedTerms.{or_else, unless}
use Rattle.asm_program.specs.TypingLaws.{IsWhole}
use Rattle.asm_program.specs.HasType as has
use Rattle.asm_program.specs.HasType.{HasType, HaveTypes, Bind, CasesHaveTypes, IsTruth, FitEach}
use Rattle.asm_program.specs.HasType.{is_connective, has_value, AreEnumerable, IsEnumerable, within}
use Rattle.asm_program.proofs.Refusals.{not_nil, both_nil, else_nil, unless_nil, both_true, some_of}
use Rattle.asm_program.proofs.Refusals.{fit_each, have_joins, map_types, some_or_none}
use Rattle.asm_program.proofs.TermTreeParts.{Form, OfParts, OfBind, OfCase, by_parts, bind_typing}
use Rattle.asm_program.proofs.TermTreeParts.{case_typing, told, checked-out}
use Rattle.asm_program.proofs.InScope.{in_scope}

module _ (scope : Scope) where
  -- where nothing is refused of the term, it has the type that the checker tells
  abbrev pub Found : TermTree → Type 0
  Found t = (variables : Variables) → (checked scope t variables).refused ≡ []
      → HasType scope variables t (checked scope t variables).type

  abbrev pub all_at : Variables → List TermTree → List Checked
  all_at variables ts = at variables (map (checked scope) ts)

  -- ---- several terms

  pub all_found : (ts : List TermTree) → AllByRecursion Found ts → (variables : Variables)
      → all_refused (all_at variables ts) ≡ []
      → HaveTypes scope variables ts (types (all_at variables ts))
  all_found [] parts variables h = has.no_term
  all_found (t ∷ ts) parts variables h =
      let both = both_nil (checked scope t variables).refused
      (all_refused (all_at variables ts)) h in
      has.one_term (parts.0 variables both.0) (all_found ts parts.1 variables both.1)

  pub bind_found : (bs : List BindTree) → AllByRecursion (OfBind Found) bs
      → (variables : Variables)
      → (bound variables (map (bind_typing scope) bs)).refused ≡ []
      → Bind scope variables bs (bound variables (map (bind_typing scope) bs)).variables
  bind_found [] parts variables h = has.no_bind
  bind_found (b ∷ bs) parts variables h =
      let c = checked scope (bind_of b).1 variables in
      let inner = with_variable variables (bind_of b).0 c.type in
      let both = both_nil c.refused (bound inner (map (bind_typing scope) bs)).refused h in
      has.one_bind (parts.0 variables both.0) (bind_found bs parts.1 inner both.1)

  abbrev pub cases_at : Variables → List CaseTree → List (Checked × Checked)
  cases_at variables cs = both_at variables (map (case_typing scope) cs)

  cases_found : (cs : List CaseTree) → AllByRecursion (OfCase Found) cs
      → (variables : Variables)
      → case_refused (cases_at variables cs) ≡ []
      → CasesHaveTypes scope variables cs (map (λ c. c.0.type) (cases_at variables cs))
      (map (λ c. c.1.type) (cases_at variables cs))
  cases_found [] parts variables h = has.no_case
  cases_found (c ∷ cs) parts variables h =
      let value = checked scope (out-CaseTree c).value variables in
      let term = checked scope (out-CaseTree c).term variables in
      let rest = both_nil (value.refused ++ term.refused)
      (case_refused (cases_at variables cs)) h in
      let both = both_nil value.refused term.refused rest.0 in
      has.one_case (parts.0.0 variables both.0) (parts.0.1 variables both.1)
      (cases_found cs parts.1 variables rest.1)

  enumerable : (rs : List RangeTree) → ranges_refused scope rs ≡ []
      → AllByRecursion (IsEnumerable scope) rs
  enumerable [] h = tt
  enumerable (r ∷ rs) h =
      let both = both_nil (range_refused scope r) (ranges_refused scope rs) h in
      let d = range_domain scope.names r in (
        some_of (size scope.domains d) (unless_nil (is_some (size scope.domains d))
            (innumerable scope.domains (domain_extent r.domain) (out-Domain d)) both.0),
        enumerable rs both.1,
      )

  pub enumerables : (ranges : RangesTree) → ranges_refused scope (list_of_ranges ranges) ≡ []
      → AreEnumerable scope ranges
  enumerables ranges h = enumerable (list_of_ranges ranges) h

  pub truth_found : (c : Checked) → truth_refused c ≡ [] → IsTruth c.type
  truth_found c h = unless_nil (is_truth c.type) (Mismatch c.span) h

  -- ---- operators

  record OperatorFound (name : List ℕ) (args : List Checked) (span : Span) : Type 0 where
    pub parts : all_refused args ≡ []
    pub operator : Operator
    pub is : operator_type name (types args) ≡ Some operator
    pub type : operator.result ≡ (operator_checked name args span).type

  operator_found : (name : List ℕ) (args : List Checked) (span : Span)
      → (operator_checked name args span).refused ≡ [] → OperatorFound name args span
  operator_found name args span h =
      let o = operator_type name (types args) in
      let both = else_nil (all_refused args) (unless (is_some o) (Mismatch span)) h in
      let some = some_of o (unless_nil (is_some o) (Mismatch span) both.1) in
      record {
        parts = both.0;
        operator = some.0;
        is = some.1;
        type = sym (ap (λ q. option_map_or (λ z. z.result) q type.Untyped) some.1);
      }

  typed : (variables : Variables) (t : TermTree) (s u : TermType) → s ≡ u
      → HasType scope variables t s → HasType scope variables t u
  typed variables t s u e h = subst (HasType scope variables t) e h

  prefix_found : (variables : Variables) (t operand : TermTree) (op : List ℕ) (span : Span)
      → out-TermTree t ≡ TermTree-F.Prefix op operand span → Found operand
      → (operator_checked op (checked scope operand variables ∷ []) span).refused ≡ []
      → HasType scope variables t
      (operator_checked op (checked scope operand variables ∷ []) span).type
  prefix_found variables t operand op span is part h =
      let c = checked scope operand variables in
      let found = operator_found op (c ∷ []) span h in
      typed variables t found.operator.result (operator_checked op (c ∷ []) span).type found.type
      (has.Prefix is (part variables (both_nil c.refused [] found.parts).0) found.is)

  connected_found : (variables : Variables) (t left right : TermTree) (op : List ℕ) (span : Span)
      (form : Term → Term → Term)
      → out-TermTree t ≡ TermTree-F.Binary left op right span → Found left → Found right
      → is_connective op ≡ true
      → (connected form (checked scope left variables) (checked scope right variables) span).refused
      ≡ []
      → HasType scope variables t type.Truth
  connected_found variables t left right op span form is first second word h =
      let l = checked scope left variables in
      let r = checked scope right variables in
      let whole = else_nil (l.refused ++ r.refused) (truth_refused l ++ truth_refused r) h in
      let parts = both_nil l.refused r.refused whole.0 in
      let own = both_nil (truth_refused l) (truth_refused r) whole.1 in
      has.Connective is word (first variables parts.0) (second variables parts.1)
      (truth_found l own.0) (truth_found r own.1)

  operation_found : (variables : Variables) (t left right : TermTree) (op : List ℕ) (span : Span)
      → out-TermTree t ≡ TermTree-F.Binary left op right span → Found left → Found right
      → is_connective op ≡ false
      → (operator_checked op (checked scope left variables ∷ checked scope right variables ∷ [])
      span).refused ≡ []
      → HasType scope variables t (operator_checked op
      (checked scope left variables ∷ checked scope right variables ∷ []) span).type
  operation_found variables t left right op span is first second word h =
      let l = checked scope left variables in
      let r = checked scope right variables in
      let found = operator_found op (l ∷ r ∷ []) span h in
      let parts = both_nil l.refused (r.refused ++ []) found.parts in
      typed variables t found.operator.result (operator_checked op (l ∷ r ∷ []) span).type
      found.type
      (has.Binary is word (first variables parts.0)
      (second variables (both_nil r.refused [] parts.1).0) found.is)

  abbrev pub by_word : Bool → Bool → Bool → List ℕ → Checked → Checked → Span → Checked
  by_word a b c op left right span =
      if a then connected terms.And left right span
      else (if b then connected terms.Or left right span
      else (if c then connected terms.Implies left right span
      else operator_checked op (left ∷ right ∷ []) span))

  binary_found : (variables : Variables) (t left right : TermTree) (op : List ℕ) (span : Span)
      (a b c : Bool) → is_connective op ≡ (a || b || c)
      → out-TermTree t ≡ TermTree-F.Binary left op right span → Found left → Found right
      → (by_word a b c op (checked scope left variables) (checked scope right variables)
      span).refused ≡ []
      → HasType scope variables t (by_word a b c op (checked scope left variables)
      (checked scope right variables) span).type
  binary_found variables t left right op span true b c word is first second h =
      connected_found variables t left right op span terms.And is first second word h
  binary_found variables t left right op span false true c word is first second h =
      connected_found variables t left right op span terms.Or is first second word h
  binary_found variables t left right op span false false true word is first second h =
      connected_found variables t left right op span terms.Implies is first second word h
  binary_found variables t left right op span false false false word is first second h =
      operation_found variables t left right op span is first second word h

  -- ---- names

  no_args : (ts : List TermTree) (variables : Variables)
      → args_fit (types (all_at variables ts)) [] ≡ true → ts ≡ []
  no_args [] variables h = refl
  no_args (t ∷ ts) variables h = absurd (true≢false (sym h))

  function_found : IsWhole scope → (variables : Variables) (t : TermTree) (name : Token)
      (args : Option TermsTree) (span : Span) (f : ℕ) (o : Option Header)
      → slice_get scope.functions f ≡ o → find scope.names (text_of name) ≡ Some (named.Function f)
      → out-TermTree t ≡ TermTree-F.Name name args span → AllByRecursion Found (terms_of args)
      → (function_checked scope f o (all_at variables (terms_of args)) span).refused ≡ []
      → HasType scope variables t
      (function_checked scope f o (all_at variables (terms_of args)) span).type
  function_found whole variables t name args span f None at names is parts h =
      let some = whole.functions (text_of name) f names in
      some_or_none (slice_get scope.functions f) some.0 at some.1
  function_found whole variables t name args span f (Some header) at names is parts h =
      let cs = all_at variables (terms_of args) in
      let both = else_nil (all_refused cs) (unless (args_fit (types cs) header.args)
      (Mismatch span)) h in
      has.Function is (f, names, at) (all_found (terms_of args) parts variables both.0)
      (fit_each (types cs) header.args
      (unless_nil (args_fit (types cs) header.args) (Mismatch span) both.1))

  literal_found : (variables : Variables) (t : TermTree) (name : Token) (args : Option TermsTree)
      (span : Span) (d i : ℕ) → find scope.names (text_of name) ≡ Some (named.Literal d i)
      → out-TermTree t ≡ TermTree-F.Name name args span
      → call_refused (all_at variables (terms_of args)) [] span ≡ []
      → HasType scope variables t (type.Enum d)
  literal_found variables t name args span d i names is h =
      let cs = all_at variables (terms_of args) in
      let both = else_nil (all_refused cs) (unless (args_fit (types cs) []) (Mismatch span)) h in
      has.Literal is (i, names) (no_args (terms_of args) variables
      (unless_nil (args_fit (types cs) []) (Mismatch span) both.1))

  abbrev pub by_operator : Bool → Token → List Checked → Span → Checked
  by_operator b name args span =
      if b then operator_checked (text_of name) args span
      else record {
        refused = unknown name ∷ all_refused args;
        type = type.Untyped;
        term = terms.Constant values.Undef;
        span = span;
      }

  other_found : (variables : Variables) (t : TermTree) (name : Token) (args : Option TermsTree)
      (span : Span) (b : Bool) → is_operator (text_of name) ≡ b
      → has_value (find scope.names (text_of name)) ≡ false
      → out-TermTree t ≡ TermTree-F.Name name args span → AllByRecursion Found (terms_of args)
      → (by_operator b name (all_at variables (terms_of args)) span).refused ≡ []
      → HasType scope variables t (by_operator b name (all_at variables (terms_of args)) span).type
  other_found variables t name args span true word free is parts h =
      let cs = all_at variables (terms_of args) in
      let found = operator_found (text_of name) cs span h in
      typed variables t found.operator.result (operator_checked (text_of name) cs span).type
      found.type
      (has.Operation is (record { free = free; operator = word })
      (all_found (terms_of args) parts variables found.parts) found.is)
  other_found variables t name args span false word free is parts h =
      not_nil (unknown name) (all_refused (all_at variables (terms_of args))) h

  named_found : IsWhole scope → (variables : Variables) (t : TermTree) (name : Token)
      (args : Option TermsTree) (span : Span) (n : Option Named)
      → find scope.names (text_of name) ≡ n
      → out-TermTree t ≡ TermTree-F.Name name args span → AllByRecursion Found (terms_of args)
      → (named_checked scope n name (all_at variables (terms_of args)) span).refused ≡ []
      → HasType scope variables t
      (named_checked scope n name (all_at variables (terms_of args)) span).type
  named_found whole variables t name args span (Some (named.Function f)) names is parts h =
      function_found whole variables t name args span f (slice_get scope.functions f) refl names
      is parts h
  named_found whole variables t name args span (Some (named.Literal d i)) names is parts h =
      literal_found variables t name args span d i names is h
  named_found whole variables t name args span None names is parts h =
      other_found variables t name args span (is_operator (text_of name)) refl
      (ap has_value names) is parts h
  named_found whole variables t name args span (Some (named.Enum d)) names is parts h =
      other_found variables t name args span (is_operator (text_of name)) refl
      (ap has_value names) is parts h
  named_found whole variables t name args span (Some (named.Abstract d)) names is parts h =
      other_found variables t name args span (is_operator (text_of name)) refl
      (ap has_value names) is parts h
  named_found whole variables t name args span (Some (named.Subset d)) names is parts h =
      other_found variables t name args span (is_operator (text_of name)) refl
      (ap has_value names) is parts h
  named_found whole variables t name args span (Some (named.Macro m)) names is parts h =
      other_found variables t name args span (is_operator (text_of name)) refl
      (ap has_value names) is parts h
  named_found whole variables t name args span (Some named.Main) names is parts h =
      other_found variables t name args span (is_operator (text_of name)) refl
      (ap has_value names) is parts h

  -- ---- the other forms

  chars_found : (variables : Variables) (t : TermTree) (chars : Token) (span : Span)
      → out-TermTree t ≡ TermTree-F.Chars chars span
      → (chars_checked chars span).refused ≡ []
      → HasType scope variables t type.Chars
  chars_found variables t chars span is h =
      let test = unless_nil (not (nat_lt 1024 (length (text_of chars))))
      (Limit Chars (length (text_of chars)) chars.span) h in
      has.Chars is (short (length (text_of chars)) test)
    where
      short : (n : ℕ) → not (nat_lt 1024 n) ≡ true → n ≤ 1024
      short n h = grind (arith, nat_tests, h)

  variable_found : (variables : Variables) (t : TermTree) (name : Token) (span : Span)
      (o : Option (ℕ × TermType)) → variable_at variables (text_of name) ≡ o
      → out-TermTree t ≡ TermTree-F.Var name span
      → (variable_checked name span o).refused ≡ []
      → HasType scope variables t (variable_checked name span o).type
  variable_found variables t name span None at is h = not_nil (unknown name) [] h
  variable_found variables t name span (Some found) at is h =
      has.Var is (in_scope variables (text_of name) found at)

  joined : (o : Option TermType) → is_some o ≡ true → o ≡ Some (type_or o)
  joined (Some u) h = refl
  joined None h = absurd (true≢false (sym h))

  join_found : (ts : List TermType) (r : TypeRefusal) → unless (is_some (join_all ts)) r ≡ []
      → join_all ts ≡ Some (type_or (join_all ts))
  join_found ts r h = joined (join_all ts) (unless_nil (is_some (join_all ts)) r h)

  set_found : (variables : Variables) (t : TermTree) (items : Option TermsTree) (span : Span)
      → out-TermTree t ≡ TermTree-F.Set items span → AllByRecursion Found (terms_of items)
      → (items_checked type.Set terms.Set (all_at variables (terms_of items)) span).refused ≡ []
      → HasType scope variables t
      (items_checked type.Set terms.Set (all_at variables (terms_of items)) span).type
  set_found variables t items span is parts h =
      let cs = all_at variables (terms_of items) in
      let both = else_nil (all_refused cs) (unless (is_some (join_all (types cs))) (Mismatch span))
      h in
      has.Set is (all_found (terms_of items) parts variables both.0)
      (join_found (types cs) (Mismatch span) both.1)

  seq_found : (variables : Variables) (t : TermTree) (items : Option TermsTree) (span : Span)
      → out-TermTree t ≡ TermTree-F.Seq items span → AllByRecursion Found (terms_of items)
      → (items_checked type.Seq terms.Seq (all_at variables (terms_of items)) span).refused ≡ []
      → HasType scope variables t
      (items_checked type.Seq terms.Seq (all_at variables (terms_of items)) span).type
  seq_found variables t items span is parts h =
      let cs = all_at variables (terms_of items) in
      let both = else_nil (all_refused cs) (unless (is_some (join_all (types cs))) (Mismatch span))
      h in
      has.Seq is (all_found (terms_of items) parts variables both.0)
      (join_found (types cs) (Mismatch span) both.1)

  interval_found : (variables : Variables) (t from to : TermTree) (span : Span)
      → out-TermTree t ≡ TermTree-F.Interval from to span → Found from → Found to
      → (interval_checked (checked scope from variables) (checked scope to variables) span).refused
      ≡ []
      → HasType scope variables t (type.Set type.Int)
  interval_found variables t from to span is first second h =
      let f = checked scope from variables in
      let l = checked scope to variables in
      let whole = else_nil (f.refused ++ l.refused)
      (unless (is_int f.type && is_int l.type) (Mismatch span)) h in
      let parts = both_nil f.refused l.refused whole.0 in
      let ints = both_true (is_int f.type) (is_int l.type)
      (unless_nil (is_int f.type && is_int l.type) (Mismatch span) whole.1) in
      has.Interval is (first variables parts.0) (second variables parts.1) ints.0 ints.1

  record QuantifiedFound (variables : Variables) (ranges : RangesTree) (body : TermTree) : Type 0
    where
      pub enumerable : AreEnumerable scope ranges
      pub body_has : HasType scope (within scope variables ranges) body
          (checked scope body (within scope variables ranges)).type
      pub truth : IsTruth (checked scope body (within scope variables ranges)).type

  quantified_found : (variables : Variables) (ranges : RangesTree) (body : TermTree) → Found body
      → or_else (ranges_refused scope (list_of_ranges ranges)
      ++ (checked scope body (within scope variables ranges)).refused)
      (truth_refused (checked scope body (within scope variables ranges))) ≡ []
      → QuantifiedFound variables ranges body
  quantified_found variables ranges body part h =
      let inner = within scope variables ranges in
      let c = checked scope body inner in
      let refused = ranges_refused scope (list_of_ranges ranges) in
      let whole = else_nil (refused ++ c.refused) (truth_refused c) h in
      let parts = both_nil refused c.refused whole.0 in
      record {
        enumerable = enumerables ranges parts.0;
        body_has = part inner parts.1;
        truth = truth_found c whole.1;
      }

  if_found : (variables : Variables) (t guard first : TermTree) (other : Option TermTree)
      (span : Span)
      → out-TermTree t ≡ TermTree-F.If guard first other span
      → Found guard → AllByRecursion Found (first ∷ optional other)
      → or_else ((checked scope guard variables).refused
      ++ all_refused (all_at variables (first ∷ optional other)))
      (unless (is_some (join_all (types (all_at variables (first ∷ optional other)))))
      (Mismatch span) ++ truth_refused (checked scope guard variables)) ≡ []
      → HasType scope variables t
      (type_or (join_all (types (all_at variables (first ∷ optional other)))))
  if_found variables t guard first other span is part parts h =
      let g = checked scope guard variables in
      let cs = all_at variables (first ∷ optional other) in
      let joins = unless (is_some (join_all (types cs))) (Mismatch span) in
      let whole = else_nil (g.refused ++ all_refused cs) (joins ++ truth_refused g) h in
      let all = both_nil g.refused (all_refused cs) whole.0 in
      let own = both_nil joins (truth_refused g) whole.1 in
      has.If is (part variables all.0) (all_found (first ∷ optional other) parts variables all.1)
      (truth_found g own.1) (join_found (types cs) (Mismatch span) own.0)

  let_found : (variables : Variables) (t body : TermTree) (binds : BindsTree) (span : Span)
      → out-TermTree t ≡ TermTree-F.Let binds body span
      → AllByRecursion (OfBind Found) (binds_of binds) → Found body
      → (bound variables (map (bind_typing scope) (binds_of binds))).refused
      ++ (checked scope body
      (bound variables (map (bind_typing scope) (binds_of binds))).variables).refused ≡ []
      → HasType scope variables t (checked scope body
      (bound variables (map (bind_typing scope) (binds_of binds))).variables).type
  let_found variables t body binds span is parts part h =
      let b = bound variables (map (bind_typing scope) (binds_of binds)) in
      let both = both_nil b.refused (checked scope body b.variables).refused h in
      has.Let is (bind_found (binds_of binds) parts variables both.0) (part b.variables both.1)

  switch_found : (variables : Variables) (t value : TermTree) (cases : List CaseTree)
      (other : Option TermTree) (span : Span)
      → out-TermTree t ≡ TermTree-F.Switch value cases other span
      → Found value → AllByRecursion (OfCase Found) cases → AllByRecursion Found (optional other)
      → (os : List Checked) → os ≡ all_at variables (optional other)
      → or_else ((checked scope value variables).refused
      ++ case_refused (cases_at variables cases) ++ all_refused os)
      (unless (join_with (checked scope value variables).type
      (map (λ c. c.0.type) (cases_at variables cases))
      && is_some (join_all (types (map (λ c. c.1) (cases_at variables cases) ++ os))))
      (Mismatch span)) ≡ []
      → HasType scope variables t
      (type_or (join_all (types (map (λ c. c.1) (cases_at variables cases) ++ os))))
  switch_found variables t value cases other span is part parts rest os same h =
      let v = checked scope value variables in
      let cs = cases_at variables cases in
      let ts = types (map (λ c. c.1) cs ++ os) in
      let joins = join_with v.type (map (λ c. c.0.type) cs) in
      let whole = else_nil (v.refused ++ case_refused cs ++ all_refused os)
      (unless (joins && is_some (join_all ts)) (Mismatch span)) h in
      let all = both_nil (v.refused ++ case_refused cs) (all_refused os) whole.0 in
      let both = both_nil v.refused (case_refused cs) all.0 in
      let own = both_true joins (is_some (join_all ts))
      (unless_nil (joins && is_some (join_all ts)) (Mismatch span) whole.1) in
      has.Switch is (part variables both.0) (cases_found cases parts variables both.1)
      (subst (λ z. HaveTypes scope variables (optional other) (types z)) (sym same)
      (all_found (optional other) rest variables (ap all_refused (sym same) ∙ all.1)))
      (have_joins v.type (map (λ c. c.0.type) cs) own.0)
      (ap join_all (map_types cs os) ∙ joined (join_all ts) own.1)

  -- ---- each form

  at_form : IsWhole scope → (t : TermTree) (a : Form) → out-TermTree t ≡ a → OfParts Found a
      → (variables : Variables) → (check_level scope (told scope a) variables).refused ≡ []
      → HasType scope variables t (check_level scope (told scope a) variables).type
  at_form whole t (TermTree-F.Prefix op operand span) is part variables h =
      prefix_found variables t operand op span is part h
  at_form whole t (TermTree-F.Binary left op right span) is parts variables h =
      binary_found variables t left right op span (bytes_eq op (codes "and"))
      (bytes_eq op (codes "or")) (bytes_eq op (codes "implies")) refl is parts.0 parts.1 h
  at_form whole t (TermTree-F.Number number span) is part variables h = has.Number is
  at_form whole t (TermTree-F.Chars chars span) is part variables h =
      chars_found variables t chars span is h
  at_form whole t (TermTree-F.True span) is part variables h = has.True is
  at_form whole t (TermTree-F.False span) is part variables h = has.False is
  at_form whole t (TermTree-F.Undef span) is part variables h = has.Undef is
  at_form whole t (TermTree-F.Var name span) is part variables h =
      variable_found variables t name span (variable_at variables (text_of name)) refl is h
  at_form whole t (TermTree-F.Name name None span) is parts variables h =
      named_found whole variables t name None span (find scope.names (text_of name)) refl is parts h
  at_form whole t (TermTree-F.Name name (Some args) span) is parts variables h =
      named_found whole variables t name (Some args) span (find scope.names (text_of name)) refl
      is parts h
  at_form whole t (TermTree-F.Tuple items span) is parts variables h =
      has.Tuple is (all_found (listed_terms items) parts variables h)
  at_form whole t (TermTree-F.Forall ranges body span) is part variables h =
      let found = quantified_found variables ranges body part h in
      has.Forall is found.enumerable found.body_has found.truth
  at_form whole t (TermTree-F.Exist unique ranges body span) is part variables h =
      let found = quantified_found variables ranges body part h in
      has.Exist is found.enumerable found.body_has found.truth
  at_form whole t (TermTree-F.Interval from to span) is parts variables h =
      interval_found variables t from to span is parts.0 parts.1 h
  at_form whole t (TermTree-F.Set None span) is parts variables h =
      set_found variables t None span is parts h
  at_form whole t (TermTree-F.Set (Some items) span) is parts variables h =
      set_found variables t (Some items) span is parts h
  at_form whole t (TermTree-F.Seq None span) is parts variables h =
      seq_found variables t None span is parts h
  at_form whole t (TermTree-F.Seq (Some items) span) is parts variables h =
      seq_found variables t (Some items) span is parts h
  at_form whole t (TermTree-F.If guard first None span) is parts variables h =
      if_found variables t guard first None span is parts.0 (parts.1, parts.2) h
  at_form whole t (TermTree-F.If guard first (Some other) span) is parts variables h =
      if_found variables t guard first (Some other) span is parts.0 (parts.1, parts.2) h
  at_form whole t (TermTree-F.Let binds body span) is parts variables h =
      let_found variables t body binds span is parts.0 parts.1 h
  at_form whole t (TermTree-F.Switch value cases None span) is parts variables h =
      switch_found variables t value cases None span is parts.0 parts.1 parts.2 [] refl h
  at_form whole t (TermTree-F.Switch value cases (Some other) span) is parts variables h =
      switch_found variables t value cases (Some other) span is parts.0 parts.1 parts.2
      (checked scope other variables ∷ []) refl h

  pub found : IsWhole scope → (t : TermTree) → Found t
  found whole = by_parts Found (λ t a is parts variables h.
      subst (λ m. HasType scope variables t (m variables).type) (sym (checked-out scope t a is))
      (at_form whole t a is parts variables
      (ap (λ m. (m variables).refused) (sym (checked-out scope t a is)) ∙ h)))
