-- A checked term is sorted: its constants are literals and constants of the text's domains, or have
-- no members.
use Rattle.std.proofs.Common.{◌≡◌, ℕ, Bool, true, false, ◌&&◌, if◌then◌else◌, Option, Some, None}
use Rattle.std.proofs.Common.{List, [], ◌∷◌, ◌++◌, map, take, slice_get, count_by, codes, refl}
use Rattle.std.proofs.Common.{sym, ap, subst, ◌∙◌, rules, ℤ}
use Rattle.std.specs.List.{AllByRecursion, list_all}
use Rattle.std.specs.Str.{bytes_eq}
use Rattle.std.proofs.lemmas.List.Folds.{list_all-map, list_all-append}
use Rattle.asm_value.specs.declared.value.Value.{Value}
use Rattle.asm_value.specs.declared.value.Value.TheOpen.{Value-F}
use Rattle.asm_value.specs.declared.value.Value.TheFolds.{fold-Value, fold_out-Value, map-Value}
use Rattle.asm_value.specs.declared.value.Value.TheVariants as values
use Rattle.asm_value.specs.declared.value.Value.TheViews as value_views
use Rattle.asm_value.specs.declared.value.Value.TheViews.{out-Value}
use Rattle.asm_value.specs.declared.domain.Domain.{Domain}
use Rattle.asm_value.specs.declared.domain.DomainInfo.{DomainInfo}
use Rattle.asm_syntax.specs.declared.token.Span.{Span}
use Rattle.asm_syntax.specs.declared.token.Token.{Token}
use Rattle.asm_syntax.specs.declared.tree.BindTree.{BindTree}
use Rattle.asm_syntax.specs.declared.tree.CaseTree.{CaseTree}
use Rattle.asm_syntax.specs.declared.tree.TermTree.{TermTree}
use Rattle.asm_syntax.specs.declared.tree.TermTree.TheOpen.{TermTree-F}
use Rattle.asm_syntax.specs.declared.tree.TermTree.TheViews.{out-CaseTree}
use Rattle.asm_syntax.specs.Marks.{text_of}
use Rattle.asm_tables.specs.declared.rows.Operation.{Operation}
use Rattle.asm_typing.specs.declared.types.Type.{«Type» as TermType}
use Rattle.asm_typing.specs.declared.types.Type.TheVariants as type
use Rattle.asm_typing.specs.Operators.{operator_type, is_operator}
use Rattle.asm_program.specs.declared.named.Named.{Named}
use Rattle.asm_program.specs.declared.named.Named.TheVariants as named
use Rattle.asm_program.specs.declared.program.FunctionKind.{FunctionKind}
use Rattle.asm_program.specs.declared.program.FunctionKind.TheVariants as kinds
use Rattle.asm_program.specs.declared.trees.Term.{Term}
use Rattle.asm_program.specs.declared.trees.Case.{Case}
use Rattle.asm_program.specs.declared.trees.Term.TheOpen.{Term-F, Case-F}
use Rattle.asm_program.specs.declared.trees.Term.TheVariants as terms
use Rattle.asm_program.specs.declared.trees.Term.TheViews.{out-Term, out-Case, roll-Case}
use Rattle.asm_program.specs.declared.trees.Term.TheViews.{the_lemmas}
use Rattle.asm_program.specs.CallLaws.{of_case, mapped, of_term-out, of_case-out}
use Rattle.asm_program.specs.Forms.{optional, of_cases}
use Rattle.asm_program.specs.FormViews.{out-Operator, out-And, out-Or, out-Implies, out-Constant}
use Rattle.asm_program.specs.FormViews.{out-Variable, out-Read, out-Call, out-Tuple, out-Forall}
use Rattle.asm_program.specs.FormViews.{out-Exist, out-ExistUnique, out-Interval, out-Set, out-Seq}
use Rattle.asm_program.specs.FormViews.{out-If, out-Let, out-Switch}
use Rattle.asm_program.specs.Items.{bind_of, binds_of, listed_terms, list_of_ranges}
use Rattle.asm_program.specs.DomainsPass.{number_in}
use Rattle.asm_program.specs.Signatures.{Header, find}
use Rattle.asm_program.specs.TypedTerms.{Scope, Variables, Checked, variable_at, with_variable}
use Rattle.asm_program.specs.TypedTerms.{with_ranges, range_domains, all_refused, types, unknown}
use Rattle.asm_program.specs.TypedTerms.{checked_terms, operation_of, operator_checked, connected}
use Rattle.asm_program.specs.TypedTerms.{abstract_number, is_constant_of, constant_value}
use Rattle.asm_program.specs.TypedTerms.{function_term, function_checked}
use Rattle.asm_program.specs.TypedTerms.{other_checked, named_checked, name_checked}
use Rattle.asm_program.specs.TypedTerms.{variable_checked, exists_form}
use Rattle.asm_program.specs.TypedTerms.{bound, case_of, binary_checked, check_level, checked}
use Rattle.asm_program.proofs.Refusals.{true_both}
use Rattle.asm_program.proofs.TermTreeParts.{Form, OfParts, OfBind, OfCase, by_parts, bind_typing}
use Rattle.asm_program.proofs.TermTreeParts.{told, checked-out}
use Rattle.asm_program.proofs.TypesFound.{all_at, cases_at}
use Rattle.asm_soundness.specs.Sorted.{members_level, members_pass, is_named, term_level}
use Rattle.asm_soundness.specs.Sorted.{is_sorted_term}
use Rattle.asm_soundness.proofs.CheckedNames.{NamesMembers}

-- ---- values

module _ (test : ℕ → ℕ → Bool) where
  passes : (v : Value) (a : Value-F Value) → out-Value v ≡ a
      → members_level test (map-Value Value Bool (members_pass test) a) ≡ true
      → members_pass test v ≡ true
  unfolding members_pass
  passes v a e h =
      fold_out-Value Bool (members_level test) v
      ∙ ap (λ z. members_level test (map-Value Value Bool
      (fold-Value Bool (members_level test)) z)) e
      ∙ h

  passes-Undef : members_pass test values.Undef ≡ true
  passes-Undef = passes values.Undef Value-F.Undef (search (rules, value_views.the_lemmas)) refl

  passes-Truth : (b : Bool) → members_pass test (values.Truth b) ≡ true
  passes-Truth b =
      passes (values.Truth b) (Value-F.Truth b) (search (rules, value_views.the_lemmas)) refl

  passes-Int : (n : ℤ) → members_pass test (values.Int n) ≡ true
  passes-Int n = passes (values.Int n) (Value-F.Int n) (search (rules, value_views.the_lemmas)) refl

  passes-Chars : (t : List ℕ) → members_pass test (values.Chars t) ≡ true
  passes-Chars t =
      passes (values.Chars t) (Value-F.Chars t) (search (rules, value_views.the_lemmas)) refl

  passes-Member : (d i : ℕ) → test d i ≡ true → members_pass test (values.Member d i) ≡ true
  passes-Member d i h =
      passes (values.Member d i) (Value-F.Member d i) (search (rules, value_views.the_lemmas)) h

-- ---- each form

module _ (domains : List DomainInfo) where
  abbrev pub IsSortedTerm : Term → Type 0
  IsSortedTerm t = is_sorted_term domains t ≡ true

  abbrev pub AreSortedTerms : List Term → Type 0
  AreSortedTerms ts = list_all (is_sorted_term domains) ts ≡ true

  abbrev level : Term-F Term Case → Bool
  level a = term_level domains (λ f. true) (mapped (term_level domains) (λ f. true) a)

  by_form : (t : Term) (a : Term-F Term Case) → out-Term t ≡ a → level a ≡ true → IsSortedTerm t
  by_form t a e h = of_term-out (term_level domains) (λ f. true) t ∙ ap level e ∙ h

  pub one_sorted : (t : Term) → IsSortedTerm t → AreSortedTerms (t ∷ [])
  one_sorted t h = true_both (is_sorted_term domains t) true h refl

  pub first_sorted : (t : Term) (ts : List Term) → IsSortedTerm t → AreSortedTerms ts
      → AreSortedTerms (t ∷ ts)
  first_sorted t ts h k =
      true_both (is_sorted_term domains t) (list_all (is_sorted_term domains) ts) h k

  two_sorted : (t u : Term) → IsSortedTerm t → IsSortedTerm u → AreSortedTerms (t ∷ u ∷ [])
  two_sorted t u h k = first_sorted t (u ∷ []) h (one_sorted u k)

  -- what is said of the parts
  said : (ts : List Term) → AreSortedTerms ts
      → list_all (λ b. b) (map (is_sorted_term domains) ts) ≡ true
  said ts h = list_all-map (λ b. b) (is_sorted_term domains) ts ∙ h

  sorted-Operator : (o : Option Operation) (args : List Term) (span : Span) → AreSortedTerms args
      → IsSortedTerm (terms.Operator o args span)
  sorted-Operator o args span h =
      by_form (terms.Operator o args span) (Term-F.Operator o args span) (out-Operator o args span)
      (said args h)

  sorted-And : (t u : Term) → IsSortedTerm t → IsSortedTerm u → IsSortedTerm (terms.And t u)
  sorted-And t u h k = by_form (terms.And t u) (Term-F.And t u) (out-And t u) (two_sorted t u h k)

  sorted-Or : (t u : Term) → IsSortedTerm t → IsSortedTerm u → IsSortedTerm (terms.Or t u)
  sorted-Or t u h k = by_form (terms.Or t u) (Term-F.Or t u) (out-Or t u) (two_sorted t u h k)

  sorted-Implies : (t u : Term) → IsSortedTerm t → IsSortedTerm u
      → IsSortedTerm (terms.Implies t u)
  sorted-Implies t u h k =
      by_form (terms.Implies t u) (Term-F.Implies t u) (out-Implies t u) (two_sorted t u h k)

  sorted-Constant : (v : Value) → members_pass (is_named domains) v ≡ true
      → IsSortedTerm (terms.Constant v)
  sorted-Constant v h = by_form (terms.Constant v) (Term-F.Constant v) (out-Constant v) h

  sorted-Variable : (i : ℕ) → IsSortedTerm (terms.Variable i)
  sorted-Variable i = by_form (terms.Variable i) (Term-F.Variable i) (out-Variable i) refl

  sorted-Read : (f : ℕ) (args : List Term) → AreSortedTerms args → IsSortedTerm (terms.Read f args)
  sorted-Read f args h =
      by_form (terms.Read f args) (Term-F.Read f args) (out-Read f args) (said args h)

  sorted-Call : (f : ℕ) (args : List Term) → AreSortedTerms args → IsSortedTerm (terms.Call f args)
  sorted-Call f args h =
      by_form (terms.Call f args) (Term-F.Call f args) (out-Call f args) (said args h)

  sorted-Tuple : (items : List Term) (span : Span) → AreSortedTerms items
      → IsSortedTerm (terms.Tuple items span)
  sorted-Tuple items span h =
      by_form (terms.Tuple items span) (Term-F.Tuple items span) (out-Tuple items span)
      (said items h)

  sorted-Forall : (ranges : List Domain) (t : Term) → IsSortedTerm t
      → IsSortedTerm (terms.Forall ranges t)
  sorted-Forall ranges t h =
      by_form (terms.Forall ranges t) (Term-F.Forall ranges t) (out-Forall ranges t)
      (one_sorted t h)

  sorted-exists : (unique : Bool) (ranges : List Domain) (t : Term) → IsSortedTerm t
      → IsSortedTerm (exists_form unique ranges t)
  sorted-exists true ranges t h =
      by_form (terms.ExistUnique ranges t) (Term-F.ExistUnique ranges t) (out-ExistUnique ranges t)
      (one_sorted t h)
  sorted-exists false ranges t h =
      by_form (terms.Exist ranges t) (Term-F.Exist ranges t) (out-Exist ranges t) (one_sorted t h)

  sorted-Interval : (t u : Term) (span : Span) → IsSortedTerm t → IsSortedTerm u
      → IsSortedTerm (terms.Interval t u span)
  sorted-Interval t u span h k =
      by_form (terms.Interval t u span) (Term-F.Interval t u span) (out-Interval t u span)
      (two_sorted t u h k)

  sorted-Set : (items : List Term) (span : Span) → AreSortedTerms items
      → IsSortedTerm (terms.Set items span)
  sorted-Set items span h =
      by_form (terms.Set items span) (Term-F.Set items span) (out-Set items span) (said items h)

  sorted-Seq : (items : List Term) (span : Span) → AreSortedTerms items
      → IsSortedTerm (terms.Seq items span)
  sorted-Seq items span h =
      by_form (terms.Seq items span) (Term-F.Seq items span) (out-Seq items span) (said items h)

  sorted-If : (guard first : Term) (other : Option Term)
      → AreSortedTerms (guard ∷ first ∷ optional other)
      → IsSortedTerm (terms.If guard first other)
  sorted-If guard first None h =
      by_form (terms.If guard first None) (Term-F.If guard first None) (out-If guard first None) h
  sorted-If guard first (Some other) h =
      by_form (terms.If guard first (Some other)) (Term-F.If guard first (Some other))
      (out-If guard first (Some other)) h

  sorted-Let : (values_ : List Term) (body : Term) → AreSortedTerms values_ → IsSortedTerm body
      → IsSortedTerm (terms.Let values_ body)
  sorted-Let values_ body h k =
      let before = map (is_sorted_term domains) values_ in
      let last = is_sorted_term domains body ∷ [] in
      by_form (terms.Let values_ body) (Term-F.Let values_ body) (out-Let values_ body)
      (list_all-append (λ b. b) before last
      ∙ true_both (list_all (λ b. b) before) (list_all (λ b. b) last) (said values_ h)
      (one_sorted body k))

  -- both terms of each case
  abbrev both_of : Case → Bool × Bool
  both_of c = of_case (term_level domains) (λ f. true) c

  abbrev AreSortedCases : List Case → Type 0
  AreSortedCases cs = list_all (λ b. b) (of_cases (map both_of cs)) ≡ true

  sorted-Switch : (t : Term) (cases : List Case) (other : Option Term) → IsSortedTerm t
      → AreSortedCases cases → AreSortedTerms (optional other)
      → IsSortedTerm (terms.Switch t cases other)
  sorted-Switch t cases None h k rest =
      by_form (terms.Switch t cases None) (Term-F.Switch t cases None) (out-Switch t cases None)
      (true_both (is_sorted_term domains t)
      (list_all (λ b. b) (of_cases (map both_of cases) ++ [])) h
      (list_all-append (λ b. b) (of_cases (map both_of cases)) []
      ∙ true_both (list_all (λ b. b) (of_cases (map both_of cases))) true k rest))
  sorted-Switch t cases (Some other) h k rest =
      let last = is_sorted_term domains other ∷ [] in
      by_form (terms.Switch t cases (Some other)) (Term-F.Switch t cases (Some other))
      (out-Switch t cases (Some other))
      (true_both (is_sorted_term domains t)
      (list_all (λ b. b) (of_cases (map both_of cases) ++ last)) h
      (list_all-append (λ b. b) (of_cases (map both_of cases)) last
      ∙ true_both (list_all (λ b. b) (of_cases (map both_of cases))) (list_all (λ b. b) last)
      k rest))

  out_roll : (a : Case-F Term Case) → out-Case (roll-Case a) ≡ a
  out_roll a = search (rules, the_lemmas)

  first_case : (v t : Term) (cs : List Case) → IsSortedTerm v → IsSortedTerm t
      → AreSortedCases cs → AreSortedCases (roll-Case (record { value = v; term = t }) ∷ cs)
  first_case v t cs h k rest =
      let a : Case-F Term Case = record { value = v; term = t } in
      let c = roll-Case a in
      let later = list_all (λ b. b) (of_cases (map both_of cs)) in
      let opened = of_case-out (term_level domains) (λ f. true) c in
      let value_is = ap (λ q. q.0) opened ∙ ap (λ q. is_sorted_term domains q.value) (out_roll a) in
      let term_is = ap (λ q. q.1) opened ∙ ap (λ q. is_sorted_term domains q.term) (out_roll a) in
      true_both (both_of c).0 ((both_of c).1 && later) (value_is ∙ h)
      (true_both (both_of c).1 later (term_is ∙ k) rest)

-- ---- what the checker tells

module _ (scope : Scope) where
  abbrev IsSorted : Checked → Type 0
  IsSorted c = IsSortedTerm scope.domains c.term

  abbrev AreSorted : List Checked → Type 0
  AreSorted cs = AreSortedTerms scope.domains (checked_terms cs)

  -- the term that the checker makes of it is sorted
  abbrev pub Sorts : TermTree → Type 0
  Sorts t = (variables : Variables) → IsSorted (checked scope t variables)

  -- ---- several terms

  all_sorted : (ts : List TermTree) → AllByRecursion Sorts ts → (variables : Variables)
      → AreSorted (all_at scope variables ts)
  all_sorted [] parts variables = refl
  all_sorted (t ∷ ts) parts variables =
      first_sorted scope.domains (checked scope t variables).term
      (checked_terms (all_at scope variables ts)) (parts.0 variables)
      (all_sorted ts parts.1 variables)

  pub bound_sorted : (bs : List BindTree) → AllByRecursion (OfBind Sorts) bs
      → (variables : Variables)
      → AreSortedTerms scope.domains (bound variables (map (bind_typing scope) bs)).terms
  bound_sorted [] parts variables = refl
  bound_sorted (b ∷ bs) parts variables =
      let c = checked scope (bind_of b).1 variables in
      let inner = with_variable variables (bind_of b).0 c.type in
      first_sorted scope.domains c.term (bound inner (map (bind_typing scope) bs)).terms
      (parts.0 variables) (bound_sorted bs parts.1 inner)

  cases_sorted : (cs : List CaseTree) → AllByRecursion (OfCase Sorts) cs
      → (variables : Variables)
      → AreSortedCases scope.domains (map case_of (cases_at scope variables cs))
  cases_sorted [] parts variables = refl
  cases_sorted (c ∷ cs) parts variables =
      first_case scope.domains (checked scope (out-CaseTree c).value variables).term
      (checked scope (out-CaseTree c).term variables).term
      (map case_of (cases_at scope variables cs)) (parts.0.0 variables) (parts.0.1 variables)
      (cases_sorted cs parts.1 variables)

  -- ---- operators

  either : (b : Bool) (c d : Checked) → IsSorted c → IsSorted d → IsSorted (if b then c else d)
  either true c d h k = h
  either false c d h k = k

  operator_sorted : (name : List ℕ) (cs : List Checked) (span : Span) → AreSorted cs
      → IsSorted (operator_checked name cs span)
  operator_sorted name cs span h =
      sorted-Operator scope.domains (operation_of (operator_type name (types cs)))
      (checked_terms cs) span h

  binary_sorted : (op : List ℕ) (l r : Checked) (span : Span) → IsSorted l → IsSorted r
      → IsSorted (binary_checked op l r span)
  binary_sorted op l r span h k =
      let operator = operator_checked op (l ∷ r ∷ []) span in
      let implies = if bytes_eq op (codes "implies") then connected terms.Implies l r span
      else operator in
      let disjunction = if bytes_eq op (codes "or") then connected terms.Or l r span
      else implies in
      either (bytes_eq op (codes "and")) (connected terms.And l r span) disjunction
      (sorted-And scope.domains l.term r.term h k)
      (either (bytes_eq op (codes "or")) (connected terms.Or l r span) implies
      (sorted-Or scope.domains l.term r.term h k)
      (either (bytes_eq op (codes "implies")) (connected terms.Implies l r span) operator
      (sorted-Implies scope.domains l.term r.term h k)
      (operator_sorted op (l ∷ r ∷ []) span (two_sorted scope.domains l.term r.term h k))))

  -- ---- names

  undef_sorted : IsSortedTerm scope.domains (terms.Constant values.Undef)
  undef_sorted =
      sorted-Constant scope.domains values.Undef (passes-Undef (is_named scope.domains))

  variable_sorted : (name : Token) (span : Span) (o : Option (ℕ × TermType))
      → IsSorted (variable_checked name span o)
  variable_sorted name span None = undef_sorted
  variable_sorted name span (Some found) = sorted-Variable scope.domains found.0

  other_sorted : (name : Token) (cs : List Checked) (span : Span) → AreSorted cs
      → IsSorted (other_checked scope name cs span)
  other_sorted name cs span h =
      either (is_operator (text_of name)) (operator_checked (text_of name) cs span)
      (record {
        refused = unknown name ∷ all_refused cs;
        type = type.Untyped;
        term = terms.Constant values.Undef;
        span = span;
      })
      (operator_sorted (text_of name) cs span h) undef_sorted

  module _ (right : NamesMembers scope) where
    constant_sorted : (f : ℕ) (h : Header) (o : Option ℕ)
        → slice_get scope.functions f ≡ Some h → h.kind ≡ kinds.Constant
        → abstract_number h.result ≡ o
        → IsSortedTerm scope.domains (terms.Constant (constant_value scope.functions f o))
    constant_sorted f h None g k a = undef_sorted
    constant_sorted f h (Some d) g k a =
        let n = count_by (is_constant_of d) (take f scope.functions) in
        sorted-Constant scope.domains (values.Member d n)
        (passes-Member (is_named scope.domains) d n (right.constants f d h g k a))

    function_term_sorted : (f : ℕ) (h : Header) (k : FunctionKind) (args : List Term)
        → slice_get scope.functions f ≡ Some h → h.kind ≡ k → AreSortedTerms scope.domains args
        → IsSortedTerm scope.domains (function_term scope.functions f h k args)
    function_term_sorted f h kinds.Static args g e s = sorted-Call scope.domains f args s
    function_term_sorted f h kinds.Derived args g e s = sorted-Call scope.domains f args s
    function_term_sorted f h kinds.Controlled args g e s = sorted-Read scope.domains f args s
    function_term_sorted f h kinds.Monitored args g e s = sorted-Read scope.domains f args s
    function_term_sorted f h kinds.Shared args g e s = sorted-Read scope.domains f args s
    function_term_sorted f h kinds.Out args g e s = sorted-Read scope.domains f args s
    function_term_sorted f h kinds.Constant args g e s =
        constant_sorted f h (abstract_number h.result) g e refl

    function_sorted : (f : ℕ) (o : Option Header) (cs : List Checked) (span : Span)
        → slice_get scope.functions f ≡ o → AreSorted cs
        → IsSorted (function_checked scope f o cs span)
    function_sorted f None cs span g s = undef_sorted
    function_sorted f (Some h) cs span g s =
        function_term_sorted f h h.kind (checked_terms cs) g refl s

    named_sorted : (name : Token) (cs : List Checked) (span : Span) (n : Option Named)
        → find scope.names (text_of name) ≡ n → AreSorted cs
        → IsSorted (named_checked scope n name cs span)
    named_sorted name cs span (Some (named.Function f)) e s =
        function_sorted f (slice_get scope.functions f) cs span refl s
    named_sorted name cs span (Some (named.Literal d i)) e s =
        sorted-Constant scope.domains (values.Member d i)
        (passes-Member (is_named scope.domains) d i (right.literals (text_of name) d i e))
    named_sorted name cs span None e s = other_sorted name cs span s
    named_sorted name cs span (Some (named.Enum d)) e s = other_sorted name cs span s
    named_sorted name cs span (Some (named.Abstract d)) e s = other_sorted name cs span s
    named_sorted name cs span (Some (named.Subset d)) e s = other_sorted name cs span s
    named_sorted name cs span (Some (named.Macro m)) e s = other_sorted name cs span s
    named_sorted name cs span (Some named.Main) e s = other_sorted name cs span s

    name_sorted : (name : Token) (cs : List Checked) (span : Span) → AreSorted cs
        → IsSorted (name_checked scope name cs span)
    name_sorted name cs span s =
        named_sorted name cs span (find scope.names (text_of name)) refl s

    -- ---- each form

    at_form : (a : Form) → OfParts Sorts a → (variables : Variables)
        → IsSorted (check_level scope (told scope a) variables)
    at_form (TermTree-F.Prefix op t span) part variables =
        operator_sorted op (checked scope t variables ∷ []) span
        (one_sorted scope.domains (checked scope t variables).term (part variables))
    at_form (TermTree-F.Binary left op right_ span) parts variables =
        binary_sorted op (checked scope left variables) (checked scope right_ variables) span
        (parts.0 variables) (parts.1 variables)
    at_form (TermTree-F.Number t span) part variables =
        sorted-Constant scope.domains (values.Int (number_in t.kind))
        (passes-Int (is_named scope.domains) (number_in t.kind))
    at_form (TermTree-F.Chars t span) part variables =
        sorted-Constant scope.domains (values.Chars (text_of t))
        (passes-Chars (is_named scope.domains) (text_of t))
    at_form (TermTree-F.True span) part variables =
        sorted-Constant scope.domains (values.Truth true)
        (passes-Truth (is_named scope.domains) true)
    at_form (TermTree-F.False span) part variables =
        sorted-Constant scope.domains (values.Truth false)
        (passes-Truth (is_named scope.domains) false)
    at_form (TermTree-F.Undef span) part variables = undef_sorted
    at_form (TermTree-F.Var name span) part variables =
        variable_sorted name span (variable_at variables (text_of name))
    at_form (TermTree-F.Name name None span) parts variables = name_sorted name [] span refl
    at_form (TermTree-F.Name name (Some args) span) parts variables =
        name_sorted name (all_at scope variables (listed_terms args)) span
        (all_sorted (listed_terms args) parts variables)
    at_form (TermTree-F.Tuple items span) parts variables =
        sorted-Tuple scope.domains (checked_terms (all_at scope variables (listed_terms items)))
        span (all_sorted (listed_terms items) parts variables)
    at_form (TermTree-F.Forall ranges body span) part variables =
        let all = list_of_ranges ranges in
        let inner = with_ranges scope variables all in
        sorted-Forall scope.domains (range_domains scope all) (checked scope body inner).term
        (part inner)
    at_form (TermTree-F.Exist unique ranges body span) part variables =
        let all = list_of_ranges ranges in
        let inner = with_ranges scope variables all in
        sorted-exists scope.domains unique (range_domains scope all)
        (checked scope body inner).term (part inner)
    at_form (TermTree-F.Interval from to span) parts variables =
        sorted-Interval scope.domains (checked scope from variables).term
        (checked scope to variables).term span (parts.0 variables) (parts.1 variables)
    at_form (TermTree-F.Set None span) parts variables = sorted-Set scope.domains [] span refl
    at_form (TermTree-F.Set (Some items) span) parts variables =
        sorted-Set scope.domains (checked_terms (all_at scope variables (listed_terms items)))
        span (all_sorted (listed_terms items) parts variables)
    at_form (TermTree-F.Seq None span) parts variables = sorted-Seq scope.domains [] span refl
    at_form (TermTree-F.Seq (Some items) span) parts variables =
        sorted-Seq scope.domains (checked_terms (all_at scope variables (listed_terms items)))
        span (all_sorted (listed_terms items) parts variables)
    at_form (TermTree-F.If guard first None span) parts variables =
        sorted-If scope.domains (checked scope guard variables).term
        (checked scope first variables).term None
        (two_sorted scope.domains (checked scope guard variables).term
        (checked scope first variables).term (parts.0 variables) (parts.1 variables))
    at_form (TermTree-F.If guard first (Some other) span) parts variables =
        sorted-If scope.domains (checked scope guard variables).term
        (checked scope first variables).term (Some (checked scope other variables).term)
        (all_sorted (guard ∷ first ∷ other ∷ []) (parts.0, (parts.1, parts.2)) variables)
    at_form (TermTree-F.Let binds body span) parts variables =
        let b = bound variables (map (bind_typing scope) (binds_of binds)) in
        sorted-Let scope.domains b.terms (checked scope body b.variables).term
        (bound_sorted (binds_of binds) parts.0 variables) (parts.1 b.variables)
    at_form (TermTree-F.Switch t cases None span) parts variables =
        sorted-Switch scope.domains (checked scope t variables).term
        (map case_of (cases_at scope variables cases)) None (parts.0 variables)
        (cases_sorted cases parts.1 variables) refl
    at_form (TermTree-F.Switch t cases (Some other) span) parts variables =
        sorted-Switch scope.domains (checked scope t variables).term
        (map case_of (cases_at scope variables cases)) (Some (checked scope other variables).term)
        (parts.0 variables) (cases_sorted cases parts.1 variables)
        (one_sorted scope.domains (checked scope other variables).term (parts.2.0 variables))

    pub term_sorted : (t : TermTree) → Sorts t
    term_sorted = by_parts Sorts (λ t a is parts variables.
        subst (λ m. IsSorted (m variables)) (sym (checked-out scope t a is))
        (at_form a parts variables))
