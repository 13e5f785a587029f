-- Of a term that has a type nothing is refused, and the checker tells this type.
use Rattle.std.proofs.Common.{◌≡◌, ℕ, ◌≤◌, Bool, true, false, not, ◌&&◌, ◌||◌, Option, Some, None}
use Rattle.std.proofs.Common.{is_some, List, [], ◌∷◌, ◌++◌, map, length, codes}
use Rattle.std.proofs.Common.{refl, sym, ap, subst, ◌∙◌, arith}
use Rattle.std.specs.Prelude.{nat_lt}
use Rattle.std.specs.Option.{option_map_or}
use Rattle.std.specs.List.{AllByRecursion}
use Rattle.std.specs.Str.{bytes_eq}
use Rattle.std.proofs.lemmas.Bool.{true≢false}
use Rattle.std.proofs.lemmas.Bool.Decides.{nat_tests}
use Rattle.asm_value.specs.declared.domain.Domain.{Domain}
use Rattle.asm_value.specs.declared.domain.Domain.TheViews.{out-Domain}
use Rattle.asm_value.specs.Enumerable.{size}
use Rattle.asm_syntax.specs.declared.token.Span.{Span}
use Rattle.asm_syntax.specs.declared.token.Token.{Token}
use Rattle.asm_syntax.specs.declared.tree.RangeTree.{RangeTree}
use Rattle.asm_syntax.specs.declared.tree.RangesTree.{RangesTree}
use Rattle.asm_syntax.specs.declared.tree.BindTree.{BindTree}
use Rattle.asm_syntax.specs.declared.tree.CaseTree.{CaseTree}
use Rattle.asm_syntax.specs.declared.tree.TermsTree.{TermsTree}
use Rattle.asm_syntax.specs.declared.tree.TermTree.{TermTree}
use Rattle.asm_syntax.specs.declared.tree.TermTree.TheOpen.{TermTree-F}
use Rattle.asm_syntax.specs.declared.tree.TermTree.TheViews.{out-TermTree, out-CaseTree}
use Rattle.asm_syntax.specs.Extents.{domain_extent}
use Rattle.asm_syntax.specs.Marks.{text_of}
use Rattle.asm_typing.specs.declared.types.Type.{«Type» as TermType}
use Rattle.asm_typing.specs.declared.types.Type.TheVariants as type
use Rattle.asm_typing.specs.declared.operators.Operator.{Operator}
use Rattle.asm_typing.specs.Domains.{type_of}
use Rattle.asm_typing.specs.Joins.{join_all}
use Rattle.asm_typing.specs.Operators.{operator_type, is_operator}
use Rattle.asm_program.specs.declared.named.Named.{Named}
use Rattle.asm_program.specs.declared.named.Named.TheVariants as named
use Rattle.asm_program.specs.declared.trees.Term.{Term}
use Rattle.asm_program.specs.declared.trees.Term.TheVariants as terms
use Rattle.asm_program.specs.declared.type_refusal.TypeRefusal.TheVariants.{Mismatch, Limit}
use Rattle.asm_program.specs.declared.type_refusal.Limited.TheVariants.{Chars}
use Rattle.asm_program.specs.Forms.{optional}
use Rattle.asm_program.specs.Items.{bind_of, binds_of, terms_of, list_of_ranges}
use Rattle.asm_program.specs.Signatures.{Header, find, range_domain}
use Rattle.asm_program.specs.TypedTerms.{Scope, Variables, Checked, variable_at, with_variable}
use Rattle.asm_program.specs.TypedTerms.{innumerable, range_refused, ranges_refused, all_refused}
use Rattle.asm_program.specs.TypedTerms.{types, is_truth, is_int, truth_refused, type_or, or_else}
use Rattle.asm_program.specs.TypedTerms.{unless, operator_checked, connected, args_fit}
use Rattle.asm_program.specs.TypedTerms.{function_checked, named_checked, name_checked}
use Rattle.asm_program.specs.TypedTerms.{variable_checked, chars_checked, items_checked}
use Rattle.asm_program.specs.TypedTerms.{interval_checked, bound, case_refused, join_with}
use Rattle.asm_program.specs.TypedTerms.{check_level, checked}
use Rattle.asm_program.specs.TypingLaws.{IsWhole, UnrefusedWhereTyped, TypesAreTold, TypesAreUnique}
use Rattle.asm_program.specs.HasType as has
use Rattle.asm_program.specs.HasType.{HasType, HaveTypes, Bind, CasesHaveTypes, IsTruth, IsInt}
use Rattle.asm_program.specs.HasType.{FitEach, HaveJoin, is_connective, has_value, IsInScope}
use Rattle.asm_program.specs.HasType.{NamesFunction, NamesLiteral, NamesOperator}
use Rattle.asm_program.specs.HasType.{IsEnumerable, AreEnumerable, within}
use Rattle.asm_program.proofs.Refusals.{nil_both, nil_else, nil_unless, true_both, of_some}
use Rattle.asm_program.proofs.Refusals.{each_fit, joins_have, map_types}
use Rattle.asm_program.proofs.TermTreeParts.{Form, bind_typing, told}
use Rattle.asm_program.proofs.TermTreeParts.{checked-out}
use Rattle.asm_program.proofs.InScope.{scope_in}
use Rattle.asm_program.proofs.TypesFound.{found, all_at, cases_at, by_word, by_operator}

-- nothing is refused, and this type is told
abbrev pub Tells : Checked → TermType → Type 0
Tells c s = (c.refused ≡ []) × (s ≡ c.type)

-- nothing is refused of any, and these types are told
abbrev pub TellAll : List Checked → List TermType → Type 0
TellAll cs ss = (all_refused cs ≡ []) × (ss ≡ types cs)

pub truth_kept : (c : Checked) (s : TermType) → s ≡ c.type → IsTruth s → truth_refused c ≡ []
truth_kept c s same h = nil_unless (is_truth c.type) (Mismatch c.span) (subst IsTruth same h)

-- ---- operators

operator_kept : (name : List ℕ) (cs : List Checked) (span : Span) (ss : List TermType)
    (o : Operator) → TellAll cs ss → operator_type name ss ≡ Some o
    → Tells (operator_checked name cs span) o.result
operator_kept name cs span ss o k e =
    let is = ap (operator_type name) (sym k.1) ∙ e in (
      nil_else (all_refused cs) (unless (is_some (operator_type name (types cs))) (Mismatch span))
          k.0 (nil_unless (is_some (operator_type name (types cs))) (Mismatch span)
          (of_some (operator_type name (types cs)) o is)),
      sym (ap (λ q. option_map_or (λ z. z.result) q type.Untyped) is),
    )

one_told : (c : Checked) (s : TermType) → Tells c s → TellAll (c ∷ []) (s ∷ [])
one_told c s k = (nil_both c.refused [] k.0 refl, ap (λ z. z ∷ []) k.1)

pub first_told : (c : Checked) (s : TermType) (cs : List Checked) (ss : List TermType) → Tells c s
    → TellAll cs ss → TellAll (c ∷ cs) (s ∷ ss)
first_told c s cs ss k rest =
    (nil_both c.refused (all_refused cs) k.0 rest.0, λ i. k.1 i ∷ rest.1 i)

connected_kept : (form : Term → Term → Term) (l r : Checked) (span : Span) (s u : TermType)
    → Tells l s → Tells r u → IsTruth s → IsTruth u → Tells (connected form l r span) type.Truth
connected_kept form l r span s u h k first second = (
  nil_else (l.refused ++ r.refused) (truth_refused l ++ truth_refused r)
      (nil_both l.refused r.refused h.0 k.0)
      (nil_both (truth_refused l) (truth_refused r) (truth_kept l s h.1 first)
      (truth_kept r u k.1 second)),
  refl,
)

module _ (scope : Scope) where
  connective_kept : (a b c : Bool) (op : List ℕ) (l r : Checked) (span : Span) (s u : TermType)
      → (a || b || c) ≡ true
      → Tells l s → Tells r u → IsTruth s → IsTruth u
      → Tells (by_word scope a b c op l r span) type.Truth
  connective_kept true b c op l r span s u word h k first second =
      connected_kept terms.And l r span s u h k first second
  connective_kept false true c op l r span s u word h k first second =
      connected_kept terms.Or l r span s u h k first second
  connective_kept false false true op l r span s u word h k first second =
      connected_kept terms.Implies l r span s u h k first second
  connective_kept false false false op l r span s u word h k first second =
      absurd (true≢false (sym word))

  operation_kept : (a b c : Bool) (op : List ℕ) (l r : Checked) (span : Span) (s u : TermType)
      (o : Operator) → (a || b || c) ≡ false
      → Tells l s → Tells r u → operator_type op (s ∷ u ∷ []) ≡ Some o
      → Tells (by_word scope a b c op l r span) o.result
  operation_kept true b c op l r span s u o word h k e = absurd (true≢false word)
  operation_kept false true c op l r span s u o word h k e = absurd (true≢false word)
  operation_kept false false true op l r span s u o word h k e = absurd (true≢false word)
  operation_kept false false false op l r span s u o word h k e =
      operator_kept op (l ∷ r ∷ []) span (s ∷ u ∷ []) o
      (first_told l s (r ∷ []) (u ∷ []) h (one_told r u k)) e

  -- ---- names

  variable_kept : (variables : Variables) (name : Token) (span : Span) (s : TermType)
      → IsInScope variables (text_of name) s
      → Tells (variable_checked name span (variable_at variables (text_of name))) s
  variable_kept variables name span s h =
      let at = scope_in variables (text_of name) s h in
      subst (λ o. Tells (variable_checked name span o) s) (sym at.1) (refl, refl)

  short : (n : ℕ) → n ≤ 1024 → not (nat_lt 1024 n) ≡ true
  short n h = grind (arith, nat_tests, h)

  chars_kept : (chars : Token) (span : Span) → length (text_of chars) ≤ 1024
      → Tells (chars_checked chars span) type.Chars
  chars_kept chars span h = (
    nil_unless (not (nat_lt 1024 (length (text_of chars))))
        (Limit Chars (length (text_of chars)) chars.span) (short (length (text_of chars)) h),
    refl,
  )

  call_kept : (cs : List Checked) (span : Span) (ss : List TermType) (ds : List Domain)
      → TellAll cs ss → FitEach ss ds
      → or_else (all_refused cs) (unless (args_fit (types cs) ds) (Mismatch span)) ≡ []
  call_kept cs span ss ds k fit =
      nil_else (all_refused cs) (unless (args_fit (types cs) ds) (Mismatch span)) k.0
      (nil_unless (args_fit (types cs) ds) (Mismatch span)
      (ap (λ z. args_fit z ds) (sym k.1) ∙ each_fit ss ds fit))

  function_kept : (name : Token) (cs : List Checked) (span : Span) (h : Header)
      (ss : List TermType) → NamesFunction scope name h → TellAll cs ss → FitEach ss h.args
      → Tells (name_checked scope name cs span) (type_of h.result)
  function_kept name cs span h ss names k fit =
      subst (λ n. Tells (named_checked scope n name cs span) (type_of h.result)) (sym names.1)
      (subst (λ o. Tells (function_checked scope names.0 o cs span) (type_of h.result))
      (sym names.2) (call_kept cs span ss h.args k fit, refl))

  literal_kept : (variables : Variables) (name : Token) (args : List TermTree) (span : Span) (d : ℕ)
      → NamesLiteral scope name d → args ≡ []
      → Tells (name_checked scope name (all_at scope variables args) span) (type.Enum d)
  literal_kept variables name args span d names none =
      subst (λ n. Tells (named_checked scope n name (all_at scope variables args) span)
      (type.Enum d)) (sym names.1)
      (subst (λ ts. Tells (named_checked scope (Some (named.Literal d names.0)) name
      (all_at scope variables ts) span) (type.Enum d)) (sym none) (refl, refl))

  other_kept : (name : Token) (cs : List Checked) (span : Span) (n : Option Named) (s : TermType)
      → has_value n ≡ false → is_operator (text_of name) ≡ true
      → Tells (operator_checked (text_of name) cs span) s
      → Tells (named_checked scope n name cs span) s
  other_kept name cs span (Some (named.Function f)) s free word k = absurd (true≢false free)
  other_kept name cs span (Some (named.Literal d i)) s free word k = absurd (true≢false free)
  other_kept name cs span None s free word k =
      subst (λ b. Tells (by_operator scope b name cs span) s) (sym word) k
  other_kept name cs span (Some (named.Enum d)) s free word k =
      subst (λ b. Tells (by_operator scope b name cs span) s) (sym word) k
  other_kept name cs span (Some (named.Abstract d)) s free word k =
      subst (λ b. Tells (by_operator scope b name cs span) s) (sym word) k
  other_kept name cs span (Some (named.Subset d)) s free word k =
      subst (λ b. Tells (by_operator scope b name cs span) s) (sym word) k
  other_kept name cs span (Some (named.Macro m)) s free word k =
      subst (λ b. Tells (by_operator scope b name cs span) s) (sym word) k
  other_kept name cs span (Some named.Main) s free word k =
      subst (λ b. Tells (by_operator scope b name cs span) s) (sym word) k

  -- ---- the other forms

  innumerables : (rs : List RangeTree) → AllByRecursion (IsEnumerable scope) rs
      → ranges_refused scope rs ≡ []
  innumerables [] h = refl
  innumerables (r ∷ rs) h =
      let d = range_domain scope.names r in
      nil_both (range_refused scope r) (ranges_refused scope rs)
      (nil_unless (is_some (size scope.domains d))
      (innumerable scope.domains (domain_extent r.domain) (out-Domain d))
      (of_some (size scope.domains d) h.0.0 h.0.1))
      (innumerables rs h.1)

  pub ranges_kept : (ranges : RangesTree) → AreEnumerable scope ranges
      → ranges_refused scope (list_of_ranges ranges) ≡ []
  ranges_kept ranges h = innumerables (list_of_ranges ranges) h

  quantified_kept : (ranges : RangesTree) (c : Checked) (s : TermType)
      → AreEnumerable scope ranges → Tells c s → IsTruth s
      → or_else (ranges_refused scope (list_of_ranges ranges) ++ c.refused) (truth_refused c) ≡ []
  quantified_kept ranges c s enumerable k truth =
      let refused = ranges_refused scope (list_of_ranges ranges) in
      nil_else (refused ++ c.refused) (truth_refused c)
      (nil_both refused c.refused (ranges_kept ranges enumerable) k.0)
      (truth_kept c s k.1 truth)

  items_kept : (of_type : TermType → TermType) (form : List Term → Span → Term)
      (cs : List Checked) (span : Span) (ss : List TermType) (item : TermType)
      → TellAll cs ss → join_all ss ≡ Some item
      → Tells (items_checked of_type form cs span) (of_type item)
  items_kept of_type form cs span ss item k e =
      let is = ap join_all (sym k.1) ∙ e in (
        nil_else (all_refused cs) (unless (is_some (join_all (types cs))) (Mismatch span)) k.0
            (nil_unless (is_some (join_all (types cs))) (Mismatch span)
            (of_some (join_all (types cs)) item is)),
        sym (ap (λ o. of_type (type_or o)) is),
      )

  interval_kept : (f l : Checked) (span : Span) (s u : TermType) → Tells f s → Tells l u
      → IsInt s → IsInt u → Tells (interval_checked f l span) (type.Set type.Int)
  interval_kept f l span s u h k first second = (
    nil_else (f.refused ++ l.refused) (unless (is_int f.type && is_int l.type) (Mismatch span))
        (nil_both f.refused l.refused h.0 k.0)
        (nil_unless (is_int f.type && is_int l.type) (Mismatch span)
        (true_both (is_int f.type) (is_int l.type) (subst IsInt h.1 first)
        (subst IsInt k.1 second))),
    refl,
  )

  if_kept : (g : Checked) (cs : List Checked) (span : Span) (s : TermType) (ss : List TermType)
      (u : TermType) → Tells g s → TellAll cs ss → IsTruth s → join_all ss ≡ Some u
      → (or_else (g.refused ++ all_refused cs)
      (unless (is_some (join_all (types cs))) (Mismatch span) ++ truth_refused g) ≡ [])
      × (u ≡ type_or (join_all (types cs)))
  if_kept g cs span s ss u h k truth e =
      let is = ap join_all (sym k.1) ∙ e in
      let joins = unless (is_some (join_all (types cs))) (Mismatch span) in (
        nil_else (g.refused ++ all_refused cs) (joins ++ truth_refused g)
            (nil_both g.refused (all_refused cs) h.0 k.0)
            (nil_both joins (truth_refused g)
            (nil_unless (is_some (join_all (types cs))) (Mismatch span)
            (of_some (join_all (types cs)) u is))
            (truth_kept g s h.1 truth)),
        sym (ap type_or is),
      )

  -- the cases are let through, and these types are told
  abbrev TellCases : List (Checked × Checked) → List TermType → List TermType → Type 0
  TellCases cs ss ts =
      (case_refused cs ≡ []) × (ss ≡ map (λ c. c.0.type) cs) × (ts ≡ map (λ c. c.1.type) cs)

  switch_kept : (v : Checked) (cs : List (Checked × Checked)) (os : List Checked) (span : Span)
      (s u : TermType) (ss ts us : List TermType)
      → Tells v s → TellCases cs ss ts → TellAll os us
      → AllByRecursion (HaveJoin s) ss → join_all (ts ++ us) ≡ Some u
      → (or_else (v.refused ++ case_refused cs ++ all_refused os)
      (unless (join_with v.type (map (λ c. c.0.type) cs)
      && is_some (join_all (types (map (λ c. c.1) cs ++ os)))) (Mismatch span)) ≡ [])
      × (u ≡ type_or (join_all (types (map (λ c. c.1) cs ++ os))))
  switch_kept v cs os span s u ss ts us h k rest joins e =
      let all = types (map (λ c. c.1) cs ++ os) in
      let same : ts ++ us ≡ all = (λ i. k.2 i ++ rest.1 i) ∙ map_types cs os in
      let is = ap join_all (sym same) ∙ e in
      let each = join_with v.type (map (λ c. c.0.type) cs) in (
        nil_else (v.refused ++ case_refused cs ++ all_refused os)
            (unless (each && is_some (join_all all)) (Mismatch span))
            (nil_both (v.refused ++ case_refused cs) (all_refused os)
            (nil_both v.refused (case_refused cs) h.0 k.0) rest.0)
            (nil_unless (each && is_some (join_all all)) (Mismatch span)
            (true_both each (is_some (join_all all))
            ((λ i. join_with (sym h.1 i) (sym k.1 i)) ∙ joins_have s ss joins)
            (of_some (join_all all) u is))),
        sym (ap type_or is),
      )

  -- ---- each form

  abbrev At : Variables → Form → TermType → Type 0
  At variables a s = Tells (check_level scope (told scope a) variables) s

  by_form : (variables : Variables) (t : TermTree) (a : Form) (s : TermType) → out-TermTree t ≡ a
      → At variables a s → Tells (checked scope t variables) s
  by_form variables t a s is k =
      subst (λ m. Tells (m variables) s) (sym (checked-out scope t a is)) k

  name_form : (variables : Variables) (name : Token) (args : Option TermsTree) (span : Span)
      (s : TermType)
      → Tells (name_checked scope name (all_at scope variables (terms_of args)) span) s
      → At variables (TermTree-F.Name name args span) s
  name_form variables name None span s k = k
  name_form variables name (Some args) span s k = k

  set_form : (variables : Variables) (items : Option TermsTree) (span : Span) (s : TermType)
      → Tells (items_checked type.Set terms.Set (all_at scope variables (terms_of items)) span) s
      → At variables (TermTree-F.Set items span) s
  set_form variables None span s k = k
  set_form variables (Some items) span s k = k

  seq_form : (variables : Variables) (items : Option TermsTree) (span : Span) (s : TermType)
      → Tells (items_checked type.Seq terms.Seq (all_at scope variables (terms_of items)) span) s
      → At variables (TermTree-F.Seq items span) s
  seq_form variables None span s k = k
  seq_form variables (Some items) span s k = k

  if_form : (variables : Variables) (guard first : TermTree) (other : Option TermTree) (span : Span)
      (s u : TermType) (ss : List TermType)
      → Tells (checked scope guard variables) s
      → TellAll (all_at scope variables (first ∷ optional other)) ss
      → IsTruth s → join_all ss ≡ Some u
      → At variables (TermTree-F.If guard first other span) u
  if_form variables guard first None span s u ss h k truth e =
      if_kept (checked scope guard variables) (checked scope first variables ∷ []) span s ss u h k
      truth e
  if_form variables guard first (Some other) span s u ss h k truth e =
      if_kept (checked scope guard variables)
      (checked scope first variables ∷ checked scope other variables ∷ []) span s ss u h k truth e

  switch_form : (variables : Variables) (value : TermTree) (cases : List CaseTree)
      (other : Option TermTree) (span : Span) (s u : TermType) (ss ts us : List TermType)
      → Tells (checked scope value variables) s
      → TellCases (cases_at scope variables cases) ss ts
      → TellAll (all_at scope variables (optional other)) us
      → AllByRecursion (HaveJoin s) ss → join_all (ts ++ us) ≡ Some u
      → At variables (TermTree-F.Switch value cases other span) u
  switch_form variables value cases None span s u ss ts us h k rest joins e =
      switch_kept (checked scope value variables) (cases_at scope variables cases) [] span s u ss ts
      us h k rest joins e
  switch_form variables value cases (Some other) span s u ss ts us h k rest joins e =
      switch_kept (checked scope value variables) (cases_at scope variables cases)
      (checked scope other variables ∷ []) span s u ss ts us h k rest joins e

  -- the variables are let through, and these are in scope then
  abbrev TellBound : Variables → List BindTree → Variables → Type 0
  TellBound variables bs inner =
      ((bound variables (map (bind_typing scope) bs)).refused ≡ [])
      × (inner ≡ (bound variables (map (bind_typing scope) bs)).variables)

  first_bound : (variables : Variables) (b : BindTree) (bs : List BindTree) (s : TermType)
      (inner : Variables) → Tells (checked scope (bind_of b).1 variables) s
      → TellBound (with_variable variables (bind_of b).0 s) bs inner
      → TellBound variables (b ∷ bs) inner
  first_bound variables b bs s inner h k =
      let c = checked scope (bind_of b).1 variables in
      let x = (bind_of b).0 in
      let inside = with_variable variables x c.type in
      let rest = subst (λ z. TellBound (with_variable variables x z) bs inner) h.1 k in (
        nil_both c.refused (bound inside (map (bind_typing scope) bs)).refused h.0 rest.0,
        rest.1,
      )

  let_form : (variables inner : Variables) (bs : List BindTree) (body : TermTree) (s : TermType)
      → TellBound variables bs inner → Tells (checked scope body inner) s
      → ((bound variables (map (bind_typing scope) bs)).refused ++ (checked scope body
      (bound variables (map (bind_typing scope) bs)).variables).refused ≡ [])
      × (s ≡ (checked scope body
      (bound variables (map (bind_typing scope) bs)).variables).type)
  let_form variables inner bs body s h k =
      let b = bound variables (map (bind_typing scope) bs) in
      let body_told = subst (λ z. Tells (checked scope body z) s) h.1 k in
      (nil_both b.refused (checked scope body b.variables).refused h.0 body_told.0, body_told.1)

  first_case : (variables : Variables) (c : CaseTree) (cs : List CaseTree) (s t : TermType)
      (ss ts : List TermType)
      → Tells (checked scope (out-CaseTree c).value variables) s
      → Tells (checked scope (out-CaseTree c).term variables) t
      → TellCases (cases_at scope variables cs) ss ts
      → TellCases (cases_at scope variables (c ∷ cs)) (s ∷ ss) (t ∷ ts)
  first_case variables c cs s t ss ts h k rest =
      let value = checked scope (out-CaseTree c).value variables in
      let term = checked scope (out-CaseTree c).term variables in (
        nil_both (value.refused ++ term.refused) (case_refused (cases_at scope variables cs))
            (nil_both value.refused term.refused h.0 k.0) rest.0,
        (λ i. h.1 i ∷ rest.1 i),
        (λ i. k.1 i ∷ rest.2 i),
      )

  -- ---- derivations

  mutual
    pub kept : {variables : Variables} {t : TermTree} {s : TermType}
        → HasType scope variables t s → Tells (checked scope t variables) s
    kept (has.Prefix {variables = v} {t = t} {operand = x} {op = op} {span = span} {s = s}
        {operator = o} is h e) =
        by_form v t (TermTree-F.Prefix op x span) o.result is
        (operator_kept op (checked scope x v ∷ []) span (s ∷ []) o
        (one_told (checked scope x v) s (kept h)) e)
    kept (has.Connective {variables = v} {t = t} {left = l} {right = r} {op = op} {span = span}
        {s = s} {u = u} is word h k first second) =
        by_form v t (TermTree-F.Binary l op r span) type.Truth is
        (connective_kept (bytes_eq op (codes "and")) (bytes_eq op (codes "or"))
        (bytes_eq op (codes "implies")) op (checked scope l v) (checked scope r v) span s u word
        (kept h) (kept k) first second)
    kept (has.Binary {variables = v} {t = t} {left = l} {right = r} {op = op} {span = span}
        {s = s} {u = u} {operator = o} is word h k e) =
        by_form v t (TermTree-F.Binary l op r span) o.result is
        (operation_kept (bytes_eq op (codes "and")) (bytes_eq op (codes "or"))
        (bytes_eq op (codes "implies")) op (checked scope l v) (checked scope r v) span s u o word
        (kept h) (kept k) e)
    kept (has.Number {variables = v} {t = t} {number = number} {span = span} is) =
        by_form v t (TermTree-F.Number number span) type.Int is (refl, refl)
    kept (has.Chars {variables = v} {t = t} {chars = chars} {span = span} is h) =
        by_form v t (TermTree-F.Chars chars span) type.Chars is (chars_kept chars span h)
    kept (has.True {variables = v} {t = t} {span = span} is) =
        by_form v t (TermTree-F.True span) type.Truth is (refl, refl)
    kept (has.False {variables = v} {t = t} {span = span} is) =
        by_form v t (TermTree-F.False span) type.Truth is (refl, refl)
    kept (has.Undef {variables = v} {t = t} {span = span} is) =
        by_form v t (TermTree-F.Undef span) type.Untyped is (refl, refl)
    kept (has.Var {variables = v} {t = t} {name = name} {span = span} {s = s} is h) =
        by_form v t (TermTree-F.Var name span) s is (variable_kept v name span s h)
    kept (has.Function {variables = v} {t = t} {name = name} {args = args} {span = span} {h = f}
        {ss = ss} is names hs fit) =
        by_form v t (TermTree-F.Name name args span) (type_of f.result) is
        (name_form v name args span (type_of f.result)
        (function_kept name (all_at scope v (terms_of args)) span f ss names (all_kept hs) fit))
    kept (has.Literal {variables = v} {t = t} {name = name} {args = args} {span = span} {d = d} is
        names none) =
        by_form v t (TermTree-F.Name name args span) (type.Enum d) is
        (name_form v name args span (type.Enum d)
        (literal_kept v name (terms_of args) span d names none))
    kept (has.Operation {variables = v} {t = t} {name = name} {args = args} {span = span} {ss = ss}
        {operator = o} is names hs e) =
        by_form v t (TermTree-F.Name name args span) o.result is
        (name_form v name args span o.result
        (other_kept name (all_at scope v (terms_of args)) span (find scope.names (text_of name))
        o.result names.free names.operator
        (operator_kept (text_of name) (all_at scope v (terms_of args)) span ss o (all_kept hs) e)))
    kept (has.Tuple {variables = v} {t = t} {items = items} {span = span} {ss = ss} is hs) =
        let k = all_kept hs in
        by_form v t (TermTree-F.Tuple items span) (type.Prod ss) is
        (k.0, ap (λ z. type.Prod z) k.1)
    kept (has.Forall {variables = v} {t = t} {body = body} {ranges = ranges} {span = span} {s = s}
        is enumerable h truth) =
        by_form v t (TermTree-F.Forall ranges body span) type.Truth is (
          quantified_kept ranges (checked scope body (within scope v ranges)) s enumerable (kept h)
              truth,
          refl,
        )
    kept (has.Exist {variables = v} {t = t} {body = body} {unique = unique} {ranges = ranges}
        {span = span} {s = s} is enumerable h truth) =
        by_form v t (TermTree-F.Exist unique ranges body span) type.Truth is (
          quantified_kept ranges (checked scope body (within scope v ranges)) s enumerable (kept h)
              truth,
          refl,
        )
    kept (has.Interval {variables = v} {t = t} {from = f} {to = l} {span = span} {s = s} {u = u} is
        h k first second) =
        by_form v t (TermTree-F.Interval f l span) (type.Set type.Int) is
        (interval_kept (checked scope f v) (checked scope l v) span s u (kept h) (kept k) first
        second)
    kept (has.Set {variables = v} {t = t} {items = items} {span = span} {ss = ss} {item = item} is
        hs e) =
        by_form v t (TermTree-F.Set items span) (type.Set item) is
        (set_form v items span (type.Set item)
        (items_kept type.Set terms.Set (all_at scope v (terms_of items)) span ss item (all_kept hs)
        e))
    kept (has.Seq {variables = v} {t = t} {items = items} {span = span} {ss = ss} {item = item} is
        hs e) =
        by_form v t (TermTree-F.Seq items span) (type.Seq item) is
        (seq_form v items span (type.Seq item)
        (items_kept type.Seq terms.Seq (all_at scope v (terms_of items)) span ss item (all_kept hs)
        e))
    kept (has.If {variables = v} {t = t} {guard = guard} {first = first} {other = other}
        {span = span} {s = s} {u = u} {ss = ss} is h hs truth e) =
        by_form v t (TermTree-F.If guard first other span) u is
        (if_form v guard first other span s u ss (kept h) (all_kept hs) truth e)
    kept (has.Let {variables = v} {inner = inner} {t = t} {body = body} {binds = binds}
        {span = span} {s = s} is hs h) =
        by_form v t (TermTree-F.Let binds body span) s is
        (let_form v inner (binds_of binds) body s (bind_kept hs) (kept h))
    kept (has.Switch {variables = v} {t = t} {value = value} {cases = cases} {other = other}
        {span = span} {s = s} {u = u} {ss = ss} {ts = ts} {us = us} is h hs rest joins e) =
        by_form v t (TermTree-F.Switch value cases other span) u is
        (switch_form v value cases other span s u ss ts us (kept h) (cases_kept hs) (all_kept rest)
        joins e)

    pub all_kept : {variables : Variables} {ts : List TermTree} {ss : List TermType}
        → HaveTypes scope variables ts ss → TellAll (all_at scope variables ts) ss
    all_kept has.no_term = (refl, refl)
    all_kept (has.one_term {variables = v} {t = t} {rest = ts} {s = s} {ss = ss} h hs) =
        first_told (checked scope t v) s (all_at scope v ts) ss (kept h) (all_kept hs)

    pub bind_kept : {variables inner : Variables} {bs : List BindTree}
        → Bind scope variables bs inner → TellBound variables bs inner
    bind_kept has.no_bind = (refl, refl)
    bind_kept (has.one_bind {variables = v} {inner = inner} {b = b} {rest = bs} {s = s} h hs) =
        first_bound v b bs s inner (kept h) (bind_kept hs)

    cases_kept : {variables : Variables} {cs : List CaseTree} {ss ts : List TermType}
        → CasesHaveTypes scope variables cs ss ts
        → TellCases (cases_at scope variables cs) ss ts
    cases_kept has.no_case = (refl, refl, refl)
    cases_kept (has.one_case {variables = v} {c = c} {rest = cs} {s = s} {t = t} {ss = ss} {ts = ts}
        h k hs) =
        first_case v c cs s t ss ts (kept h) (kept k) (cases_kept hs)

pub unrefused_where_typed : (scope : Scope) → IsWhole scope → UnrefusedWhereTyped scope
unrefused_where_typed scope whole t variables = (
  λ h. ((checked scope t variables).type, found scope whole t variables h),
  λ h. (kept scope h.1).0,
)

pub types_are_told : (scope : Scope) → TypesAreTold scope
types_are_told scope t variables s h = (kept scope h).1

pub types_are_unique : (scope : Scope) → TypesAreUnique scope
types_are_unique scope t variables type other h k = (kept scope h).1 ∙ sym (kept scope k).1

pub ruleset typed_terms = (unrefused_where_typed, types_are_told)
