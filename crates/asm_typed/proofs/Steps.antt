-- Typing of terms, form by form.
use Rattle.std.proofs.Common.{◌≡◌, ℕ, ◌+◌, ◌<◌, ◌≤◌, Bool, true, false, Option, Some, None, List, [], ◌∷◌, ◌++◌, length, map, drop, get_or, take, if◌then◌else◌, refl, sym, ap, ◌∙◌, append_assoc}
use Rattle.std.specs.Option.{option_map}
use Rattle.std.proofs.Math.Seq.{take-append_seam}
use Rattle.std.proofs.lemmas.List.{map-append, drop_all, drop_more, append-nil}
use Rattle.asm_value.specs.declared.domain.Domain.{Domain}
use Rattle.asm_value.specs.declared.value.Value.TheVariants as values
use Rattle.asm_syntax.specs.declared.token.Span.{Span}
use Rattle.asm_syntax.specs.declared.token.Token.{Token}
use Rattle.asm_syntax.specs.declared.tree.TermTree.{TermTree}
use Rattle.asm_syntax.specs.declared.tree.TermTree.TheOpen.{TermTree-F}
use Rattle.asm_syntax.specs.declared.tree.TermTree.TheFolds.{fold-TermsTree, fold-BindTree, fold-BindsTree, fold-CaseTree, fold_out-TermTree, fold_out-TermsTree, fold_out-BindTree, fold_out-BindsTree, fold_out-CaseTree, map-TermTree}
use Rattle.asm_syntax.specs.declared.tree.TermTree.TheViews.{out-TermTree, out-TermsTree, out-BindTree, out-BindsTree, out-CaseTree, the_lemmas}
use Rattle.asm_syntax.specs.declared.tree.TermsTree.{TermsTree}
use Rattle.asm_syntax.specs.declared.tree.BindTree.{BindTree}
use Rattle.asm_syntax.specs.declared.tree.BindsTree.{BindsTree}
use Rattle.asm_syntax.specs.declared.tree.CaseTree.{CaseTree}
use Rattle.asm_syntax.specs.Marks.{text_of}
use Rattle.asm_typing.specs.declared.types.Type.{«Type» as TermType}
use Rattle.asm_typing.specs.declared.types.Type.TheVariants as type
use Rattle.asm_typing.specs.Operators.{is_operator}
use Rattle.asm_program.specs.declared.trees.Term.{Term}
use Rattle.asm_program.specs.declared.trees.Case.{Case}
use Rattle.std.specs.List.{slice_get}
use Rattle.asm_program.specs.declared.trees.Term.TheVariants as terms
use Rattle.asm_program.specs.declared.type_refusal.TypeRefusal.{TypeRefusal}
use Rattle.asm_program.specs.DomainsPass.{number_in}
use Rattle.asm_program.specs.Items.{bind_level, binds_level, case_level, terms_level, listed_terms, terms_of, bind_of, binds_of, list_of_ranges}
use Rattle.asm_program.specs.Signatures.{Header}
use Rattle.asm_program.specs.TypedTerms as typed
use Rattle.asm_program.specs.TypedTerms.{Scope, Variables, Checked, Typing, TermLevel, Bound, checked, all_refused, types, checked_terms, some_checked, with_variable, unless}
use Rattle.asm_typed.specs.Answers.{settled, finished}
use Rattle.asm_typed.specs.Sizes.{ranges_refused, with_ranges, range_domains}
use Rattle.asm_typed.specs.Forms.{terms_at, args_at, listed_at, other_at, other_refused, bound_at, all_bound, case_at, cases_at, one_case_refused, case_values, case_terms, all_cases, all_case_refused, operated, binary, called, literal, other_name, named, tuple, set, sequence, interval, quantified, conditional, let_in, switched}
use Rattle.asm_typed.specs.Own.{operator_own}
use Rattle.asm_typed.proofs.Refusals.{settled-first, settled-rest, settled-memory, settled-head}
use Rattle.asm_typed.proofs.InRanges.{take-ranges, kept-pushed, kept-all}
use Rattle.asm_typed.proofs.Parts as parts

abbrev Form : Type 0
Form = TermTree-F TermTree BindTree BindsTree CaseTree TermsTree

abbrev TB : Type 0
TB = Token × Typing

abbrev TT : Type 0
TT = Typing × Typing

-- ---- what holds terms, folded

module _ (scope : Scope) where
  abbrev folded_terms : TermsTree → List Typing
  folded_terms = fold-TermsTree Typing TB (List TB) TT (List Typing) (typed.check_level scope) bind_level binds_level case_level terms_level

  abbrev folded_bind : BindTree → TB
  folded_bind = fold-BindTree Typing TB (List TB) TT (List Typing) (typed.check_level scope) bind_level binds_level case_level terms_level

  abbrev folded_binds : BindsTree → List TB
  folded_binds = fold-BindsTree Typing TB (List TB) TT (List Typing) (typed.check_level scope) bind_level binds_level case_level terms_level

  abbrev folded_case : CaseTree → TT
  folded_case = fold-CaseTree Typing TB (List TB) TT (List Typing) (typed.check_level scope) bind_level binds_level case_level terms_level

  terms-are : (t : TermsTree) → folded_terms t ≡ map (checked scope) (listed_terms t)
  unfolding checked
  terms-are t = fold_out-TermsTree Typing TB (List TB) TT (List Typing) (typed.check_level scope) bind_level binds_level case_level terms_level t

  abbrev bind_typing : BindTree → TB
  bind_typing b = ((bind_of b).0, checked scope (bind_of b).1)

  bind-is : (b : BindTree) → folded_bind b ≡ bind_typing b
  unfolding checked
  bind-is b = fold_out-BindTree Typing TB (List TB) TT (List Typing) (typed.check_level scope) bind_level binds_level case_level terms_level b

  map-binds : (bs : List BindTree) → map folded_bind bs ≡ map bind_typing bs
  map-binds [] = refl
  map-binds (b ∷ bs) = λ i. bind-is b i ∷ map-binds bs i

  binds-are : (b : BindsTree) → folded_binds b ≡ map bind_typing (binds_of b)
  binds-are b =
      fold_out-BindsTree Typing TB (List TB) TT (List Typing) (typed.check_level scope) bind_level binds_level case_level terms_level b
      ∙ (λ i. bind-is (out-BindsTree b).first i ∷ map-binds (out-BindsTree b).others i)

  case-is : (c : CaseTree) → folded_case c ≡ (checked scope (out-CaseTree c).value, checked scope (out-CaseTree c).term)
  unfolding checked
  case-is c = fold_out-CaseTree Typing TB (List TB) TT (List Typing) (typed.check_level scope) bind_level binds_level case_level terms_level c

  module _ (vs : Variables) where
    at-map : (ts : List TermTree) → typed.at vs (map (checked scope) ts) ≡ terms_at scope vs ts
    unfolding terms_at
    at-map [] = refl
    at-map (t ∷ ts) = ap (λ cs. checked scope t vs ∷ cs) (at-map ts)

    terms-at : (t : TermsTree) → typed.at vs (folded_terms t) ≡ listed_at scope vs t
    unfolding listed_at
    terms-at t = ap (typed.at vs) (terms-are t) ∙ at-map (listed_terms t)

    cases-at : (cs : List CaseTree) → typed.both_at vs (map folded_case cs) ≡ cases_at scope vs cs
    unfolding cases_at
    cases-at [] = refl
    cases-at (c ∷ cs) = λ i. ((case-is c i).0 vs, (case-is c i).1 vs) ∷ cases-at cs i

    bound-at : (b : BindsTree) → typed.bound vs (folded_binds b) ≡ all_bound scope vs b
    unfolding all_bound bound_at
    bound-at b = ap (typed.bound vs) (binds-are b)

    -- ---- forms

    abbrev pub term_form : Form → Checked
    term_form (TermTree-F.Prefix op t span) = operated op (checked scope t vs ∷ []) span
    term_form (TermTree-F.Binary left op right span) = binary op (checked scope left vs) (checked scope right vs) span
    term_form (TermTree-F.Number t span) = typed.literal span (values.Int (number_in t.kind)) type.Int
    term_form (TermTree-F.Chars t span) = typed.chars_checked t span
    term_form (TermTree-F.True span) = typed.literal span (values.Truth true) type.Truth
    term_form (TermTree-F.False span) = typed.literal span (values.Truth false) type.Truth
    term_form (TermTree-F.Undef span) = typed.literal span values.Undef type.Untyped
    term_form (TermTree-F.Var t span) = typed.variable_checked t span (typed.variable_at vs (text_of t))
    term_form (TermTree-F.Name t args span) = named scope t (args_at scope vs args) span
    term_form (TermTree-F.Tuple items span) = tuple (listed_at scope vs items) span
    term_form (TermTree-F.Forall ranges body span) =
        quantified terms.Forall (ranges_refused scope (list_of_ranges ranges)) (range_domains scope (list_of_ranges ranges))
        (checked scope body (with_ranges scope vs (list_of_ranges ranges))) span
    term_form (TermTree-F.Exist unique ranges body span) =
        quantified (typed.exists_form unique) (ranges_refused scope (list_of_ranges ranges)) (range_domains scope (list_of_ranges ranges))
        (checked scope body (with_ranges scope vs (list_of_ranges ranges))) span
    term_form (TermTree-F.Interval from to span) = interval (checked scope from vs) (checked scope to vs) span
    term_form (TermTree-F.Set items span) = set (args_at scope vs items) span
    term_form (TermTree-F.Seq items span) = sequence (args_at scope vs items) span
    term_form (TermTree-F.If guard first other span) = conditional (checked scope guard vs) (checked scope first vs) (other_at scope vs other) span
    term_form (TermTree-F.Let binds body span) = let_in (all_bound scope vs binds) (checked scope body (all_bound scope vs binds).variables) span
    term_form (TermTree-F.Switch t cases other span) = switched (checked scope t vs) (cases_at scope vs cases) (other_at scope vs other) span

    abbrev mapped : Form → TermLevel
    mapped f = map-TermTree TermTree BindTree BindsTree CaseTree TermsTree Typing TB (List TB) TT (List Typing) (checked scope) folded_bind folded_binds folded_case folded_terms f

    args-some : (t : TermsTree) → typed.at vs (folded_terms t) ≡ args_at scope vs (Some t)
    unfolding args_at listed_at
    args-some t = terms-at t

    same_form : (f : Form) → typed.check_level scope (mapped f) vs ≡ term_form f
    unfolding operated binary named args_at terms_at tuple quantified ranges_refused range_domains with_ranges interval set sequence conditional other_at let_in switched
    same_form (TermTree-F.Prefix op t span) = refl
    same_form (TermTree-F.Binary left op right span) = refl
    same_form (TermTree-F.Number t span) = refl
    same_form (TermTree-F.Chars t span) = refl
    same_form (TermTree-F.True span) = refl
    same_form (TermTree-F.False span) = refl
    same_form (TermTree-F.Undef span) = refl
    same_form (TermTree-F.Var t span) = refl
    same_form (TermTree-F.Name t None span) = refl
    same_form (TermTree-F.Name t (Some args) span) = ap (λ cs. typed.name_checked scope t cs span) (args-some args)
    same_form (TermTree-F.Tuple items span) = ap (λ cs. typed.tuple_checked cs span) (terms-at items)
    same_form (TermTree-F.Forall ranges body span) = refl
    same_form (TermTree-F.Exist unique ranges body span) = refl
    same_form (TermTree-F.Interval from to span) = refl
    same_form (TermTree-F.Set None span) = refl
    same_form (TermTree-F.Set (Some items) span) = ap (λ cs. typed.items_checked type.Set terms.Set cs span) (args-some items)
    same_form (TermTree-F.Seq None span) = refl
    same_form (TermTree-F.Seq (Some items) span) = ap (λ cs. typed.items_checked type.Seq terms.Seq cs span) (args-some items)
    same_form (TermTree-F.If guard first None span) = refl
    same_form (TermTree-F.If guard first (Some other) span) = refl
    same_form (TermTree-F.Let binds body span) = ap (λ b. typed.let_checked b (checked scope body b.variables) span) (bound-at binds)
    same_form (TermTree-F.Switch t cases None span) = ap (λ cs. typed.switch_checked (checked scope t vs) cs None span) (cases-at cases)
    same_form (TermTree-F.Switch t cases (Some other) span) =
        ap (λ cs. typed.switch_checked (checked scope t vs) cs (Some (checked scope other vs)) span) (cases-at cases)

    out-level : (t : TermTree) → checked scope t vs ≡ typed.check_level scope (mapped (out-TermTree t)) vs
    unfolding checked
    out-level t = ap (λ f. f vs) (fold_out-TermTree Typing TB (List TB) TT (List Typing) (typed.check_level scope) bind_level binds_level case_level terms_level t)

    pub checked-out : (t : TermTree) → checked scope t vs ≡ term_form (out-TermTree t)
    checked-out t = out-level t ∙ same_form (out-TermTree t)

-- ---- lists of terms

module _ (scope : Scope) (vs : Variables) (ts : List TermTree) (i : ℕ) (d : TermTree) where
  terms-drop : i < length ts → terms_at scope vs (drop i ts) ≡ checked scope (get_or ts i d) vs ∷ terms_at scope vs (drop (i + 1) ts)
  unfolding terms_at
  terms-drop h = ap (map (λ t. checked scope t vs)) (drop_more ts i d h)

  pub terms-next : i < length ts → (checked scope (get_or ts i d) vs).refused ≡ []
      → all_refused (terms_at scope vs (drop (i + 1) ts)) ≡ all_refused (terms_at scope vs (drop i ts))
  terms-next h none =
      sym (ap all_refused (terms-drop h) ∙ ap (λ rs. rs ++ all_refused (terms_at scope vs (drop (i + 1) ts))) none)

  pub terms-stop : (why : TypeRefusal) → i < length ts → settled why (checked scope (get_or ts i d) vs).refused ≡ why
      → settled why (all_refused (terms_at scope vs (drop i ts))) ≡ why
  terms-stop why h first =
      ap (λ cs. settled why (all_refused cs)) (terms-drop h)
      ∙ settled-first why (checked scope (get_or ts i d) vs).refused (all_refused (terms_at scope vs (drop (i + 1) ts))) first

  pub types-drop : (us : List TermType) → i < length ts
      → us ++ types (terms_at scope vs (drop i ts))
      ≡ (us ++ (checked scope (get_or ts i d) vs).type ∷ []) ++ types (terms_at scope vs (drop (i + 1) ts))
  types-drop us h =
      ap (λ cs. us ++ types cs) (terms-drop h)
      ∙ sym (append_assoc us ((checked scope (get_or ts i d) vs).type ∷ []) (types (terms_at scope vs (drop (i + 1) ts))))

  pub made-drop : (us : List Term) → i < length ts
      → us ++ checked_terms (terms_at scope vs (drop i ts))
      ≡ (us ++ (checked scope (get_or ts i d) vs).term ∷ []) ++ checked_terms (terms_at scope vs (drop (i + 1) ts))
  made-drop us h =
      ap (λ cs. us ++ checked_terms cs) (terms-drop h)
      ∙ sym (append_assoc us ((checked scope (get_or ts i d) vs).term ∷ []) (checked_terms (terms_at scope vs (drop (i + 1) ts))))

module _ (scope : Scope) (vs : Variables) (ts : List TermTree) (i : ℕ) where
  terms-none : length ts ≤ i → terms_at scope vs (drop i ts) ≡ []
  unfolding terms_at
  terms-none h = ap (map (λ t. checked scope t vs)) (drop_all i ts h)

  pub terms-end : length ts ≤ i → all_refused (terms_at scope vs (drop i ts)) ≡ []
  terms-end h = ap all_refused (terms-none h)

  pub types-end : (us : List TermType) → length ts ≤ i → us ++ types (terms_at scope vs (drop i ts)) ≡ us
  types-end us h = ap (λ cs. us ++ types cs) (terms-none h) ∙ append-nil us

  pub made-end : (us : List Term) → length ts ≤ i → us ++ checked_terms (terms_at scope vs (drop i ts)) ≡ us
  made-end us h = ap (λ cs. us ++ checked_terms cs) (terms-none h) ∙ append-nil us

pub ruleset one_steps = (settled-memory, the_lemmas)

pub ruleset more_steps = (settled-memory, terms-next, terms-stop, types-drop, made-drop, terms-end, types-end, made-end, the_lemmas)

module _ (scope : Scope) (vs : Variables) (t : TermsTree) where
  abbrev first_of : Checked
  first_of = checked scope (out-TermsTree t).first vs

  abbrev rest_of : List Checked
  rest_of = terms_at scope vs (out-TermsTree t).others

  listed-cons : listed_at scope vs t ≡ first_of ∷ rest_of
  unfolding listed_at terms_at
  listed-cons = refl

  pub listed-first : (why : TypeRefusal) → settled why first_of.refused ≡ why → settled why (all_refused (listed_at scope vs t)) ≡ why
  listed-first why h = ap (λ cs. settled why (all_refused cs)) listed-cons ∙ settled-first why first_of.refused (all_refused rest_of) h

  pub listed-rest : first_of.refused ≡ [] → all_refused (listed_at scope vs t) ≡ all_refused rest_of
  listed-rest h = ap all_refused listed-cons ∙ ap (λ rs. rs ++ all_refused rest_of) h

  pub listed-types : types (listed_at scope vs t) ≡ ([] ++ first_of.type ∷ []) ++ types rest_of
  listed-types = ap types listed-cons

  pub listed-made : checked_terms (listed_at scope vs t) ≡ ([] ++ first_of.term ∷ []) ++ checked_terms rest_of
  listed-made = ap checked_terms listed-cons

  pub args-listed : args_at scope vs (Some t) ≡ listed_at scope vs t
  unfolding args_at listed_at
  args-listed = refl

pub args-no : (scope : Scope) (vs : Variables) → args_at scope vs None ≡ []
unfolding args_at terms_at
args-no scope vs = refl

pub other-no : (scope : Scope) (vs : Variables) → other_at scope vs None ≡ None
unfolding other_at
other-no scope vs = refl

pub other-some : (scope : Scope) (vs : Variables) (t : TermTree) → other_at scope vs (Some t) ≡ Some (checked scope t vs)
unfolding other_at
other-some scope vs t = refl

pub refused-no : other_refused None ≡ []
unfolding other_refused
refused-no = refl

pub refused-some : (c : Checked) → other_refused (Some c) ≡ c.refused
unfolding other_refused
refused-some c = append-nil c.refused

pub ruleset listed_steps = (settled-memory, listed-first, listed-rest, listed-types, listed-made, the_lemmas)

pub ruleset args_steps = (args-listed, args-no, the_lemmas)

pub ruleset other_steps = (other-no, other-some, refused-no, refused-some, the_lemmas)

-- ---- operators and names

pub alone-first : (why : TypeRefusal) (c : Checked) → settled why c.refused ≡ why → settled why (all_refused (c ∷ [])) ≡ why
alone-first why c h = settled-first why c.refused [] h

pub alone-none : (c : Checked) → c.refused ≡ [] → all_refused (c ∷ []) ≡ []
alone-none c h = ap (λ rs. rs ++ []) h

pub prefixed-first : (why : TypeRefusal) (op : List ℕ) (c : Checked) (span : Span) → settled why c.refused ≡ why → settled why (operated op (c ∷ []) span).refused ≡ why
prefixed-first why op c span h = parts.operated-args (c ∷ []) span why op (alone-first why c h)

pub prefixed-own : (op : List ℕ) (c : Checked) (span : Span) → c.refused ≡ [] → operated op (c ∷ []) span ≡ operator_own op ([] ++ c.type ∷ []) ([] ++ c.term ∷ []) span
prefixed-own op c span h = parts.operated-own (c ∷ []) span op (alone-none c h)

pub ruleset prefix_steps = (settled-memory, prefixed-first, prefixed-own)

pub ruleset called_steps = (settled-memory, parts.called-args, parts.called-own)

pub ruleset literal_steps = (settled-memory, parts.literal-args, parts.literal-own)

module _ (scope : Scope) (t : Token) (cs : List Checked) (span : Span) where
  abbrev unknown_name : Checked
  unknown_name = record {
    refused = typed.unknown t ∷ all_refused cs;
    type = type.Untyped;
    term = terms.Constant values.Undef;
    span = span;
  }

  abbrev by_operator : Bool → Checked
  by_operator b = if b then typed.operator_checked (text_of t) cs span else unknown_name

  pub other-operator : is_operator (text_of t) ≡ true → other_name scope t cs span ≡ operated (text_of t) cs span
  unfolding other_name operated
  other-operator h = ap by_operator h

  pub other-unknown : (why : TypeRefusal) → is_operator (text_of t) ≡ false → settled why (typed.unknown t ∷ []) ≡ why → settled why (other_name scope t cs span).refused ≡ why
  unfolding other_name
  other-unknown why h e =
      ap (λ b. settled why (by_operator b).refused) h
      ∙ settled-first why (typed.unknown t ∷ []) (all_refused cs) e

pub ruleset other_name_steps = (settled-memory, other-operator, other-unknown, parts.operated-args, parts.operated-own)

pub ruleset tuple_steps = (settled-memory, parts.tuple-args, parts.tuple-own)

pub ruleset set_steps = (settled-memory, parts.set-args, parts.set-own)

pub ruleset sequence_steps = (settled-memory, parts.sequence-args, parts.sequence-own)

pub ruleset quantifier_steps = (settled-memory, parts.quantified-ranges, parts.quantified-body, parts.quantified-none, take-ranges)

pub called-at : (scope : Scope) (f : ℕ) (h : Header) (cs : List Checked) (span : Span) → Some h ≡ slice_get scope.functions f
    → called scope f h cs span ≡ typed.function_checked scope f (slice_get scope.functions f) cs span
unfolding called
called-at scope f h cs span k = ap (λ o. typed.function_checked scope f o cs span) k

pub ruleset name_steps = (settled-memory, called-at)

-- ---- bound variables

module _ (scope : Scope) where
  bound-cons : (vs : Variables) (b : BindTree) (bs : List BindTree)
      → bound_at scope vs (b ∷ bs)
      ≡ typed.bound_first (checked scope (bind_of b).1 vs) (bound_at scope (with_variable vs (bind_of b).0 (checked scope (bind_of b).1 vs).type) bs)
  unfolding bound_at
  bound-cons vs b bs = refl

  bound-nil : (vs : Variables) → bound_at scope vs [] ≡ record { refused = []; terms = []; variables = vs }
  unfolding bound_at
  bound-nil vs = refl

  module _ (vs : Variables) (bs : List BindTree) (i : ℕ) (d : BindTree) where
    abbrev value_of : Checked
    value_of = checked scope (bind_of (get_or bs i d)).1 vs

    abbrev then_of : Bound
    then_of = bound_at scope (with_variable vs (bind_of (get_or bs i d)).0 value_of.type) (drop (i + 1) bs)

    bound-drop : i < length bs → bound_at scope vs (drop i bs) ≡ typed.bound_first value_of then_of
    bound-drop h = ap (bound_at scope vs) (drop_more bs i d h) ∙ bound-cons vs (get_or bs i d) (drop (i + 1) bs)

    pub bound-next : i < length bs → value_of.refused ≡ [] → (bound_at scope vs (drop i bs)).refused ≡ then_of.refused
    bound-next h none = ap (λ (b : Bound). b.refused) (bound-drop h) ∙ ap (λ rs. rs ++ then_of.refused) none

    pub bound-stop : (why : TypeRefusal) → i < length bs → settled why value_of.refused ≡ why → settled why (bound_at scope vs (drop i bs)).refused ≡ why
    bound-stop why h first = ap (λ (b : Bound). settled why b.refused) (bound-drop h) ∙ settled-first why value_of.refused then_of.refused first

    pub bound-terms : (ts : List Term) → i < length bs → ts ++ (bound_at scope vs (drop i bs)).terms ≡ (ts ++ value_of.term ∷ []) ++ then_of.terms
    bound-terms ts h = ap (λ (b : Bound). ts ++ b.terms) (bound-drop h) ∙ sym (append_assoc ts (value_of.term ∷ []) then_of.terms)

    pub bound-variables : i < length bs → (bound_at scope vs (drop i bs)).variables ≡ then_of.variables
    bound-variables h = ap (λ (b : Bound). b.variables) (bound-drop h)

  module _ (vs : Variables) (bs : List BindTree) (i : ℕ) where
    bound-end : length bs ≤ i → bound_at scope vs (drop i bs) ≡ record { refused = []; terms = []; variables = vs }
    bound-end h = ap (bound_at scope vs) (drop_all i bs h) ∙ bound-nil vs

    pub bound-end_refused : length bs ≤ i → (bound_at scope vs (drop i bs)).refused ≡ []
    bound-end_refused h = ap (λ (b : Bound). b.refused) (bound-end h)

    pub bound-end_terms : (ts : List Term) → length bs ≤ i → ts ++ (bound_at scope vs (drop i bs)).terms ≡ ts
    bound-end_terms ts h = ap (λ (b : Bound). ts ++ b.terms) (bound-end h) ∙ append-nil ts

    pub bound-end_variables : length bs ≤ i → (bound_at scope vs (drop i bs)).variables ≡ vs
    bound-end_variables h = ap (λ (b : Bound). b.variables) (bound-end h)

  module _ (vs : Variables) (b : BindsTree) where
    abbrev first_value : Checked
    first_value = checked scope (bind_of (out-BindsTree b).first).1 vs

    abbrev after_first : Bound
    after_first = bound_at scope (with_variable vs (bind_of (out-BindsTree b).first).0 first_value.type) (out-BindsTree b).others

    all-cons : all_bound scope vs b ≡ typed.bound_first first_value after_first
    unfolding all_bound
    all-cons = bound-cons vs (out-BindsTree b).first (out-BindsTree b).others

    pub all-first : (why : TypeRefusal) → settled why first_value.refused ≡ why → settled why (all_bound scope vs b).refused ≡ why
    all-first why h = ap (λ (c : Bound). settled why c.refused) all-cons ∙ settled-first why first_value.refused after_first.refused h

    pub all-rest : first_value.refused ≡ [] → (all_bound scope vs b).refused ≡ after_first.refused
    all-rest h = ap (λ (c : Bound). c.refused) all-cons ∙ ap (λ rs. rs ++ after_first.refused) h

    pub all-terms : (all_bound scope vs b).terms ≡ ([] ++ first_value.term ∷ []) ++ after_first.terms
    all-terms = ap (λ (c : Bound). c.terms) all-cons

    pub all-variables : (all_bound scope vs b).variables ≡ after_first.variables
    all-variables = ap (λ (c : Bound). c.variables) all-cons

  more : Variables → List BindTree → Variables
  more vs [] = []
  more vs (b ∷ bs) =
      let v : List ℕ × TermType = (text_of (bind_of b).0, (checked scope (bind_of b).1 vs).type) in
      v ∷ more (vs ++ v ∷ []) bs

  bound-more : (vs : Variables) (bs : List BindTree) → (bound_at scope vs bs).variables ≡ vs ++ more vs bs
  unfolding bound_at more
  bound-more vs [] = sym (append-nil vs)
  bound-more vs (b ∷ bs) =
      let v : List ℕ × TermType = (text_of (bind_of b).0, (checked scope (bind_of b).1 vs).type) in
      bound-more (vs ++ v ∷ []) bs ∙ append_assoc vs (v ∷ []) (more (vs ++ v ∷ []) bs)

  pub take-bound : (vs : Variables) (b : BindsTree) → take (length vs) (all_bound scope vs b).variables ≡ vs
  unfolding all_bound
  take-bound vs b = ap (take (length vs)) (bound-more vs (binds_of b)) ∙ take-append_seam vs (more vs (binds_of b))

pub ruleset more_binds_steps =
    (settled-memory, kept-pushed, kept-all, bound-next, bound-stop, bound-terms, bound-variables, bound-end_refused, bound-end_terms, bound-end_variables, the_lemmas)

pub ruleset bind_steps = (settled-memory, the_lemmas)

pub ruleset binds_steps = (settled-memory, kept-pushed, kept-all, all-first, all-rest, all-terms, all-variables, the_lemmas)

-- ---- switches

pub one-value : (why : TypeRefusal) (c : Checked × Checked) → settled why c.0.refused ≡ why → settled why (one_case_refused c) ≡ why
unfolding one_case_refused
one-value why c h = settled-first why c.0.refused c.1.refused h

pub one-term : (why : TypeRefusal) (c : Checked × Checked) → c.0.refused ≡ [] → settled why c.1.refused ≡ why → settled why (one_case_refused c) ≡ why
unfolding one_case_refused
one-term why c none h = settled-rest why c.0.refused c.1.refused none h

pub one-none : (c : Checked × Checked) → c.0.refused ≡ [] → c.1.refused ≡ [] → one_case_refused c ≡ []
unfolding one_case_refused
one-none c a b = ap (λ rs. rs ++ c.1.refused) a ∙ b

pub ruleset case_steps = (settled-memory, one-value, one-term, one-none, the_lemmas)

module _ (scope : Scope) (vs : Variables) (ts : List CaseTree) (i : ℕ) (d : CaseTree) where
  abbrev this_case : Checked × Checked
  this_case = case_at scope vs (get_or ts i d)

  cases-drop : i < length ts → cases_at scope vs (drop i ts) ≡ this_case ∷ cases_at scope vs (drop (i + 1) ts)
  unfolding cases_at
  cases-drop h = ap (map (case_at scope vs)) (drop_more ts i d h)

  pub cases-next : i < length ts → one_case_refused this_case ≡ []
      → all_case_refused (cases_at scope vs (drop (i + 1) ts)) ≡ all_case_refused (cases_at scope vs (drop i ts))
  unfolding all_case_refused one_case_refused
  cases-next h none =
      let rest = all_case_refused (cases_at scope vs (drop (i + 1) ts)) in
      sym (ap all_case_refused (cases-drop h)
      ∙ ap (λ rs. rs ++ rest) none)

  pub cases-stop : (why : TypeRefusal) → i < length ts → settled why (one_case_refused this_case) ≡ why
      → settled why (all_case_refused (cases_at scope vs (drop i ts))) ≡ why
  unfolding all_case_refused one_case_refused
  cases-stop why h first =
      let rest = all_case_refused (cases_at scope vs (drop (i + 1) ts)) in
      ap (λ cs. settled why (all_case_refused cs)) (cases-drop h)
      ∙ settled-first why (this_case.0.refused ++ this_case.1.refused) rest first

  pub values-drop : (us : List TermType) → i < length ts
      → us ++ case_values (cases_at scope vs (drop i ts)) ≡ (us ++ this_case.0.type ∷ []) ++ case_values (cases_at scope vs (drop (i + 1) ts))
  unfolding case_values
  values-drop us h =
      ap (λ cs. us ++ case_values cs) (cases-drop h)
      ∙ sym (append_assoc us (this_case.0.type ∷ []) (case_values (cases_at scope vs (drop (i + 1) ts))))

  pub case_terms-drop : (us : List TermType) → i < length ts
      → us ++ case_terms (cases_at scope vs (drop i ts)) ≡ (us ++ this_case.1.type ∷ []) ++ case_terms (cases_at scope vs (drop (i + 1) ts))
  unfolding case_terms
  case_terms-drop us h =
      ap (λ cs. us ++ case_terms cs) (cases-drop h)
      ∙ sym (append_assoc us (this_case.1.type ∷ []) (case_terms (cases_at scope vs (drop (i + 1) ts))))

  pub all_cases-drop : (us : List Case) → i < length ts
      → us ++ all_cases (cases_at scope vs (drop i ts)) ≡ (us ++ typed.case_of this_case ∷ []) ++ all_cases (cases_at scope vs (drop (i + 1) ts))
  unfolding all_cases
  all_cases-drop us h =
      ap (λ cs. us ++ all_cases cs) (cases-drop h)
      ∙ sym (append_assoc us (typed.case_of this_case ∷ []) (all_cases (cases_at scope vs (drop (i + 1) ts))))

module _ (scope : Scope) (vs : Variables) (ts : List CaseTree) (i : ℕ) where
  cases-none : length ts ≤ i → cases_at scope vs (drop i ts) ≡ []
  unfolding cases_at
  cases-none h = ap (map (case_at scope vs)) (drop_all i ts h)

  pub cases-end : length ts ≤ i → all_case_refused (cases_at scope vs (drop i ts)) ≡ []
  unfolding all_case_refused
  cases-end h = ap all_case_refused (cases-none h)

  pub values-end : (us : List TermType) → length ts ≤ i → us ++ case_values (cases_at scope vs (drop i ts)) ≡ us
  unfolding case_values
  values-end us h = ap (λ cs. us ++ case_values cs) (cases-none h) ∙ append-nil us

  pub case_terms-end : (us : List TermType) → length ts ≤ i → us ++ case_terms (cases_at scope vs (drop i ts)) ≡ us
  unfolding case_terms
  case_terms-end us h = ap (λ cs. us ++ case_terms cs) (cases-none h) ∙ append-nil us

  pub all_cases-end : (us : List Case) → length ts ≤ i → us ++ all_cases (cases_at scope vs (drop i ts)) ≡ us
  unfolding all_cases
  all_cases-end us h = ap (λ cs. us ++ all_cases cs) (cases-none h) ∙ append-nil us

pub ruleset cases_steps =
    (settled-memory, cases-next, cases-stop, values-drop, case_terms-drop, all_cases-drop, cases-end, values-end, case_terms-end, all_cases-end, the_lemmas)

-- ---- terms

pub ruleset term_steps =
    (settled-memory, checked-out, parts.binary-left, parts.binary-right, parts.interval-left, parts.interval-right, parts.conditional-guard, parts.conditional-first, parts.conditional-other, parts.conditional-own, parts.let-bound, parts.let-body, parts.let-none, parts.let-done, take-bound, parts.switched-value, parts.switched-cases, parts.switched-other, parts.switched-own, the_lemmas)
