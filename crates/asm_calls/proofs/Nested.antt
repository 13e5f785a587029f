-- No function and no macro rule of a program reaches itself, where it is made of definitions of
-- which none does.
use Rattle.std.proofs.Common.{◌≡◌, ℕ, zero, suc, ◌+◌, ◌<◌, max, true, false}
use Rattle.std.proofs.Common.{Option, Some, None, List, [], ◌∷◌, ◌++◌, map, length, slice_get, refl, sym}
use Rattle.std.proofs.Common.{ap, ◌∙◌}
use Rattle.std.specs.Option.{option_map_or}
use Rattle.std.specs.List.{AllByRecursion}
use Rattle.std.proofs.lemmas.Bool.{or_left, or_right}
use Rattle.std.proofs.lemmas.List.Folds.{list_any-append}
use Rattle.std.proofs.lemmas.Option.{slice_get_within}
use Rattle.asm_program.specs.declared.trees.Term.{Term}
use Rattle.asm_program.specs.declared.trees.Case.{Case}
use Rattle.asm_program.specs.declared.trees.Term.TheOpen.{Term-F}
use Rattle.asm_program.specs.declared.trees.Term.TheViews.{out-Term}
use Rattle.asm_program.specs.declared.trees.Rule.{Rule}
use Rattle.asm_program.specs.declared.trees.RuleCase.{RuleCase}
use Rattle.asm_program.specs.declared.trees.Rule.TheOpen.{Rule-F}
use Rattle.asm_program.specs.declared.trees.Rule.TheViews.{out-Rule}
use Rattle.asm_program.specs.declared.trees.Rule.TheFolds.{map-Rule}
use Rattle.asm_program.specs.declared.program.FunctionInfo.{FunctionInfo}
use Rattle.asm_program.specs.declared.program.MacroInfo.{MacroInfo}
use Rattle.asm_program.specs.Forms.{optional, called, of_term, of_function, body_in, body_of}
use Rattle.asm_program.specs.Forms.{rule_parts, rule_called, of_rule, of_macro, rule_in, rule_of}
use Rattle.asm_program.specs.Nesting.{greatest, nesting_level, nesting, rule_nesting_level, rule_nesting}
use Rattle.asm_program.proofs.RuleParts.{case_rule, case_term, sub_rules, of_rule-out}
use Rattle.asm_program.proofs.RuleParts as rules_
use Rattle.asm_calls.specs.Orders.{reached}
use Rattle.asm_calls.specs.Nested.{all_of, called_level, functions_called, has_number, FunctionsAreRanked}
use Rattle.asm_calls.specs.Nested.{called_rule_level, macros_called, MacrosAreRanked}
use Rattle.asm_calls.proofs.Reaching.{itself, reached_ranks}
use Rattle.asm_calls.proofs.TermParts.{sub_terms, by_parts, of_term-out, parts-said, called-said}
use Rattle.asm_calls.proofs.Ranked.{all_settled}

-- ---- numbers in lists

has_left : (xs ys : List ℕ) (g : ℕ) → has_number xs g ≡ true → has_number (xs ++ ys) g ≡ true
has_left xs ys g h =
    list_any-append _ xs ys ∙ or_left (has_number xs g) (has_number ys g) h

has_right : (xs ys : List ℕ) (g : ℕ) → has_number ys g ≡ true → has_number (xs ++ ys) g ≡ true
has_right xs ys g h =
    list_any-append _ xs ys ∙ or_right (has_number xs g) (has_number ys g) h

-- two calls agree on these
abbrev Agree : (ℕ → ℕ) → (ℕ → ℕ) → List ℕ → Type 0
Agree these those xs = (g : ℕ) → has_number xs g ≡ true → these g ≡ those g

abbrev deepest : (ℕ → ℕ) → Option ℕ → ℕ
deepest calls o = option_map_or (λ f. 1 + calls f) o 0

same_deepest : (these those : ℕ → ℕ) (o : Option ℕ) → Agree these those (optional o)
    → deepest these o ≡ deepest those o
same_deepest these those None h = refl
same_deepest these those (Some f) h =
    ap (λ n. 1 + n) (h f (or_left _ false (itself f)))

module _ {T : Type 0} (one other : T → ℕ) (names : T → List ℕ) (these those : ℕ → ℕ) where
  -- where each part is said alike, the greatest is
  same_greatest : (ts : List T)
      → AllByRecursion (λ t. Agree these those (names t) → one t ≡ other t) ts
      → Agree these those (all_of (map names ts))
      → greatest (map one ts) ≡ greatest (map other ts)
  same_greatest [] h agree = refl
  same_greatest (t ∷ ts) h agree =
      let here = h.0 (λ g k. agree g (has_left (names t) (all_of (map names ts)) g k)) in
      let later = same_greatest ts h.1
      (λ g k. agree g (has_right (names t) (all_of (map names ts)) g k)) in
      (λ i. max (here i) (later i))

-- ---- terms

module _ (these those : ℕ → ℕ) where
  abbrev Same : Term → Type 0
  Same t =
      Agree these those (functions_called t)
      → of_term nesting_level these t ≡ of_term nesting_level those t

  nests : (calls : ℕ → ℕ) (t : Term) (a : Term-F Term Case) → out-Term t ≡ a
      → of_term nesting_level calls t
      ≡ max (greatest (map (of_term nesting_level calls) (sub_terms a))) (deepest calls (called a))
  nests calls t a e =
      of_term-out nesting_level calls t a e
      ∙ (λ i. max (greatest (parts-said nesting_level calls a i))
      (deepest calls (called-said nesting_level calls a i)))

  names_of : (t : Term) (a : Term-F Term Case) → out-Term t ≡ a
      → functions_called t ≡ optional (called a) ++ all_of (map functions_called (sub_terms a))
  names_of t a e =
      of_term-out called_level (λ f. []) t a e
      ∙ (λ i. optional (called-said called_level (λ f. []) a i)
      ++ all_of (parts-said called_level (λ f. []) a i))

  term_by : (t : Term) (a : Term-F Term Case) → out-Term t ≡ a
      → AllByRecursion Same (sub_terms a) → Same t
  term_by t a e h agree =
      let names = names_of t a e in
      let whole : Agree these those (optional (called a) ++ all_of (map functions_called
      (sub_terms a))) = λ g k. agree g (ap (λ xs. has_number xs g) names ∙ k) in
      let parts_ = same_greatest (of_term nesting_level these) (of_term nesting_level those)
      functions_called these those (sub_terms a) h
      (λ g k. whole g (has_right (optional (called a)) (all_of (map functions_called
      (sub_terms a))) g k)) in
      let calls_ = same_deepest these those (called a)
      (λ g k. whole g (has_left (optional (called a)) (all_of (map functions_called
      (sub_terms a))) g k)) in
      nests these t a e ∙ (λ i. max (parts_ i) (calls_ i)) ∙ sym (nests those t a e)

  same_term : (t : Term) → Same t
  same_term = by_parts Same term_by

body_within : (functions : List FunctionInfo) (f : ℕ) (o : Option FunctionInfo) (body : Term)
    → slice_get functions f ≡ o → body_in o ≡ Some body → f < length functions
body_within functions f None body g e = absurd (cc)
body_within functions f (Some info) body g e = slice_get_within functions f info g

no_calls : (functions : List FunctionInfo) (f : ℕ) → nesting functions zero f ≡ 0
unfolding of_function
no_calls functions f = refl

one_more : (functions : List FunctionInfo) (n f : ℕ) → nesting functions (suc n) f
    ≡ option_map_or (of_term nesting_level (nesting functions n)) (body_of functions f) 0
unfolding of_function
one_more functions n f = refl

pub functions_ranked : FunctionsAreRanked
functions_ranked graph definition functions none lie =
    all_settled {B = Term} (length functions) (body_of functions)
    (λ f b e. body_within functions f (slice_get functions f) b refl e)
    (of_term nesting_level) functions_called (λ these those b agree. same_term these those b agree)
    (nesting functions) (no_calls functions) (one_more functions)
    (λ f. reached graph (definition f))
    (λ f g b other e d t.
    let in_graph = lie f g b other e d t in
    (reached_ranks graph none).falls (definition f) (definition g) in_graph.0 in_graph.1)

-- ---- rules

module _ {X : Type 0} (level : (ℕ → X) → Rule-F X (Term × X) → X) (calls : ℕ → X) where
  abbrev rule_of_case : RuleCase → Term × X
  rule_of_case c = (case_term c, of_rule level calls (case_rule c))

  abbrev said_rule : Rule-F Rule RuleCase → Rule-F X (Term × X)
  said_rule a = map-Rule Rule RuleCase X (Term × X) (of_rule level calls) rule_of_case a

  cases_map : (cases : List RuleCase) (others : List Rule)
      → map (λ (c : Term × X). c.1) (map rule_of_case cases) ++ map (of_rule level calls) others
      ≡ map (of_rule level calls) (map case_rule cases ++ others)
  cases_map [] others = refl
  cases_map (c ∷ cases) others =
      ap (λ xs. of_rule level calls (case_rule c) ∷ xs) (cases_map cases others)

  rule_parts-said : (a : Rule-F Rule RuleCase)
      → rule_parts (said_rule a) ≡ map (of_rule level calls) (sub_rules a)
  rule_parts-said Rule-F.Skip = refl
  rule_parts-said (Rule-F.Call m args) = refl
  rule_parts-said (Rule-F.Update f args value span) = refl
  rule_parts-said (Rule-F.Par parts_ span) = refl
  rule_parts-said (Rule-F.Seq parts_ span) = refl
  rule_parts-said (Rule-F.If guard first None) = refl
  rule_parts-said (Rule-F.If guard first (Some other)) = refl
  rule_parts-said (Rule-F.Forall ranges guard body span) = refl
  rule_parts-said (Rule-F.Choose ranges guard body None place) = refl
  rule_parts-said (Rule-F.Choose ranges guard body (Some other) place) = refl
  rule_parts-said (Rule-F.Let values body) = refl
  rule_parts-said (Rule-F.Switch v cases None) = cases_map cases []
  rule_parts-said (Rule-F.Switch v cases (Some other)) = cases_map cases (other ∷ [])
  rule_parts-said (Rule-F.Extend d count body span) = refl

  rule_called-said : (a : Rule-F Rule RuleCase) → rule_called (said_rule a) ≡ rule_called a
  rule_called-said Rule-F.Skip = refl
  rule_called-said (Rule-F.Call m args) = refl
  rule_called-said (Rule-F.Update f args value span) = refl
  rule_called-said (Rule-F.Par parts_ span) = refl
  rule_called-said (Rule-F.Seq parts_ span) = refl
  rule_called-said (Rule-F.If guard first other) = refl
  rule_called-said (Rule-F.Forall ranges guard body span) = refl
  rule_called-said (Rule-F.Choose ranges guard body other place) = refl
  rule_called-said (Rule-F.Let values body) = refl
  rule_called-said (Rule-F.Switch v cases other) = refl
  rule_called-said (Rule-F.Extend d count body span) = refl

module _ (these those : ℕ → ℕ) where
  abbrev SameRule : Rule → Type 0
  SameRule r =
      Agree these those (macros_called r)
      → of_rule rule_nesting_level these r ≡ of_rule rule_nesting_level those r

  rule_nests : (calls : ℕ → ℕ) (r : Rule) (a : Rule-F Rule RuleCase) → out-Rule r ≡ a
      → of_rule rule_nesting_level calls r
      ≡ max (greatest (map (of_rule rule_nesting_level calls) (sub_rules a)))
      (deepest calls (rule_called a))
  rule_nests calls r a e =
      of_rule-out rule_nesting_level calls r a e
      ∙ (λ i. max (greatest (rule_parts-said rule_nesting_level calls a i))
      (deepest calls (rule_called-said rule_nesting_level calls a i)))

  rule_names : (r : Rule) (a : Rule-F Rule RuleCase) → out-Rule r ≡ a
      → macros_called r ≡ optional (rule_called a) ++ all_of (map macros_called (sub_rules a))
  rule_names r a e =
      of_rule-out called_rule_level (λ m. []) r a e
      ∙ (λ i. optional (rule_called-said called_rule_level (λ m. []) a i)
      ++ all_of (rule_parts-said called_rule_level (λ m. []) a i))

  rule_by : (r : Rule) (a : Rule-F Rule RuleCase) → out-Rule r ≡ a
      → AllByRecursion SameRule (sub_rules a) → SameRule r
  rule_by r a e h agree =
      let names = rule_names r a e in
      let whole : Agree these those (optional (rule_called a) ++ all_of (map macros_called
      (sub_rules a))) = λ g k. agree g (ap (λ xs. has_number xs g) names ∙ k) in
      let parts_ = same_greatest (of_rule rule_nesting_level these)
      (of_rule rule_nesting_level those) macros_called these those (sub_rules a) h
      (λ g k. whole g (has_right (optional (rule_called a)) (all_of (map macros_called
      (sub_rules a))) g k)) in
      let calls_ = same_deepest these those (rule_called a)
      (λ g k. whole g (has_left (optional (rule_called a)) (all_of (map macros_called
      (sub_rules a))) g k)) in
      rule_nests these r a e ∙ (λ i. max (parts_ i) (calls_ i)) ∙ sym (rule_nests those r a e)

  same_rule : (r : Rule) → SameRule r
  same_rule = rules_.by_parts SameRule rule_by

rule_within : (macros : List MacroInfo) (m : ℕ) (o : Option MacroInfo) (body : Rule)
    → slice_get macros m ≡ o → rule_in o ≡ Some body → m < length macros
rule_within macros m None body g e = absurd (cc)
rule_within macros m (Some info) body g e = slice_get_within macros m info g

no_macro_calls : (macros : List MacroInfo) (m : ℕ) → rule_nesting macros zero m ≡ 0
unfolding of_macro
no_macro_calls macros m = refl

one_more_macro : (macros : List MacroInfo) (n m : ℕ) → rule_nesting macros (suc n) m
    ≡ option_map_or (of_rule rule_nesting_level (rule_nesting macros n)) (rule_of macros m) 0
unfolding of_macro
one_more_macro macros n m = refl

pub macros_ranked : MacrosAreRanked
macros_ranked graph definition macros none lie =
    all_settled {B = Rule} (length macros) (rule_of macros)
    (λ m b e. rule_within macros m (slice_get macros m) b refl e)
    (of_rule rule_nesting_level) macros_called
    (λ these those b agree. same_rule these those b agree)
    (rule_nesting macros) (no_macro_calls macros) (one_more_macro macros)
    (λ m. reached graph (definition m))
    (λ m k b other e d t.
    let in_graph = lie m k b other e d t in
    (reached_ranks graph none).falls (definition m) (definition k) in_graph.0 in_graph.1)
