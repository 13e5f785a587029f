-- What is so of a sorted rule: of what it sets and extends, of its terms and of its parts. A sorted
-- program extends abstract domains alone.
use Rattle.std.proofs.Common.{◌≡◌, ℕ, zero, suc, Bool, true, Some, None, List}
use Rattle.std.proofs.Common.{[], ◌∷◌, ◌++◌, map, slice_get, refl, sym, subst, ◌∙◌}
use Rattle.std.specs.List.{AllByRecursion, list_all}
use Rattle.asm_value.specs.Living.{is_abstract}
use Rattle.asm_program.specs.declared.trees.Term.{Term}
use Rattle.asm_program.specs.declared.trees.Rule.{Rule}
use Rattle.asm_program.specs.declared.trees.RuleCase.{RuleCase}
use Rattle.asm_program.specs.declared.trees.Rule.TheOpen.{Rule-F}
use Rattle.asm_program.specs.declared.trees.Rule.TheFolds.{map-Rule}
use Rattle.asm_program.specs.declared.trees.Rule.TheViews.{out-Rule}
use Rattle.asm_program.specs.declared.program.MacroInfo.{MacroInfo}
use Rattle.asm_program.specs.declared.program.Program.{Program}
use Rattle.asm_program.specs.Forms.{rule_in, rule_of, rule_parts}
use Rattle.asm_program.specs.Numbered.{extends_level, extends_abstract, extends_are_abstract}
use Rattle.asm_program.proofs.RuleParts.{case_rule, case_term, sub_rules, by_parts, level_of}
use Rattle.asm_program.proofs.RuleParts.{of_rule-out}
use Rattle.asm_program.proofs.Sets.{and_first, and_second}
use Rattle.asm_value.proofs.Listing.{both_true}
use Rattle.asm_soundness.specs.Sorted.{is_sorted_term, is_sorted_rule, rule_level, rule_terms}
use Rattle.asm_soundness.specs.Sorted.{names_right, IsSorted}

-- ---- lists

module _ {X : Type 0} (f : X → Bool) where
  pub all_true : (xs : List X) → list_all f xs ≡ true → AllByRecursion (λ x. f x ≡ true) xs
  all_true [] h = tt
  all_true (x ∷ xs) h = (and_first (f x) _ h, all_true xs (and_second (f x) _ h))

  -- those before the last one, and the last one
  pub all_before : (xs : List X) (y : X) → AllByRecursion (λ x. f x ≡ true) (xs ++ y ∷ [])
      → AllByRecursion (λ x. f x ≡ true) xs × (f y ≡ true)
  all_before [] y h = (tt, h.0)
  all_before (x ∷ xs) y h = let rest = all_before xs y h.1 in ((h.0, rest.0), rest.1)

pub both_all : {X : Type 0} (P Q : X → Type 0) (xs : List X) → AllByRecursion (λ x. P x → Q x) xs
    → AllByRecursion P xs → AllByRecursion Q xs
both_all P Q [] h k = tt
both_all P Q (x ∷ xs) h k = (h.0 k.0, both_all P Q xs h.1 k.1)

module _ (test : Rule → Bool) where
  abbrev Passes : Rule → Type 0
  Passes r = test r ≡ true

  pub rules_pass : (rs : List Rule) → list_all (λ b. b) (map test rs) ≡ true
      → AllByRecursion Passes rs
  rules_pass [] h = tt
  rules_pass (r ∷ rs) h = (and_first (test r) _ h, rules_pass rs (and_second (test r) _ h))

  pub cases_pass : (cases : List RuleCase) (others : List Rule)
      → list_all (λ b. b) (map (λ (c : Term × Bool). c.1)
      (map (λ c. (case_term c, test (case_rule c))) cases) ++ map test others) ≡ true
      → AllByRecursion Passes (map case_rule cases ++ others)
  cases_pass [] others h = rules_pass others h
  cases_pass (c ∷ cases) others h = (
    and_first (test (case_rule c)) _ h,
    cases_pass cases others (and_second (test (case_rule c)) _ h),
  )

  pub pass_rules : (rs : List Rule) → AllByRecursion Passes rs
      → list_all (λ b. b) (map test rs) ≡ true
  pass_rules [] h = refl
  pass_rules (r ∷ rs) h = both_true (test r) _ h.0 (pass_rules rs h.1)

  pub pass_cases : (cases : List RuleCase) (others : List Rule)
      → AllByRecursion Passes (map case_rule cases ++ others)
      → list_all (λ b. b) (map (λ (c : Term × Bool). c.1)
      (map (λ c. (case_term c, test (case_rule c))) cases) ++ map test others) ≡ true
  pass_cases [] others h = pass_rules others h
  pass_cases (c ∷ cases) others h =
      both_true (test (case_rule c)) _ h.0 (pass_cases cases others h.1)

-- ---- a sorted rule

module _ (p : Program) where
  abbrev pub sorted : Rule → Bool
  sorted = is_sorted_rule p.domains p.functions

  abbrev pub SortedRule : Rule → Type 0
  SortedRule r = sorted r ≡ true

  abbrev pub SortedTerm : Term → Type 0
  SortedTerm t = is_sorted_term p.domains t ≡ true

  -- one level, with the test of each part in its place
  abbrev pub tested : Rule-F Rule RuleCase → Rule-F Bool (Term × Bool)
  tested a =
      map-Rule Rule RuleCase Bool (Term × Bool) sorted
      (λ c. (case_term c, sorted (case_rule c))) a

  abbrev pub SortedLevel : Rule-F Rule RuleCase → Type 0
  SortedLevel a = level_of (rule_level p.domains p.functions) (λ m. true) a ≡ true

  pub sorted_level : (r : Rule) (a : Rule-F Rule RuleCase) → out-Rule r ≡ a → SortedRule r
      → SortedLevel a
  sorted_level r a e h =
      sym (of_rule-out (rule_level p.domains p.functions) (λ m. true) r a e) ∙ h

  pub level_names : (a : Rule-F Rule RuleCase) → SortedLevel a
      → names_right p.domains p.functions (tested a) ≡ true
  level_names a h = and_first (names_right p.domains p.functions (tested a)) _ h

  pub level_terms : (a : Rule-F Rule RuleCase) → SortedLevel a
      → AllByRecursion SortedTerm (rule_terms (tested a))
  level_terms a h =
      all_true (is_sorted_term p.domains) (rule_terms (tested a))
      (and_first (list_all (is_sorted_term p.domains) (rule_terms (tested a))) _
      (and_second (names_right p.domains p.functions (tested a)) _ h))

  parts_true : (a : Rule-F Rule RuleCase) → SortedLevel a
      → list_all (λ b. b) (rule_parts (tested a)) ≡ true
  parts_true a h =
      and_second (list_all (is_sorted_term p.domains) (rule_terms (tested a))) _
      (and_second (names_right p.domains p.functions (tested a)) _ h)

  parts_by : (a : Rule-F Rule RuleCase) → list_all (λ b. b) (rule_parts (tested a)) ≡ true
      → AllByRecursion SortedRule (sub_rules a)
  parts_by Rule-F.Skip h = tt
  parts_by (Rule-F.Call m args) h = tt
  parts_by (Rule-F.Update f args value span) h = tt
  parts_by (Rule-F.Par rules span) h = rules_pass sorted rules h
  parts_by (Rule-F.Seq rules span) h = rules_pass sorted rules h
  parts_by (Rule-F.If guard first None) h = rules_pass sorted (first ∷ []) h
  parts_by (Rule-F.If guard first (Some other)) h = rules_pass sorted (first ∷ other ∷ []) h
  parts_by (Rule-F.Forall ranges guard body span) h = rules_pass sorted (body ∷ []) h
  parts_by (Rule-F.Choose ranges guard body None place) h = rules_pass sorted (body ∷ []) h
  parts_by (Rule-F.Choose ranges guard body (Some other) place) h =
      rules_pass sorted (body ∷ other ∷ []) h
  parts_by (Rule-F.Let values body) h = rules_pass sorted (body ∷ []) h
  parts_by (Rule-F.Switch v cases None) h = cases_pass sorted cases [] h
  parts_by (Rule-F.Switch v cases (Some other)) h = cases_pass sorted cases (other ∷ []) h
  parts_by (Rule-F.Extend d count body span) h = rules_pass sorted (body ∷ []) h

  pub level_parts : (a : Rule-F Rule RuleCase) → SortedLevel a
      → AllByRecursion SortedRule (sub_rules a)
  level_parts a h = parts_by a (parts_true a h)

  -- ---- what it extends

  abbrev extends : Rule → Bool
  extends = extends_abstract p.domains

  abbrev Extends : Rule → Type 0
  Extends r = extends r ≡ true

  extends_by : (a : Rule-F Rule RuleCase) → SortedLevel a → AllByRecursion Extends (sub_rules a)
      → level_of (extends_level p.domains) (λ m. true) a ≡ true
  extends_by Rule-F.Skip h k = refl
  extends_by (Rule-F.Call m args) h k = refl
  extends_by (Rule-F.Update f args value span) h k = refl
  extends_by (Rule-F.Par rules span) h k = pass_rules extends rules k
  extends_by (Rule-F.Seq rules span) h k = pass_rules extends rules k
  extends_by (Rule-F.If guard first None) h k = pass_rules extends (first ∷ []) k
  extends_by (Rule-F.If guard first (Some other)) h k = pass_rules extends (first ∷ other ∷ []) k
  extends_by (Rule-F.Forall ranges guard body span) h k = pass_rules extends (body ∷ []) k
  extends_by (Rule-F.Choose ranges guard body None place) h k = pass_rules extends (body ∷ []) k
  extends_by (Rule-F.Choose ranges guard body (Some other) place) h k =
      pass_rules extends (body ∷ other ∷ []) k
  extends_by (Rule-F.Let values body) h k = pass_rules extends (body ∷ []) k
  extends_by (Rule-F.Switch v cases None) h k = pass_cases extends cases [] k
  extends_by (Rule-F.Switch v cases (Some other)) h k = pass_cases extends cases (other ∷ []) k
  extends_by (Rule-F.Extend d count body span) h k =
      both_true (is_abstract p.domains d) (extends body)
      (level_names (Rule-F.Extend d count body span) h) k.0

  sorted_extends : (r : Rule) → SortedRule r → Extends r
  sorted_extends =
      by_parts (λ r. SortedRule r → Extends r) (λ r a e parts h.
      let level = sorted_level r a e h in
      of_rule-out (extends_level p.domains) (λ m. true) r a e
      ∙ extends_by a level (both_all SortedRule Extends (sub_rules a) parts
      (level_parts a level)))

  macros_extend : (macros : List MacroInfo)
      → list_all (λ info. sorted info.body) macros ≡ true
      → list_all (λ info. extends info.body) macros ≡ true
  macros_extend [] h = refl
  macros_extend (info ∷ macros) h =
      both_true (extends info.body) _
      (sorted_extends info.body (and_first (sorted info.body) _ h))
      (macros_extend macros (and_second (sorted info.body) _ h))

  -- ---- the macro rules

  macro_at : (macros : List MacroInfo) (m : ℕ) (body : Rule)
      → list_all (λ info. sorted info.body) macros ≡ true
      → rule_in (slice_get macros m) ≡ Some body → SortedRule body
  macro_at [] m body h e = absurd (cc)
  macro_at (info ∷ macros) zero body h e =
      let is : info.body ≡ body = cc in
      subst SortedRule is (and_first (sorted info.body) _ h)
  macro_at (info ∷ macros) (suc m) body h e =
      macro_at macros m body (and_second (sorted info.body) _ h) e

  pub sorted_macro : IsSorted p → (m : ℕ) (body : Rule) → rule_of p.macros m ≡ Some body
      → SortedRule body
  sorted_macro is m body e = macro_at p.macros m body is.macros e

  pub sorted_extends_abstract : IsSorted p → extends_are_abstract p ≡ true
  sorted_extends_abstract is =
      both_true (extends p.main) _ (sorted_extends p.main is.main)
      (macros_extend p.macros is.macros)
