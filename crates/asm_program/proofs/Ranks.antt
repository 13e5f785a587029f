-- How deep the macro calls of a rule nest: its parts nest no deeper, and the body of a called macro
-- rule less deep.
use Rattle.std.proofs.Common.{◌≡◌, ℕ, zero, suc, ◌+◌, ◌<◌, ◌≤◌, Bool, true, false, ◌&&◌, ◌==◌}
use Rattle.std.proofs.Common.{Option, Some, None, List, [], ◌∷◌, ◌++◌, length, map, slice_get, refl}
use Rattle.std.proofs.Common.{sym, ap, subst, ◌∙◌, arith}
use Rattle.std.specs.Option.{option_map_or}
use Rattle.std.specs.List.{AllByRecursion, list_all, range_with_len}
use Rattle.std.proofs.lemmas.Bool.Decides.{nat_tests}
use Rattle.std.proofs.lemmas.Option.{slice_get_within}
use Rattle.asm_program.specs.declared.trees.Term.{Term}
use Rattle.asm_program.specs.declared.trees.Rule.{Rule}
use Rattle.asm_program.specs.declared.trees.RuleCase.{RuleCase}
use Rattle.asm_program.specs.declared.trees.Rule.TheOpen.{Rule-F}
use Rattle.asm_program.specs.declared.program.MacroInfo.{MacroInfo}
use Rattle.asm_program.specs.declared.program.Program.{Program}
use Rattle.asm_program.specs.Forms.{of_rule, of_macro, rule_in, rule_of}
use Rattle.asm_program.specs.Nesting.{greatest, rule_nesting_level, rule_nesting}
use Rattle.asm_program.proofs.RuleParts.{case_rule, case_term, sub_rules, by_parts, level_of}
use Rattle.asm_program.proofs.RuleParts.{of_rule-out}

-- ---- the greatest

greatest_all : {X : Type 0} (f : X → ℕ) (xs : List X) (n : ℕ) → greatest (map f xs) ≤ n
    → AllByRecursion (λ x. f x ≤ n) xs
greatest_all f [] n h = tt
greatest_all f (x ∷ xs) n h = (omega (arith, h), greatest_all f xs n (omega (arith, h)))

all_greatest : {X : Type 0} (f : X → ℕ) (xs : List X) (n : ℕ) → AllByRecursion (λ x. f x ≤ n) xs
    → greatest (map f xs) ≤ n
all_greatest f [] n h = omega arith
all_greatest f (x ∷ xs) n h = let later = all_greatest f xs n h.1 in omega (arith, h.0, later)

module _ (calls : ℕ → ℕ) where
  abbrev rank : Rule → ℕ
  rank = of_rule rule_nesting_level calls

  cases_low : (cases : List RuleCase) (others : List Rule) (n : ℕ)
      → greatest (map (λ (c : Term × ℕ). c.1) (map (λ c. (case_term c, rank (case_rule c))) cases)
      ++ map rank others) ≤ n
      → AllByRecursion (λ r. rank r ≤ n) (map case_rule cases ++ others)
  cases_low [] others n h = greatest_all rank others n h
  cases_low (c ∷ cases) others n h = (omega (arith, h), cases_low cases others n (omega (arith, h)))

  low_cases : (cases : List RuleCase) (others : List Rule) (n : ℕ)
      → AllByRecursion (λ r. rank r ≤ n) (map case_rule cases ++ others)
      → greatest (map (λ (c : Term × ℕ). c.1) (map (λ c. (case_term c, rank (case_rule c))) cases)
      ++ map rank others) ≤ n
  low_cases [] others n h = all_greatest rank others n h
  low_cases (c ∷ cases) others n h =
      let later = low_cases cases others n h.1 in omega (arith, h.0, later)

  -- no part nests deeper than the whole
  pub parts_low : (a : Rule-F Rule RuleCase) (n : ℕ) → level_of rule_nesting_level calls a ≤ n
      → AllByRecursion (λ r. rank r ≤ n) (sub_rules a)
  parts_low Rule-F.Skip n h = tt
  parts_low (Rule-F.Call m args) n h = tt
  parts_low (Rule-F.Update f args value span) n h = tt
  parts_low (Rule-F.Par rules span) n h = greatest_all rank rules n (omega (arith, h))
  parts_low (Rule-F.Seq rules span) n h = greatest_all rank rules n (omega (arith, h))
  parts_low (Rule-F.If guard first None) n h = (omega (arith, h), tt)
  parts_low (Rule-F.If guard first (Some other)) n h = (omega (arith, h), (omega (arith, h), tt))
  parts_low (Rule-F.Forall ranges guard body span) n h = (omega (arith, h), tt)
  parts_low (Rule-F.Choose ranges guard body None place) n h = (omega (arith, h), tt)
  parts_low (Rule-F.Choose ranges guard body (Some other) place) n h =
      (omega (arith, h), (omega (arith, h), tt))
  parts_low (Rule-F.Let values body) n h = (omega (arith, h), tt)
  parts_low (Rule-F.Switch v cases None) n h = cases_low cases [] n (omega (arith, h))
  parts_low (Rule-F.Switch v cases (Some other)) n h =
      cases_low cases (other ∷ []) n (omega (arith, h))
  parts_low (Rule-F.Extend d count body span) n h = (omega (arith, h), tt)

  -- where no call nests deeper than n, no rule nests deeper than n + 1
  level_low : (n : ℕ) → ((m : ℕ) → calls m ≤ n) → (a : Rule-F Rule RuleCase)
      → AllByRecursion (λ r. rank r ≤ 1 + n) (sub_rules a)
      → level_of rule_nesting_level calls a ≤ 1 + n
  level_low n low Rule-F.Skip h = omega arith
  level_low n low (Rule-F.Call m args) h = let c = low m in omega (arith, c)
  level_low n low (Rule-F.Update f args value span) h = omega arith
  level_low n low (Rule-F.Par rules span) h =
      let g = all_greatest rank rules (1 + n) h in omega (arith, g)
  level_low n low (Rule-F.Seq rules span) h =
      let g = all_greatest rank rules (1 + n) h in omega (arith, g)
  level_low n low (Rule-F.If guard first None) h = omega (arith, h.0)
  level_low n low (Rule-F.If guard first (Some other)) h = omega (arith, h.0, h.1.0)
  level_low n low (Rule-F.Forall ranges guard body span) h = omega (arith, h.0)
  level_low n low (Rule-F.Choose ranges guard body None place) h = omega (arith, h.0)
  level_low n low (Rule-F.Choose ranges guard body (Some other) place) h = omega (arith, h.0, h.1.0)
  level_low n low (Rule-F.Let values body) h = omega (arith, h.0)
  level_low n low (Rule-F.Switch v cases None) h =
      let g = low_cases cases [] (1 + n) h in omega (arith, g)
  level_low n low (Rule-F.Switch v cases (Some other)) h =
      let g = low_cases cases (other ∷ []) (1 + n) h in omega (arith, g)
  level_low n low (Rule-F.Extend d count body span) h = omega (arith, h.0)

  pub rank_low : (n : ℕ) → ((m : ℕ) → calls m ≤ n) → (r : Rule) → rank r ≤ 1 + n
  rank_low n low =
      by_parts (λ r. rank r ≤ 1 + n) (λ r a e h. subst (λ k. k ≤ 1 + n)
      (sym (of_rule-out rule_nesting_level calls r a e)) (level_low n low a h))

-- ---- macro rules

body_low : (calls : ℕ → ℕ) (n : ℕ) → ((m : ℕ) → calls m ≤ n) → (o : Option Rule)
    → option_map_or (of_rule rule_nesting_level calls) o 0 ≤ suc n
body_low calls n low None = omega arith
body_low calls n low (Some body) = let r = rank_low calls n low body in omega (arith, r)

-- calls that are followed n deep nest no deeper than n
nesting_low : (macros : List MacroInfo) (n m : ℕ) → rule_nesting macros n m ≤ n
unfolding of_macro
nesting_low macros zero m = omega arith
nesting_low macros (suc n) m =
    body_low (rule_nesting macros n) n (nesting_low macros n) (rule_of macros m)

both_left : (a b : Bool) → (a && b) ≡ true → a ≡ true
both_left true b h = refl
both_left false b h = h

both_right : (a b : Bool) → (a && b) ≡ true → b ≡ true
both_right true b h = h
both_right false b h = absurd (cc)

in_range : (q : ℕ → Bool) (a n m : ℕ) → list_all q (range_with_len a n) ≡ true → a ≤ m → m < a + n
    → q m ≡ true
in_range q a zero m h low high = absurd (omega (arith, low, high))
in_range q a (suc n) m h low high = go (m == a) refl (in_range q (a + 1) n m (both_right _ _ h))
  where
    go : (b : Bool) → (m == a) ≡ b → (a + 1 ≤ m → m < a + 1 + n → q m ≡ true) → q m ≡ true
    go true e later =
        let same : m ≡ a = grind (arith, nat_tests, e) in
        subst (λ k. q k ≡ true) (sym same) (both_left _ _ h)
    go false e later = later (grind (arith, nat_tests, e, low)) (omega (arith, high))

body_within : (macros : List MacroInfo) (m : ℕ) (o : Option MacroInfo) (body : Rule)
    → slice_get macros m ≡ o → rule_in o ≡ Some body → m < length macros
body_within macros m None body g e = absurd (cc)
body_within macros m (Some info) body g e = slice_get_within macros m info g

module _ (p : Program) where
  abbrev pub deepest_calls : ℕ → ℕ
  deepest_calls = rule_nesting p.macros (length p.macros)

  -- how deep the calls of a rule nest
  abbrev pub depth_of : Rule → ℕ
  depth_of = rank deepest_calls

  same_number : (i j : ℕ) → (i == j) ≡ true → i ≡ j
  same_number i j h = grind (arith, nat_tests, h)

  -- a macro rule's calls nest as deep as its body's
  pub depth_of-body : (m : ℕ) (body : Rule) → rule_of p.macros m ≡ Some body
      → depth_of body ≡ deepest_calls m
  unfolding of_macro
  depth_of-body m body e =
      let within = body_within p.macros m (slice_get p.macros m) body refl e in
      let test = in_range (λ f. rule_nesting p.macros (length p.macros) f == rule_nesting p.macros
      (suc (length p.macros)) f) 0 (length p.macros) m p.macros_ranked (omega arith)
      (omega (arith, within)) in
      sym (same_number _ _ test ∙ ap (λ o. option_map_or
      (of_rule rule_nesting_level (rule_nesting p.macros (length p.macros))) o 0) e)

  pub depth_of-rule : (r : Rule) → depth_of r ≤ 512
  depth_of-rule r =
      let low = rank_low deepest_calls (length p.macros)
      (nesting_low p.macros (length p.macros)) r in
      let few : length p.macros ≤ 256 = p.few_macros in
      omega (arith, low, few)
