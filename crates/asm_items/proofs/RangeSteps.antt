-- The items of variables, ranges and parameters, step by step.
use Rattle.std.proofs.Common.{◌≡◌, ℕ, ◌+◌, ◌<◌, ◌≤◌, Bool, Some, None, List, [], ◌∷◌, ◌++◌, length, drop, get_or, refl, ap, ◌∙◌, arith, if◌then◌else◌}
use Rattle.std.proofs.lemmas.List.{drop_all, drop_more}
use Rattle.asm_syntax.specs.declared.token.Token.{Token}
use Rattle.asm_syntax.specs.declared.tree.RangeTree.{RangeTree}
use Rattle.asm_syntax.specs.declared.tree.RangesTree.{RangesTree}
use Rattle.asm_syntax.specs.declared.tree.ParamsTree.{ParamsTree}
use Rattle.asm_syntax.specs.Marks.{text_of}
use Rattle.asm_program.specs.Items.{Items, Repeats, ninth, domain_items, repeated, repeated_among, range_items, param_items}
use Rattle.asm_items.specs.Views.{seen_with, with_items}
use Rattle.asm_items.specs.Parts.{more_variables, all_variables, more_ranges, all_ranges, more_params, all_params}
use Rattle.asm_items.proofs.Sets.{Alike, alike-cons, alike-seen}
use Rattle.asm_items.proofs.Steps.{with_items-append, with_items-none}

-- ---- lists that have the same names before them

pub repeated-alike : (a b : List (List ℕ)) (t : Token) → Alike a b → repeated a t ≡ repeated b t
repeated-alike a b t h = ap (λ (x : Bool). if x then Repeats t ∷ [] else []) (h (text_of t))

variables-alike : (a b : List (List ℕ)) (ts : List Token) → Alike a b → repeated_among a ts ≡ repeated_among b ts
variables-alike a b [] h = refl
variables-alike a b (t ∷ ts) h =
    λ i. repeated-alike a b t h i ++ variables-alike (text_of t ∷ a) (text_of t ∷ b) ts (alike-cons (text_of t) a b h) i

ranges-alike : (a b : List (List ℕ)) (rs : List RangeTree) → Alike a b → range_items a rs ≡ range_items b rs
ranges-alike a b [] h = refl
ranges-alike a b (r ∷ rs) h =
    λ i. repeated-alike a b r.variable h i ++ domain_items r.domain ++ ranges-alike (text_of r.variable ∷ a) (text_of r.variable ∷ b) rs (alike-cons (text_of r.variable) a b h) i

params-alike : (n : ℕ) (a b : List (List ℕ)) (rs : List RangeTree) → Alike a b → param_items n a rs ≡ param_items n b rs
params-alike n a b [] h = refl
params-alike n a b (r ∷ rs) h =
    λ i. repeated-alike a b r.variable h i ++ ninth n r.variable.span ++ domain_items r.domain
    ++ params-alike (n + 1) (text_of r.variable ∷ a) (text_of r.variable ∷ b) rs (alike-cons (text_of r.variable) a b h) i

-- ---- one more of a list

module _ (w : Items) (seen : List (List ℕ)) where
  pub variables-first : (t : Token) (ts : List Token)
      → with_items w (repeated_among seen (t ∷ ts)) ≡ with_items (with_items w (repeated seen t)) (more_variables (seen_with (text_of t) seen) ts)
  unfolding more_variables
  variables-first t ts =
      with_items-append w (repeated seen t) (repeated_among (text_of t ∷ seen) ts)
      ∙ ap (with_items (with_items w (repeated seen t))) (variables-alike (text_of t ∷ seen) (seen_with (text_of t) seen) ts (alike-seen (text_of t) seen))

  pub variables-drop : (ts : List Token) (i : ℕ) (d : Token) → i < length ts
      → with_items w (more_variables seen (drop i ts))
      ≡ with_items (with_items w (repeated seen (get_or ts i d))) (more_variables (seen_with (text_of (get_or ts i d)) seen) (drop (i + 1) ts))
  unfolding more_variables
  variables-drop ts i d h = ap (λ us. with_items w (repeated_among seen us)) (drop_more ts i d h) ∙ variables-first (get_or ts i d) (drop (i + 1) ts)

  pub variables-end : (ts : List Token) (i : ℕ) → length ts ≤ i → with_items w (more_variables seen (drop i ts)) ≡ w
  unfolding more_variables
  variables-end ts i h = ap (λ us. with_items w (repeated_among seen us)) (drop_all i ts h) ∙ with_items-none w

  pub ranges-first : (r : RangeTree) (rs : List RangeTree)
      → with_items w (range_items seen (r ∷ rs))
      ≡ with_items (with_items (with_items w (repeated seen r.variable)) (domain_items r.domain)) (more_ranges (seen_with (text_of r.variable) seen) rs)
  unfolding more_ranges
  ranges-first r rs =
      ap (λ is. with_items w (repeated seen r.variable ++ domain_items r.domain ++ is))
      (ranges-alike (text_of r.variable ∷ seen) (seen_with (text_of r.variable) seen) rs (alike-seen (text_of r.variable) seen))
      ∙ simp with_items-append

  pub ranges-drop : (rs : List RangeTree) (i : ℕ) (d : RangeTree) → i < length rs
      → with_items w (more_ranges seen (drop i rs))
      ≡ with_items (with_items (with_items w (repeated seen (get_or rs i d).variable)) (domain_items (get_or rs i d).domain))
      (more_ranges (seen_with (text_of (get_or rs i d).variable) seen) (drop (i + 1) rs))
  unfolding more_ranges
  ranges-drop rs i d h = ap (λ us. with_items w (range_items seen us)) (drop_more rs i d h) ∙ ranges-first (get_or rs i d) (drop (i + 1) rs)

  pub ranges-end : (rs : List RangeTree) (i : ℕ) → length rs ≤ i → with_items w (more_ranges seen (drop i rs)) ≡ w
  unfolding more_ranges
  ranges-end rs i h = ap (λ us. with_items w (range_items seen us)) (drop_all i rs h) ∙ with_items-none w

  params-next : (n : ℕ) (r : RangeTree) (rs : List RangeTree)
      → with_items w (param_items n seen (r ∷ rs))
      ≡ with_items (with_items (with_items (with_items w (repeated seen r.variable)) (ninth n r.variable.span)) (domain_items r.domain))
      (more_params (n + 1) (seen_with (text_of r.variable) seen) rs)
  unfolding more_params
  params-next n r rs =
      ap (λ is. with_items w (repeated seen r.variable ++ ninth n r.variable.span ++ domain_items r.domain ++ is))
      (params-alike (n + 1) (text_of r.variable ∷ seen) (seen_with (text_of r.variable) seen) rs (alike-seen (text_of r.variable) seen))
      ∙ simp with_items-append

  pub params-drop : (n : ℕ) (rs : List RangeTree) (i : ℕ) (d : RangeTree) → i < length rs
      → with_items w (more_params (i + n) seen (drop i rs))
      ≡ with_items (with_items (with_items (with_items w (repeated seen (get_or rs i d).variable)) (ninth (i + n) (get_or rs i d).variable.span)) (domain_items (get_or rs i d).domain))
      (more_params (i + 1 + n) (seen_with (text_of (get_or rs i d).variable) seen) (drop (i + 1) rs))
  unfolding more_params
  params-drop n rs i d h =
      let r = get_or rs i d in
      let next : i + n + 1 ≡ i + 1 + n = omega arith in
      ap (λ us. with_items w (param_items (i + n) seen us)) (drop_more rs i d h)
      ∙ params-next (i + n) r (drop (i + 1) rs)
      ∙ ap (λ m. with_items (with_items (with_items (with_items w (repeated seen r.variable)) (ninth (i + n) r.variable.span)) (domain_items r.domain)) (param_items m (seen_with (text_of r.variable) seen) (drop (i + 1) rs))) next

  pub params-end : (n : ℕ) (rs : List RangeTree) (i : ℕ) → length rs ≤ i → with_items w (more_params (i + n) seen (drop i rs)) ≡ w
  unfolding more_params
  params-end n rs i h = ap (λ us. with_items w (param_items (i + n) seen us)) (drop_all i rs h) ∙ with_items-none w

module _ (w : Items) where
  pub adds_variables : (first : Token) (others : List Token)
      → with_items w (all_variables first others) ≡ with_items (with_items w (repeated [] first)) (more_variables (seen_with (text_of first) []) others)
  unfolding all_variables
  adds_variables first others = variables-first w [] first others

  pub adds_ranges : (r : RangesTree)
      → with_items w (all_ranges r)
      ≡ with_items (with_items (with_items w (repeated [] r.first.variable)) (domain_items r.first.domain)) (more_ranges (seen_with (text_of r.first.variable) []) r.others)
  unfolding all_ranges
  adds_ranges r = ranges-first w [] r.first r.others

  pub adds_params : (p : ParamsTree)
      → with_items w (all_params (Some p))
      ≡ with_items (with_items (with_items w (repeated [] p.ranges.first.variable)) (domain_items p.ranges.first.domain))
      (more_params 2 (seen_with (text_of p.ranges.first.variable) []) p.ranges.others)
  unfolding all_params
  adds_params p =
      let r = p.ranges.first in
      params-next w [] 1 r p.ranges.others
      ∙ ap (λ v. with_items (with_items v (domain_items r.domain)) (more_params 2 (seen_with (text_of r.variable) []) p.ranges.others)) (with_items-none (with_items w (repeated [] r.variable)))

  pub adds_no_params : with_items w (all_params None) ≡ w
  unfolding all_params
  adds_no_params = with_items-none w

pub ruleset variables_steps = (adds_variables)

pub ruleset more_variables_steps = (variables-drop, variables-end)

pub ruleset ranges_steps = (ranges-drop, ranges-end)

pub ruleset all_ranges_steps = (adds_ranges)

pub ruleset params_steps = (params-drop, params-end)

pub ruleset all_params_steps = (adds_params, adds_no_params)
