-- The counts of rules, form by form.
use Rattle.std.proofs.Common.{◌≡◌, ℕ, ◌+◌, ◌<◌, Some, None, List, [], ◌∷◌, length, get_or, take}
use Rattle.std.proofs.Common.{map, refl, ap, ◌∙◌}
use Rattle.asm_value.specs.declared.domain.DomainInfo.{DomainInfo}
use Rattle.asm_program.specs.declared.trees.Term.{Term}
use Rattle.asm_program.specs.declared.trees.Rule.{Rule}
use Rattle.asm_program.specs.declared.trees.RuleCase.{RuleCase}
use Rattle.asm_program.specs.declared.trees.Rule.TheOpen.{Rule-F}
use Rattle.asm_program.specs.declared.trees.Rule.TheFolds.{fold-RuleCase, fold_out-Rule}
use Rattle.asm_program.specs.declared.trees.Rule.TheFolds.{fold_out-RuleCase, map-Rule}
use Rattle.asm_program.specs.declared.trees.Rule.TheViews.{out-Rule, out-RuleCase, the_lemmas}
use Rattle.asm_program.specs.Forms.{of_rule, rule_case_pair}
use Rattle.asm_counts.specs.declared.counts.Counts.{Counts}
use Rattle.asm_counts.specs.CountLevels.{nothing, node, both, times, together, combinations}
use Rattle.asm_counts.specs.CountLevels.{term_counts, terms_counts, other_counts, rule_pair_counts}
use Rattle.asm_counts.specs.CountLevels.{rule_counts_level, rule_counts, rules_counts}
use Rattle.asm_counts.specs.CountLevels.{other_rule_counts, rule_case_counts, rule_cases_counts}
use Rattle.asm_counts.proofs.Sums.{together-more}

module _ (domains : List DomainInfo) (functions : ℕ → Counts) (calls : ℕ → Counts) where
  abbrev term : Term → Counts
  term = term_counts domains functions

  abbrev said : Rule → Counts
  said = rule_counts domains term calls

  abbrev said_case : RuleCase → Term × Counts
  said_case c = ((out-RuleCase c).value, said (out-RuleCase c).rule)

  case_out : (c : RuleCase)
      → fold-RuleCase Counts (Term × Counts) (rule_counts_level domains term calls) rule_case_pair c
      ≡ said_case c
  unfolding rule_counts of_rule
  case_out c =
      fold_out-RuleCase Counts (Term × Counts) (rule_counts_level domains term calls) rule_case_pair
      c

  abbrev mapped : Rule-F Rule RuleCase → Rule-F Counts (Term × Counts)
  mapped a = map-Rule Rule RuleCase Counts (Term × Counts) said said_case a

  at_level : (r : Rule) → said r ≡ rule_counts_level domains term calls (mapped (out-Rule r))
  unfolding rule_counts of_rule
  at_level r =
      fold_out-Rule Counts (Term × Counts) (rule_counts_level domains term calls) rule_case_pair r
      ∙ (λ i. rule_counts_level domains term calls
      (map-Rule Rule RuleCase Counts (Term × Counts) said (λ c. case_out c i) (out-Rule r)))

  pairs-are : (cs : List RuleCase)
      → together (map (rule_pair_counts domains term) (map said_case cs))
      ≡ together (map (rule_case_counts domains term calls) cs)
  unfolding rule_case_counts
  pairs-are [] = refl
  pairs-are (c ∷ cs) = ap (both (rule_pair_counts domains term (said_case c))) (pairs-are cs)

  -- the counts of a form, in the words of those of its parts
  abbrev pub form_counts : Rule-F Rule RuleCase → Counts
  form_counts Rule-F.Skip = node nothing
  form_counts (Rule-F.Call m args) = both (node (terms_counts domains functions args)) (calls m)
  form_counts (Rule-F.Update f args value span) =
      node (both (terms_counts domains functions args) (term value))
  form_counts (Rule-F.Par rules span) = node (rules_counts domains term calls rules)
  form_counts (Rule-F.Seq rules span) = node (rules_counts domains term calls rules)
  form_counts (Rule-F.If guard first other) =
      node (both (both (term guard) (said first)) (other_rule_counts domains term calls other))
  form_counts (Rule-F.Forall ranges guard body span) =
      node (times (combinations domains ranges)
      (both (other_counts domains functions guard) (said body)))
  form_counts (Rule-F.Choose ranges guard body other place) =
      node (both (times (combinations domains ranges)
      (both (other_counts domains functions guard) (said body)))
      (other_rule_counts domains term calls other))
  form_counts (Rule-F.Let values body) =
      node (both (terms_counts domains functions values) (said body))
  form_counts (Rule-F.Switch v cases other) =
      node (both (both (term v) (rule_cases_counts domains term calls cases))
      (other_rule_counts domains term calls other))
  form_counts (Rule-F.Extend d count body span) = node (said body)

  same_form : (a : Rule-F Rule RuleCase)
      → rule_counts_level domains term calls (mapped a) ≡ form_counts a
  unfolding terms_counts other_counts rules_counts other_rule_counts rule_cases_counts
  same_form Rule-F.Skip = refl
  same_form (Rule-F.Call m args) = refl
  same_form (Rule-F.Update f args value span) = refl
  same_form (Rule-F.Par rules span) = refl
  same_form (Rule-F.Seq rules span) = refl
  same_form (Rule-F.If guard first None) = refl
  same_form (Rule-F.If guard first (Some other)) = refl
  same_form (Rule-F.Forall ranges guard body span) = refl
  same_form (Rule-F.Choose ranges guard body None place) = refl
  same_form (Rule-F.Choose ranges guard body (Some other) place) = refl
  same_form (Rule-F.Let values body) = refl
  same_form (Rule-F.Switch v cases None) =
      ap (λ c. node (both (both (term v) c) nothing)) (pairs-are cases)
  same_form (Rule-F.Switch v cases (Some other)) =
      ap (λ c. node (both (both (term v) c) (said other))) (pairs-are cases)
  same_form (Rule-F.Extend d count body span) = refl

  pub rule-out : (r : Rule) → rule_counts domains term calls r ≡ form_counts (out-Rule r)
  rule-out r = at_level r ∙ same_form (out-Rule r)

  pub rules-none : rules_counts domains term calls [] ≡ nothing
  unfolding rules_counts
  rules-none = refl

  pub rules-more : (rs : List Rule) (i : ℕ) (d : Rule) → i < length rs
      → both (rules_counts domains term calls (take i rs))
      (rule_counts domains term calls (get_or rs i d))
      ≡ rules_counts domains term calls (take (i + 1) rs)
  unfolding rules_counts
  rules-more rs i d h = together-more said rs i d h

  pub cases-none : rule_cases_counts domains term calls [] ≡ nothing
  unfolding rule_cases_counts
  cases-none = refl

  pub cases-more : (cs : List RuleCase) (i : ℕ) (d : RuleCase) → i < length cs
      → both (rule_cases_counts domains term calls (take i cs))
      (rule_case_counts domains term calls (get_or cs i d))
      ≡ rule_cases_counts domains term calls (take (i + 1) cs)
  unfolding rule_cases_counts
  cases-more cs i d h = together-more (rule_case_counts domains term calls) cs i d h

  pub case-is : (c : RuleCase) → rule_case_counts domains term calls c
      ≡ both (term_counts domains functions (out-RuleCase c).value)
      (rule_counts domains term calls (out-RuleCase c).rule)
  unfolding rule_case_counts
  case-is c = refl

  pub other-none : other_rule_counts domains term calls None ≡ nothing
  unfolding other_rule_counts
  other-none = refl

  pub other-some : (r : Rule) → other_rule_counts domains term calls (Some r)
      ≡ rule_counts domains term calls r
  unfolding other_rule_counts
  other-some r = refl

pub ruleset all_steps = (rules-none, rules-more)

pub ruleset cases_steps = (cases-none, cases-more)

pub ruleset case_steps = (case-is, the_lemmas)

pub ruleset other_steps = (other-none, other-some)

pub ruleset rule_steps = (rule-out, the_lemmas)
