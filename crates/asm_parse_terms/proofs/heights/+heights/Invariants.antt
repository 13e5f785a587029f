use Rattle.std.proofs.Common.{◌≡◌, ◌+◌, ◌*◌, drop, nat_le}
use Rattle.std.specs.List.{list_all}
use Rattle.asm_syntax.specs.Heights.{height}
use Rattle.asm_parse_terms.specs.HeightParts.{bind_height, case_height}
use Rattle.asm_parse_terms.proofs.heights.+heights.Given as goal

abbrev pub invariant-all_within-loop-term : goal.invariant-all_within-loop-term
invariant-all_within-loop-term l = list_all (λ t. nat_le (height t) l.most) (drop l.term-index l.terms) ≡ list_all (λ t. nat_le (height t) l.most) l.terms

abbrev pub invariant-are_cases_within-loop-case : goal.invariant-are_cases_within-loop-case
invariant-are_cases_within-loop-case l = list_all (λ c. nat_le (case_height c) l.most) (drop l.case-index l.cases) ≡ list_all (λ c. nat_le (case_height c) l.most) l.cases

abbrev pub invariant-are_further_within-loop-bind : goal.invariant-are_further_within-loop-bind
invariant-are_further_within-loop-bind l = list_all (λ b. nat_le (bind_height b) l.most) (drop l.bind-index l.binds) ≡ list_all (λ b. nat_le (bind_height b) l.most) l.binds

abbrev pub decreases-is_within : goal.decreases-is_within
decreases-is_within l = 8 * l.most

abbrev pub decreases-is_bind_within : goal.decreases-is_bind_within
decreases-is_bind_within l = 8 * l.most + 1

abbrev pub decreases-is_case_within : goal.decreases-is_case_within
decreases-is_case_within l = 8 * l.most + 1

abbrev pub decreases-all_within : goal.decreases-all_within
decreases-all_within l = 8 * l.most + 2

abbrev pub decreases-are_further_within : goal.decreases-are_further_within
decreases-are_further_within l = 8 * l.most + 2

abbrev pub decreases-are_cases_within : goal.decreases-are_cases_within
decreases-are_cases_within l = 8 * l.most + 2

abbrev pub decreases-is_other_within : goal.decreases-is_other_within
decreases-is_other_within l = 8 * l.most + 2

abbrev pub decreases-are_within : goal.decreases-are_within
decreases-are_within l = 8 * l.most + 3

abbrev pub decreases-are_binds_within : goal.decreases-are_binds_within
decreases-are_binds_within l = 8 * l.most + 3

abbrev pub decreases-is_switch_within : goal.decreases-is_switch_within
decreases-is_switch_within l = 8 * l.most + 3
