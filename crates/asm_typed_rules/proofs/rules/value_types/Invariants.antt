-- None of the values that were passed is refused.
use Rattle.std.proofs.Common.{◌≡◌, ◌++◌, drop}
use Rattle.asm_program.specs.TypedTerms.{all_refused, types}
use Rattle.asm_typed_rules.specs.Forms.{values_at}
use Rattle.asm_typed_rules.proofs.rules.value_types.Given as goal

abbrev pub invariant-loop-case : goal.invariant-loop-case
invariant-loop-case l =
    (all_refused (values_at l.scope l.initial.variables (drop l.case-index l.cases)) ≡ all_refused (values_at l.scope l.initial.variables l.cases))
    × (l.types ++ types (values_at l.scope l.initial.variables (drop l.case-index l.cases)) ≡ types (values_at l.scope l.initial.variables l.cases))
    × (l.variables ≡ l.initial.variables)
