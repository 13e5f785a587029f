-- What is left of a list completes what came of the part before, and a rule is higher than its parts.
use Rattle.std.proofs.Common.{◌≡◌, ◌+◌, ◌*◌, ◌++◌, max, map, drop}
use Rattle.std.specs.Option.{option_map}
use Rattle.asm_value.specs.State.{IsConsistent, fire}
use Rattle.asm_value.specs.UpdateSet as set
use Rattle.asm_program.specs.Nesting.{greatest}
use Rattle.asm_program.specs.Yields as spec
use Rattle.asm_program.specs.Yields.{yields, guard_of}
use Rattle.asm_program.specs.YieldsLaws.{case_yields, macro_height, height, case_height, option_height}
use Rattle.asm_terms.specs.Views.{map_of, program_of}
use Rattle.asm_rules.proofs.rules.+yields.Given as goal

-- ---- measures

abbrev pub decreases-rule_yields : goal.decreases-rule_yields
decreases-rule_yields l = 4 * height (program_of l.view.now).macros l.rule.now

abbrev pub decreases-otherwise : goal.decreases-otherwise
decreases-otherwise l = 4 * option_height (program_of l.view.now).macros l.other.now + 1

abbrev pub decreases-call : goal.decreases-call
decreases-call l = 4 * macro_height (program_of l.view.now).macros l.number + 1

abbrev pub decreases-union_of : goal.decreases-union_of
decreases-union_of l = 4 * greatest (map (height (program_of l.view.now).macros) l.rules.now) + 1

abbrev pub decreases-one_by_one : goal.decreases-one_by_one
decreases-one_by_one l = 4 * greatest (map (height (program_of l.view.now).macros) l.rules.now) + 1

abbrev pub decreases-guarded : goal.decreases-guarded
decreases-guarded l = 4 * height (program_of l.view.now).macros l.body.now + 1

abbrev pub decreases-for_each : goal.decreases-for_each
decreases-for_each l = 4 * height (program_of l.view.now).macros l.body.now + 2

abbrev pub decreases-for_all : goal.decreases-for_all
decreases-for_all l = 4 * height (program_of l.view.now).macros l.body.now + 3

abbrev pub decreases-choose : goal.decreases-choose
decreases-choose l =
    4 * max (height (program_of l.view.now).macros l.body.now) (option_height (program_of l.view.now).macros l.other.now) + 2

abbrev pub decreases-bound : goal.decreases-bound
decreases-bound l = 4 * height (program_of l.view.now).macros l.body.now + 1

abbrev pub decreases-switch : goal.decreases-switch
decreases-switch l =
    4 * max (greatest (map (case_height (program_of l.view.now).macros) l.cases.now))
    (option_height (program_of l.view.now).macros l.other.now) + 3

abbrev pub decreases-first_case : goal.decreases-first_case
decreases-first_case l =
    4 * max (greatest (map (case_height (program_of l.view.now).macros) l.cases.now))
    (option_height (program_of l.view.now).macros l.other.now) + 2

abbrev pub decreases-extended : goal.decreases-extended
decreases-extended l = 4 * height (program_of l.view.now).macros l.body.now + 2

-- ---- loops

abbrev pub invariant-union_of-loop-part : goal.invariant-union_of-loop-part
invariant-union_of-loop-part l =
    (spec.union_of l.span l.all
    (map (λ part. part (map_of l.view) l.env) (map (yields (program_of l.view) l.pick) (drop l.part-index l.rules))) l.next
    ≡ spec.union_of l.span set.empty
    (map (λ part. part (map_of l.view) l.initial.env) (map (yields (program_of l.view) l.pick) l.rules)) l.initial.next)
    × (l.env ≡ l.initial.env)

abbrev pub invariant-one_by_one-loop-part : goal.invariant-one_by_one-loop-part
invariant-one_by_one-loop-part l = record {
  rest : spec.one_by_one l.span l.all (map (yields (program_of l.view) l.pick) (drop l.part-index l.rules))
      (map_of l.view) l.env l.next
      ≡ spec.one_by_one l.span set.empty (map (yields (program_of l.view) l.pick) l.rules)
      (map_of l.view) l.initial.env l.initial.next;
  same : l.env ≡ l.initial.env;
  consistent : IsConsistent l.all;
  fired : map_of l.between ≡ fire (map_of l.view) l.all;
  program : program_of l.between ≡ program_of l.view;
}

abbrev pub invariant-for_each-loop-values : goal.invariant-for_each-loop-values
invariant-for_each-loop-values l =
    (spec.union_of l.span l.all
    (map (λ c. spec.guarded (guard_of (program_of l.view) (map_of l.view) l.guard (l.env ++ c))
    (yields (program_of l.view) l.pick l.body (map_of l.view) (l.env ++ c)))
    (drop l.values-index l.combinations)) l.next
    ≡ spec.union_of l.span set.empty
    (map (λ c. spec.guarded (guard_of (program_of l.view) (map_of l.view) l.guard (l.initial.env ++ c))
    (yields (program_of l.view) l.pick l.body (map_of l.view) (l.initial.env ++ c)))
    l.combinations) l.initial.next)
    × (l.env ≡ l.initial.env)

abbrev pub invariant-first_case-loop-case : goal.invariant-first_case-loop-case
invariant-first_case-loop-case l =
    (spec.first_case (program_of l.view) l.value
    (map (case_yields (program_of l.view) l.pick) (drop l.case-index l.cases))
    (option_map (yields (program_of l.view) l.pick) l.other) (map_of l.view) l.env l.next
    ≡ spec.first_case (program_of l.view) l.value
    (map (case_yields (program_of l.view) l.pick) l.cases)
    (option_map (yields (program_of l.view) l.pick) l.other) (map_of l.view) l.initial.env l.initial.next)
    × (l.env ≡ l.initial.env)
