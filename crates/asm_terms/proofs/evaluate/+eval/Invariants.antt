-- Evaluation goes to terms of lower height, and its helpers stand between; loops have done what the
-- definition does with the items passed.
use Rattle.std.proofs.Common.{◌≡◌, ◌+◌, ◌*◌, ◌∷◌, map, drop, take, length, max, List}
use Rattle.std.specs.Option.{option_map}
use Rattle.asm_value.specs.declared.value.Value.{Value}
use Rattle.asm_value.specs.Ranges.{tuples, each_first}
use Rattle.asm_program.specs.declared.outcome.Outcome.{Outcome}
use Rattle.asm_program.specs.Forms.{optional, of_cases}
use Rattle.asm_program.specs.Nesting.{greatest}
use Rattle.asm_program.specs.Meaning.{all_of, bind_all}
use Rattle.asm_terms.specs.Evaluation.{gives, cases_give, walks}
use Rattle.asm_terms.proofs.EvalHeights.{height_in, case_heights_in, call_height}
use Rattle.asm_terms.proofs.EvalSteps.{preceded}
use Rattle.asm_terms.proofs.evaluate.+eval.Given as goal

abbrev pub decreases-evaluate : goal.decreases-evaluate
decreases-evaluate l = 6 * height_in l.view.now l.term.now

abbrev pub decreases-evaluate_all : goal.decreases-evaluate_all
decreases-evaluate_all l = 6 * greatest (map (height_in l.view.now) l.terms.now) + 1

abbrev pub decreases-operator : goal.decreases-operator
decreases-operator l = 6 * greatest (map (height_in l.view.now) l.args.now) + 2

abbrev pub decreases-and : goal.decreases-and
decreases-and l = 6 * max (height_in l.view.now l.left.now) (height_in l.view.now l.right.now) + 2

abbrev pub decreases-and_after : goal.decreases-and_after
decreases-and_after l = 6 * height_in l.view.now l.right.now + 1

abbrev pub decreases-or : goal.decreases-or
decreases-or l = 6 * max (height_in l.view.now l.left.now) (height_in l.view.now l.right.now) + 2

abbrev pub decreases-or_after : goal.decreases-or_after
decreases-or_after l = 6 * height_in l.view.now l.right.now + 1

abbrev pub decreases-implies : goal.decreases-implies
decreases-implies l =
    6 * max (height_in l.view.now l.left.now) (height_in l.view.now l.right.now) + 2

abbrev pub decreases-implies_after : goal.decreases-implies_after
decreases-implies_after l = 6 * height_in l.view.now l.right.now + 1

abbrev pub decreases-read_of : goal.decreases-read_of
decreases-read_of l = 6 * greatest (map (height_in l.view.now) l.args.now) + 2

abbrev pub decreases-call_of : goal.decreases-call_of
decreases-call_of l =
    6 * max (greatest (map (height_in l.view.now) l.args.now)) (call_height l.view.now l.function)
    + 2

abbrev pub decreases-call : goal.decreases-call
decreases-call l = 6 * call_height l.view.now l.function + 1

abbrev pub decreases-tuple : goal.decreases-tuple
decreases-tuple l = 6 * greatest (map (height_in l.view.now) l.items.now) + 2

abbrev pub decreases-set : goal.decreases-set
decreases-set l = 6 * greatest (map (height_in l.view.now) l.items.now) + 2

abbrev pub decreases-sequence : goal.decreases-sequence
decreases-sequence l = 6 * greatest (map (height_in l.view.now) l.items.now) + 2

abbrev pub decreases-interval : goal.decreases-interval
decreases-interval l = 6 * max (height_in l.view.now l.from.now) (height_in l.view.now l.to.now) + 2

abbrev pub decreases-interval_from : goal.decreases-interval_from
decreases-interval_from l = 6 * height_in l.view.now l.to.now + 1

abbrev pub decreases-otherwise : goal.decreases-otherwise
decreases-otherwise l = 6 * greatest (optional (option_map (height_in l.view.now) l.other.now)) + 1

abbrev pub decreases-conditional : goal.decreases-conditional
decreases-conditional l =
    6 * greatest (height_in l.view.now l.guard.now ∷ height_in l.view.now l.first.now
    ∷ optional (option_map (height_in l.view.now) l.other.now)) + 2

abbrev pub decreases-bind : goal.decreases-bind
decreases-bind l = 6 * greatest (map (height_in l.view.now) l.values.now) + 1

abbrev pub decreases-binding : goal.decreases-binding
decreases-binding l =
    6 * max (greatest (map (height_in l.view.now) l.values.now))
    (height_in l.view.now l.body.now) + 2

abbrev pub decreases-first_case : goal.decreases-first_case
decreases-first_case l =
    6 * max (greatest (of_cases (map (case_heights_in l.view.now) l.cases.now)))
    (greatest (optional (option_map (height_in l.view.now) l.other.now))) + 2

abbrev pub decreases-switch : goal.decreases-switch
decreases-switch l =
    6 * max (height_in l.view.now l.value.now)
    (max (greatest (of_cases (map (case_heights_in l.view.now) l.cases.now)))
    (greatest (optional (option_map (height_in l.view.now) l.other.now)))) + 3

abbrev pub decreases-quantified : goal.decreases-quantified
decreases-quantified l = 6 * (length l.ranges.now + height_in l.view.now l.body.now) + 5

abbrev pub decreases-walk : goal.decreases-walk
decreases-walk l = 6 * (length l.ranges.now + height_in l.view.now l.body.now) + 2

abbrev pub decreases-walk_members : goal.decreases-walk_members
decreases-walk_members l = 6 * (length l.others.now + height_in l.view.now l.body.now) + 4

abbrev pub decreases-walk_with : goal.decreases-walk_with
decreases-walk_with l = 6 * (length l.others.now + height_in l.view.now l.body.now) + 3

abbrev pub invariant-evaluate_all-loop-term : goal.invariant-evaluate_all-loop-term
invariant-evaluate_all-loop-term l = record {
  parts : preceded l.values.items
      (all_of (map (gives l.view) (drop l.term-index l.terms)) l.env)
      ≡ all_of (map (gives l.view) l.terms) l.fn.env;
  same : l.env ≡ l.fn.env;
}

abbrev pub invariant-bind-loop-value : goal.invariant-bind-loop-value
invariant-bind-loop-value l = record {
  bound : (go : List Value → Outcome)
      → bind_all (map (gives l.view) l.values) l.fn.env go
      ≡ bind_all (map (gives l.view) (drop l.value-index l.values)) l.env go;
  outer : take (length l.fn.env) l.env ≡ l.fn.env;
}

abbrev pub invariant-first_case-loop-case : goal.invariant-first_case-loop-case
invariant-first_case-loop-case l = record {
  rest : cases_give l.view l.value (drop l.case-index l.cases) l.other l.env
      ≡ cases_give l.view l.value l.cases l.other l.fn.env;
  same : l.env ≡ l.fn.env;
}

abbrev pub invariant-walk_members-loop-member : goal.invariant-walk_members-loop-member
invariant-walk_members-loop-member l = record {
  rest : walks l.view l.quantifier l.found
      (each_first (drop l.member-index l.members) (tuples l.others)) l.body l.env
      ≡ walks l.view l.quantifier l.fn.found (each_first l.members (tuples l.others)) l.body
      l.fn.env;
  same : l.env ≡ l.fn.env;
}
