-- The course of the formula ends as its run does.
use Rattle.std.proofs.Common.{◌≡◌, List, [], sym, subst}
use Rattle.std.specs.Prelude.{IfOk}
use Rattle.std.specs.declared.result.Result.{Result}
use Rattle.std.specs.declared.result.Result.TheVariants.{Ok, Err}
use Rattle.asm_compose.specs.declared.outcome.FormulaOutcome.{FormulaOutcome}
use Rattle.asm_compose.specs.Runs.{run, Ran}
use Rattle.asm_compose.specs.Steps.{Course, IsEndOf, steps_of, Made}
use Rattle.asm_compose.specs.Courses.{Follows, course_of}
use Rattle.asm_compose.proofs.EndLaws.{course-ends}
use Rattle.asm_compose.proofs.run.run_formula.Goals as goal

ends_as : {R X S E : Type 0} (has_made : S → List (Made R X) → Type 0) (old new : S) (c : Course R X) (ran : Ran R X)
    (r : Result FormulaOutcome E) → Follows has_made old new c r → IsEndOf c.ends c.made ran
    → IfOk r (λ outcome. IsEndOf outcome c.made ran)
ends_as has_made old new c ran (Ok outcome) f h = subst (λ out. IsEndOf out c.made ran) (sym f.0) h
ends_as has_made old new c ran (Err e) f h = tt

pub returns-clause-outcome : goal.returns-clause-outcome
returns-clause-outcome g c =
    let begins = g.L.Leaf.begins c.args.leaf.now in
    let f = c.args.formula.now in
    ends_as g.L.Leaf.has_made c.args.leaf.now c.run_part-2.new.leaf (course_of begins f [])
    (run begins.held begins.step f) c.run_part-2.result
    (subst (λ offer. Follows g.L.Leaf.has_made c.args.leaf.now c.run_part-2.new.leaf (course_of begins f offer) c.run_part-2.result)
    c.new.ensures c.run_part-2.ensures.follows) (course-ends begins f [])
