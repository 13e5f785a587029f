-- The courses of a formula's parts, and what it is to follow one.
use Rattle.std.specs.Prelude.{◌≡◌, List, []}
use Rattle.std.specs.declared.result.Result.{Result}
use Rattle.std.specs.declared.result.Result.TheVariants.{Ok, Err}
use Rattle.asm_formula.specs.declared.formula.Operator.{Operator}
use Rattle.asm_formula.specs.declared.formula.Formula.{Formula}
use Rattle.asm_formula.specs.Formulas.{names}
use Rattle.asm_compose.specs.declared.outcome.FormulaOutcome.{FormulaOutcome}
use Rattle.asm_compose.specs.Offers.{Offer}
use Rattle.asm_compose.specs.Runs.{Beginning}
use Rattle.asm_compose.specs.Steps.{Made, Makes, MakesPart, Course, Walk, beside, first_of, second_of, second_joined, joined, course}

-- an outcome comes after all steps of the course, and want of memory after some
module _ {R X S : Type 0} (has_made : S → List (Made R X) → Type 0) (old new : S) where
  abbrev pub Follows : {E : Type 0} → Course R X → Result FormulaOutcome E → Type 0
  Follows c (Ok outcome) = (outcome ≡ c.ends) × Makes has_made old new c.made
  Follows c (Err fault) = MakesPart has_made old new c.made

module _ {R X : Type 0} (begins : Beginning R X) where
  abbrev pub course_of : Formula → Offer → Course R X
  course_of formula offer = course begins formula offer

  -- a formula as a part of another
  abbrev pub walk : Formula → Walk R X
  walk formula = record { models = names formula; course = course_of formula }

  abbrev pub beside_of : Formula → Formula → Offer → Course R X
  beside_of part partner offer = beside begins (course_of part) (names partner) offer

  abbrev pub left_of : Operator → Formula → Formula → Offer → Course R X
  left_of op left right offer = first_of begins op (walk left) (walk right) offer

  abbrev pub right_of : Operator → Formula → Formula → Offer → Offer → Course R X
  right_of op left right offer gives = second_of begins op (walk left) (walk right) offer gives

  abbrev pub right_joined : Operator → Formula → Formula → Offer → Offer → Course R X
  right_joined op left right offer gives =
      second_joined begins op (walk left) (walk right) offer gives

  abbrev pub both_of : Operator → Formula → Formula → Offer → Course R X
  both_of op left right offer = joined begins op (walk left) (walk right) offer
