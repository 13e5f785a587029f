-- The steps that the run of a formula makes, in their order: what each model is offered.
use Rattle.std.specs.Prelude.{◌≡◌, ℕ, Option, Some, None, List, [], ◌∷◌, ◌++◌, map}
use Rattle.asm_formula.specs.declared.formula.Operator.{Operator}
use Rattle.asm_formula.specs.declared.formula.Operator.TheVariants as operator
use Rattle.asm_formula.specs.declared.formula.Formula.{Formula}
use Rattle.asm_formula.specs.declared.formula.Formula.TheOpen.{Formula-F}
use Rattle.asm_formula.specs.declared.formula.Formula.TheFolds.{fold-Formula}
use Rattle.asm_portable.specs.declared.port.Port.{Port}
use Rattle.asm_compose.specs.declared.given.Given.{Given}
use Rattle.asm_compose.specs.declared.outcome.FormulaOutcome.{FormulaOutcome}
use Rattle.asm_compose.specs.declared.outcome.FormulaOutcome.TheVariants as outcomes
use Rattle.asm_compose.specs.Offers.{Offer, union, with_partner, first_clash}
use Rattle.asm_compose.specs.Runs as runs
use Rattle.asm_compose.specs.Runs.{Name, Leaf, Ran, Beginning, held_by}

-- a step of a model: what it was offered, and what it came to
pub record Made (R X : Type 0) : Type 0 where
  pub name : Name
  pub offered : Offer
  pub came : Leaf R X

-- ---- what a leaf answers, and what it has made

module _ {R X : Type 0} where
  -- what a step gives; None where it is refused
  abbrev pub given_by : Leaf R X → Option Offer
  given_by (runs.Steps gives leaves) = Some gives
  given_by (runs.Refuses why) = None

  -- the step of a model that is offered this
  abbrev pub made_of : Beginning R X → Name → Offer → Made R X
  made_of begins name offer =
      record { name = name; offered = offer; came = begins.step name offer }

  -- what a step leaves, by the name of its model
  abbrev pub left_by : Name → Leaf R X → List (Name × X)
  left_by name (runs.Steps gives leaves) = (name, leaves) ∷ []
  left_by name (runs.Refuses why) = []

  -- what the steps leave
  abbrev pub leaves_of : List (Made R X) → List (Name × X)
  leaves_of [] = []
  leaves_of (m ∷ ms) = left_by m.name m.came ++ leaves_of ms

  abbrev pub last_of : List (Made R X) → Option (Made R X)
  last_of [] = None
  last_of (m ∷ []) = Some m
  last_of (m ∷ n ∷ ms) = last_of (n ∷ ms)

  -- of a leaf that comes from one state to another: it has made these besides what it had made
  module _ {S : Type 0} (has_made : S → List (Made R X) → Type 0) (old new : S) where
    abbrev pub Makes : List (Made R X) → Type 0
    Makes steps = (before : List (Made R X)) → has_made old before → has_made new (before ++ steps)

    -- nothing
    abbrev pub MakesNone : Type 0
    MakesNone = (before : List (Made R X)) → has_made old before → has_made new before

    -- a beginning of these
    pub record MakesPart (steps : List (Made R X)) : Type 0 where
      pub front : List (Made R X)
      pub rest : List (Made R X)
      pub all : front ++ rest ≡ steps
      pub makes : Makes front

-- ---- what a run comes to, with its steps

-- the steps that are made, and how they end
pub record Course (R X : Type 0) : Type 0 where
  pub made : List (Made R X)
  pub ends : FormulaOutcome

-- a part of a formula: its models, and its course where this is offered
pub record Walk (R X : Type 0) : Type 0 where
  pub models : List Name
  pub course : Offer → Course R X

-- the location of the first, with both values
abbrev pub clash_of : Given × Given → FormulaOutcome
clash_of clash = outcomes.JoinClash clash.0.function clash.0.args clash.0.value clash.1.value

-- the union of what both give, unless a location has two values there
abbrev pub union_ends : Offer → Offer → FormulaOutcome
union_ends o p = elim (first_clash (union o p)) as (λ _. FormulaOutcome) [
  | None ↦ outcomes.Done (union o p)
  | Some clash ↦ clash_of clash
]

-- what the whole gives, by what both parts give
abbrev pub joins : Operator → Offer → Offer → FormulaOutcome
joins operator.Pipe o p = outcomes.Done p
joins operator.Both o p = union_ends o p
joins operator.Half o p = union_ends o p
joins operator.Cross o p = union_ends o p

abbrev pub leaf_ends : {R X : Type 0} → Name → Leaf R X → FormulaOutcome
leaf_ends name (runs.Steps gives leaves) = outcomes.Done gives
leaf_ends name (runs.Refuses why) = outcomes.Stopped name

module _ {R X : Type 0} where
  -- no step is made any more
  abbrev pub ended : FormulaOutcome → Course R X
  ended outcome = record { made = []; ends = outcome }

  -- after these steps it goes on with what they give
  abbrev pub after : List (Made R X) → FormulaOutcome → (Offer → Course R X) → Course R X
  after made (outcomes.Done gives) go =
      record { made = made ++ (go gives).made; ends = (go gives).ends }
  after made (outcomes.Stopped name) go = record { made = made; ends = outcomes.Stopped name }
  after made (outcomes.JoinClash function args first second) go =
      record { made = made; ends = outcomes.JoinClash function args first second }

  abbrev pub then_course : Course R X → (Offer → Course R X) → Course R X
  then_course first go = after first.made first.ends go

  -- goes on, unless a location has two values there
  abbrev pub unless_clash : Option (Given × Given) → Course R X → Course R X
  unless_clash None go = go
  unless_clash (Some clash) go = ended (clash_of clash)

  module _ (begins : Beginning R X) where
    abbrev pub leaf_course : Name → Offer → Course R X
    leaf_course name offer = record {
      made = made_of begins name offer ∷ [];
      ends = leaf_ends name (begins.step name offer);
    }

    -- a part that is offered what its partner's models held before, besides the offer
    abbrev pub beside : (Offer → Course R X) → List Name → Offer → Course R X
    beside go partner offer =
        unless_clash (first_clash (held_by begins.held begins.step partner))
        (go (with_partner offer (held_by begins.held begins.step partner)))

    -- the left part, by the operator
    abbrev pub first_of : Operator → Walk R X → Walk R X → Offer → Course R X
    first_of operator.Pipe f g offer = f.course offer
    first_of operator.Both f g offer = f.course offer
    first_of operator.Half f g offer = beside f.course g.models offer
    first_of operator.Cross f g offer = beside f.course g.models offer

    -- the right part, by the operator and what the left one gives
    abbrev pub second_of : Operator → Walk R X → Walk R X → Offer → Offer → Course R X
    second_of operator.Pipe f g offer gives = g.course gives
    second_of operator.Both f g offer gives = g.course offer
    second_of operator.Half f g offer gives = g.course gives
    second_of operator.Cross f g offer gives = beside g.course f.models offer

    abbrev pub second_joined : Operator → Walk R X → Walk R X → Offer → Offer → Course R X
    second_joined op f g offer o =
        then_course (second_of op f g offer o) (λ p. ended (joins op o p))

    abbrev pub joined : Operator → Walk R X → Walk R X → Offer → Course R X
    joined op f g offer =
        then_course (first_of op f g offer) (second_joined op f g offer)

    -- one level of a formula, with its parts in their places
    abbrev pub walk_level : Formula-F (Walk R X) → Walk R X
    walk_level (Formula-F.Name name) = record {
      models = name ∷ [];
      course = leaf_course name;
    }
    walk_level (Formula-F.Join op f g) = record {
      models = f.models ++ g.models;
      course = joined op f g;
    }

    unfoldable pub walk_of : Formula → Walk R X
    walk_of = fold-Formula (Walk R X) walk_level

    abbrev pub course : Formula → Offer → Course R X
    course formula offer = (walk_of formula).course offer

    -- the steps of a formula's run; nothing is offered to the whole
    abbrev pub steps_of : Formula → List (Made R X)
    steps_of formula = (course formula []).made

    -- the models that step, each with what it is offered
    abbrev pub offers_of : Formula → List (Name × Offer)
    offers_of formula = map (λ m. (m.name, m.offered)) (steps_of formula)

  -- ---- how the outcome tells of a run

  -- the last step was of this model, and its refusal is that of the run
  pub record IsStopped (name : Name) (steps : List (Made R X)) (ran : Ran R X) : Type 0 where
    pub offered : Offer
    pub why : R
    pub last : last_of steps
        ≡ Some (record { name = name; offered = offered; came = runs.Refuses why })
    pub is : ran ≡ runs.Stopped why

  -- the outcome of these steps is that of the run
  abbrev pub IsEndOf : FormulaOutcome → List (Made R X) → Ran R X → Type 0
  IsEndOf (outcomes.Done gives) steps ran = ran ≡ runs.Done gives (leaves_of steps)
  IsEndOf (outcomes.Stopped name) steps ran = IsStopped name steps ran
  IsEndOf (outcomes.JoinClash function args first second) steps ran =
      ran ≡ runs.JoinClash (record { function = function; args = args; value = first })
      (record { function = function; args = args; value = second })
