-- Runs depend on their models alone, and go through them in text order.
use Rattle.std.specs.Prelude.{◌≡◌, List, ◌++◌, map}
use Rattle.asm_compose.specs.declared.outcome.FormulaOutcome.{FormulaOutcome}
use Rattle.asm_compose.specs.declared.outcome.FormulaOutcome.TheVariants as outcomes
use Rattle.asm_compose.specs.Offers.{Offer}
use Rattle.asm_compose.specs.Runs.{Name, Leaf, Ran, Done, Stopped, JoinClash, Beginning}
use Rattle.asm_compose.specs.Steps.{Made}

-- the model of this name held the same, and its steps come to the same
abbrev pub AgreesAt : {R X : Type 0} → Beginning R X → Beginning R X → Name → Type 0
AgreesAt begins other name =
    (begins.held name ≡ other.held name)
    × ((offer : Offer) → begins.step name offer ≡ other.step name offer)

-- where the run is done, what it leaves is of these models, in their order
abbrev pub LeavesAre : {R X : Type 0} → List Name → Ran R X → Type 0
LeavesAre models (Done gives leaves) = map (λ leaf. leaf.0) leaves ≡ models
LeavesAre models (Stopped why) = Unit {0}
LeavesAre models (JoinClash first second) = Unit {0}

-- the steps are of these models, in their order: of all where the run is done, else of the first
abbrev pub StepsAre : {R X : Type 0} → List Name → FormulaOutcome → List (Made R X) → Type 0
StepsAre models (outcomes.Done gives) steps = map (λ m. m.name) steps ≡ models
StepsAre models (outcomes.Stopped name) steps =
    (others : List Name) × (map (λ m. m.name) steps ++ others ≡ models)
StepsAre models (outcomes.JoinClash function args first second) steps =
    (others : List Name) × (map (λ m. m.name) steps ++ others ≡ models)
