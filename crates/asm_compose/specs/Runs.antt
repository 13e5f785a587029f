-- The run of a formula, over any leaves. The four operators are this project's own.
use Rattle.std.specs.Prelude.{ℕ, Option, Some, None, List, [], ◌∷◌, ◌++◌, fold}
use Rattle.asm_formula.specs.declared.formula.Operator.{Operator}
use Rattle.asm_formula.specs.declared.formula.Operator.TheVariants as operator
use Rattle.asm_formula.specs.declared.formula.Formula.{Formula}
use Rattle.asm_formula.specs.declared.formula.Formula.TheOpen.{Formula-F}
use Rattle.asm_formula.specs.declared.formula.Formula.TheFolds.{fold-Formula}
use Rattle.asm_compose.specs.declared.given.Given.{Given}
use Rattle.asm_compose.specs.Offers.{Offer, union, with_partner, first_clash}

abbrev pub Name : Type 0
Name = List ℕ

-- what a model's step comes to: what it gives and what it leaves, or why it was refused
pub data Leaf (R X : Type 0) : Type 0 where
  Steps : (gives : Offer) (leaves : X) → Leaf R X
  Refuses : R → Leaf R X

-- what a run comes to: what it gives and what its models leave, or the first refusal
pub data Ran (R X : Type 0) : Type 0 where
  Done : (gives : Offer) (leaves : List (Name × X)) → Ran R X
  Stopped : R → Ran R X
  JoinClash : (first second : Given) → Ran R X

-- what the models of a leaf held as a run began, and what their steps come to
pub record Beginning (R X : Type 0) : Type 0 where
  pub held : Name → Offer
  pub step : Name → Offer → Leaf R X

-- a part of a formula: its models, and what it comes to where this is offered
pub record Part (R X : Type 0) : Type 0 where
  pub models : List Name
  pub run : Offer → Ran R X

module _ {R X : Type 0} where
  abbrev pub leaf_runs : Name → Leaf R X → Ran R X
  leaf_runs name (Steps gives leaves) = Done gives ((name, leaves) ∷ [])
  leaf_runs name (Refuses why) = Stopped why

  abbrev pub on_done : Ran R X → (Offer → List (Name × X) → Ran R X) → Ran R X
  on_done (Done gives leaves) go = go gives leaves
  on_done (Stopped why) go = Stopped why
  on_done (JoinClash first second) go = JoinClash first second

  -- goes on, unless a location has two values there
  abbrev pub unless_clash : Option (Given × Given) → Ran R X → Ran R X
  unless_clash None go = go
  unless_clash (Some clash) go = JoinClash clash.0 clash.1

  -- two parts, the second with an offer that is made of what the first gives
  abbrev pub both : Ran R X → (Offer → Ran R X) → (Offer → Offer → List (Name × X) → Ran R X)
      → Ran R X
  both first second join =
      on_done first (λ o xs. on_done (second o) (λ p ys. join o p (xs ++ ys)))

  abbrev pub gives_last : Offer → Offer → List (Name × X) → Ran R X
  gives_last o p leaves = Done p leaves

  abbrev pub gives_union : Offer → Offer → List (Name × X) → Ran R X
  gives_union o p leaves = unless_clash (first_clash (union o p)) (Done (union o p) leaves)

  module _ (held : Name → Offer) (step : Name → Offer → Leaf R X) where
    -- what the out locations of models held before
    abbrev pub held_by : List Name → Offer
    held_by = fold (λ offer name. union offer (held name)) []

    -- a part that is offered what its partner's models held before, besides the offer
    abbrev pub beside : Part R X → List Name → Offer → Ran R X
    beside part partner offer =
        unless_clash (first_clash (held_by partner))
        (part.run (with_partner offer (held_by partner)))

    -- what the whole comes to, by the operator and its two parts
    abbrev pub joined : Operator → Part R X → Part R X → Offer → Ran R X
    joined operator.Pipe f g offer = both (f.run offer) g.run gives_last
    joined operator.Both f g offer = both (f.run offer) (λ _. g.run offer) gives_union
    joined operator.Half f g offer = both (beside f g.models offer) g.run gives_union
    joined operator.Cross f g offer =
        both (beside f g.models offer) (λ _. beside g f.models offer) gives_union

    -- one level of a formula, with its parts in their places
    abbrev pub run_level : Formula-F (Part R X) → Part R X
    run_level (Formula-F.Name name) = record {
      models = name ∷ [];
      run = λ offer. leaf_runs name (step name offer);
    }
    run_level (Formula-F.Join op f g) = record {
      models = f.models ++ g.models;
      run = joined op f g;
    }

    unfoldable pub part_of : Formula → Part R X
    part_of = fold-Formula (Part R X) run_level

    -- the run of a formula; nothing is offered to the whole
    abbrev pub run : Formula → Ran R X
    run formula = (part_of formula).run []
