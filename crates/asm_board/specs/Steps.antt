-- What an accepted step does: each model of its formula fires the consistent set that its main rule
-- yields (Börger and Stärk, Abstract State Machines, section 2.4), into a state that meets its
-- invariants, and all of them do or none.
use Rattle.std.specs.Prelude.{ℕ, ◌+◌, ◌≡◌, List, Option, Some, Ok, map}
use Rattle.std.specs.List.{AllByRecursion, Contains}
use Rattle.asm_value.specs.declared.location.Update.{Update}
use Rattle.asm_value.specs.State.{StateMap, IsConsistent, fire}
use Rattle.asm_value.specs.UpdateSet.{UpdateSet}
use Rattle.asm_program.specs.Yields.{Yields}
use Rattle.asm_formula.specs.declared.formula.Formula.{Formula}
use Rattle.asm_formula.specs.Formulas.{names}
use Rattle.asm_formula.specs.Reading.{formula_of}
use Rattle.asm_compose.specs.Offers.{Offer}
use Rattle.asm_portable.specs.declared.port.Port.{Port}
use Rattle.asm_portable.specs.Ports.{fields_of}
use Rattle.asm_board.specs.declared.prepared.Accepted.{Accepted}
use Rattle.asm_board.specs.declared.board.Board.{Board}
use Rattle.asm_board.specs.declared.board.Slot.{Slot}
use Rattle.asm_board.specs.declared.entry.Entry.{Entry}
use Rattle.asm_board.specs.Meanings.{Meanings}
use Rattle.asm_board.specs.Contents.{Contents, IsContent, with_state}
use Rattle.asm_board.specs.Stepping.{with_inputs}
use Rattle.asm_board.specs.Inputs.{given_for, inputs_of}
use Rattle.asm_board.specs.Slots.{Models, slot_in, trail_after}
use Rattle.asm_board.specs.Changes.{news_of}
use Rattle.asm_board.specs.Boards.{applied}

-- the state in which the main rule is evaluated
abbrev pub state_before : Slot → List Update → StateMap
state_before slot inputs = with_inputs slot.content.program slot.content.state inputs

-- the same program and invariants, with these updates fired
abbrev pub content_after : Slot → List Update → UpdateSet → Contents
content_after slot inputs updates =
    with_state slot.content (fire (state_before slot inputs) updates)

-- the inputs of a model's step: what the environment gives for it, and what it takes of an offer
pub record AreInputs (name : List ℕ) (tree : Port) (content : Contents) (inputs : List Update)
    : Type 0 where
  pub offer : Offer
  pub are : inputs_of content name (given_for (fields_of tree) name) offer ≡ Ok inputs

module _ (m : Meanings) where
  -- with these inputs the main rule of the model yields these updates for the pick, which are
  -- consistent, and with them fired its state is light and meets its invariants
  pub record YieldsFor (pick : Option ℕ) (slot : Slot) (inputs : List Update) (updates : UpdateSet)
      : Type 0 where
    pub next : List ℕ
    pub yields : m.yields slot.content.program (state_before slot inputs) pick ≡ Yields updates next
    pub consistent : IsConsistent updates
    pub whole : IsContent (content_after slot inputs updates)

  -- the model of this name is there, it has such inputs, and this is its content with such updates
  -- fired
  pub record FiresItsSet (models : Models) (tree : Port) (pick : Option ℕ)
      (leaf : List ℕ × Contents) : Type 0 where
    pub slot : Slot
    pub found : slot_in models leaf.0 ≡ Some slot
    pub inputs : List Update
    pub are_inputs : AreInputs leaf.0 tree slot.content inputs
    pub updates : UpdateSet
    pub yielded : YieldsFor pick slot inputs updates
    pub is : leaf.1 ≡ content_after slot inputs updates

  -- the text is a formula, and the news are its models, in text order, each with its set fired
  pub record FireTheirSets (models : Models) (source : List ℕ) (tree : Port) (pick : Option ℕ)
      (step : Accepted) : Type 0 where
    pub formula : Formula
    pub read : formula_of source ≡ Ok formula
    pub leaves : List (List ℕ × Contents)
    pub are_its_models : map (λ l. l.0) leaves ≡ names formula
    pub each : AllByRecursion (FiresItsSet models tree pick) leaves
    pub news : step.news ≡ news_of leaves

  -- the entry leaves the model with such updates fired, at the entry's version, with what it was
  -- before remembered
  pub record StepsTo (board : Board) (tree : Port) (pick : Option ℕ) (entry : Entry) (name : List ℕ)
      : Type 0 where
    pub slot : Slot
    pub found : slot_in board.slots name ≡ Some slot
    pub inputs : List Update
    pub are_inputs : AreInputs name tree slot.content inputs
    pub updates : UpdateSet
    pub yielded : YieldsFor pick slot inputs updates
    pub fired : slot_in (applied m board entry).slots name ≡ Some (record {
      version = board.front + 1;
      content = content_after slot inputs updates;
      trail = trail_after (Some slot);
    })

  -- all models of the formula step at one version, and each other model is as it was
  pub record StepTogether (board : Board) (source : List ℕ) (tree : Port) (pick : Option ℕ)
      (entry : Entry) : Type 0 where
    pub formula : Formula
    pub read : formula_of source ≡ Ok formula
    pub all : (name : List ℕ) → Contains (names formula) name → StepsTo board tree pick entry name
    pub others : (other : List ℕ) → (Contains (names formula) other → ⊥)
        → slot_in (applied m board entry).slots other ≡ slot_in board.slots other
