-- The models of a formula: what each step of a run makes, and what all of them leave.
use Rattle.std.proofs.Common.{◌≡◌, ℕ, Option, Some, None, List, [], ◌∷◌, ◌++◌, Ok, Err, refl, sym, ap, subst, ◌∙◌, append_assoc}
use Rattle.std.proofs.lemmas.List.{append-nil}
use Rattle.std.specs.Option.{IsSome, is_some}
use Rattle.asm_value.specs.declared.location.Update.{Update}
use Rattle.asm_formula.specs.declared.formula.Formula.{Formula}
use Rattle.asm_compose.specs.declared.outcome.FormulaOutcome.{FormulaOutcome}
use Rattle.asm_compose.specs.declared.outcome.FormulaOutcome.TheVariants as outcomes
use Rattle.asm_compose.specs.Offers.{Offer}
use Rattle.asm_compose.specs.Runs.{Ran, Beginning}
use Rattle.asm_compose.specs.Steps.{Made, left_by, leaves_of, last_of, made_of, steps_of, IsStopped, IsEndOf}
use Rattle.asm_portable.specs.declared.port.Port.{Port}
use Rattle.asm_portable.specs.Ports.{fields_of}
use Rattle.asm_board.specs.declared.board.Board.{Board}
use Rattle.asm_board.specs.declared.board.Slot.{Slot}
use Rattle.asm_board.specs.declared.refusal.Refusal.{Refusal}
use Rattle.asm_board.specs.declared.stop.Stop.{Stop}
use Rattle.asm_board.specs.declared.stop.Stop.TheVariants as stop
use Rattle.asm_board.specs.Coming.{Comes, IsRefused}
use Rattle.asm_board.specs.Contents.{Contents}
use Rattle.asm_board.specs.Inputs.{given_for, inputs_of}
use Rattle.asm_board.specs.Refusals.{Tried, after, is_there, of_model, unknown_model, join_clash}
use Rattle.asm_board.specs.Slots.{Models, slot_in, only}
use Rattle.asm_board.specs.Changes as changes
use Rattle.asm_board.specs.Changes.{leaf_of, leaf_stepped, stepped_from}
use Rattle.asm_core.specs.Formulas.{begins_of, refusal_in, refusal_of, HasMade}
use Rattle.asm_core.specs.Language.{asmeta}

-- ---- one step more

abbrev pub Step : Type 0
Step = Made Refusal Contents

abbrev pub Leaves : Type 0
Leaves = List (List ℕ × Contents)

left_appended : (before : List Step) (m : Step) → leaves_of (before ++ m ∷ []) ≡ leaves_of before ++ left_by m.name m.came
left_appended [] m = append-nil (left_by m.name m.came)
left_appended (n ∷ ns) m = ap (λ (ls : Leaves). left_by n.name n.came ++ ls) (left_appended ns m) ∙ sym (append_assoc (left_by n.name n.came) (leaves_of ns) (left_by m.name m.came))

last_appended : (before : List Step) (m : Step) → last_of (before ++ m ∷ []) ≡ Some m
last_appended [] m = refl
last_appended (n ∷ []) m = refl
last_appended (n ∷ k ∷ ns) m = last_appended (k ∷ ns) m

-- one step more is made, and what it leaves is left
made_more : (leaves new : Leaves) (refusal : Option Refusal) (before : List Step) (m : Step) → HasMade leaves refusal before → new ≡ leaves ++ left_by m.name m.came
    → HasMade new (refusal_in m.came) (before ++ m ∷ [])
made_more leaves new refusal before m has grown = record {
  left = grown ∙ ap (λ (ls : Leaves). ls ++ left_by m.name m.came) has.left ∙ sym (left_appended before m);
  last = sym (ap refusal_of (last_appended before m));
}

-- ---- a model's step

module _ (models : Models) (inputs : Port) (pick : Option ℕ) (name : List ℕ) (offer : Offer) where
  -- what is given to a model, and what it is offered
  abbrev given_to : Slot → Tried (List Update)
  given_to slot = inputs_of slot.content name (given_for (fields_of inputs) name) offer

  abbrev steps_with : Slot → Tried (List Update) → Tried Contents
  steps_with slot given = after given (λ updates. stepped_from asmeta (of_model name) pick slot.content updates)

  found_steps : (slot : Slot) → Some slot ≡ slot_in models name → leaf_stepped asmeta models inputs pick name offer ≡ steps_with slot (given_to slot)
  found_steps slot is = ap (λ (o : Option Slot). after (is_there o (unknown_model name)) (λ s. steps_with s (given_to s))) (sym is)

  -- where its inputs are refused, its step is
  unfit : (slot : Slot) (why : Stop) → Some slot ≡ slot_in models name → Comes {A = List Update} (λ us. us) (given_to slot) (Err why)
      → Comes {A = Contents} (λ x. x) (leaf_stepped asmeta models inputs pick name offer) (Err why)
  unfit slot (stop.Refused why) is given = found_steps slot is ∙ ap (steps_with slot) given
  unfit slot stop.NoMemory is given = tt

  abbrev Misfits : Contents → List ℕ → Offer → Stop → Type 0
  Misfits content n given why = Comes {A = List Update} (λ us. us) (inputs_of content n (given_for (fields_of inputs) n) given) (Err why)

  -- likewise where the slot's content, the name and the offer are these
  pub unfit_at : (slot : Slot) (content : Contents) (n : List ℕ) (given : Offer) (why : Stop) → content ≡ slot.content → n ≡ name → given ≡ offer
      → Some slot ≡ slot_in models name → Misfits content n given why → Comes {A = Contents} (λ x. x) (leaf_stepped asmeta models inputs pick name offer) (Err why)
  unfit_at slot content n given why same own offers is misfits =
      unfit slot why is
      (subst (λ (x : Contents). Misfits x name offer why) same (subst (λ (x : List ℕ). Misfits content x offer why) own (subst (λ (o : Offer). Misfits content n o why) offers misfits)))

module _ (board : Board) (ns : List (List ℕ)) (inputs : Port) (pick : Option ℕ) where
  abbrev tried : List ℕ → Offer → Tried Contents
  tried name offer = leaf_stepped asmeta (only board.slots ns) inputs pick name offer

  abbrev step_of : List ℕ → Offer → Tried Contents → Step
  step_of name offer t = record { name = name; offered = offer; came = leaf_of t }

  module _ (name : List ℕ) (offer : Offer) (leaves new : Leaves) (refusal : Option Refusal) (before : List Step) (has : HasMade leaves refusal before) where
    -- a step that is accepted leaves its content
    pub accepts : (content : Contents) → tried name offer ≡ Ok content → new ≡ leaves ++ (name, content) ∷ []
        → HasMade new None (before ++ made_of (begins_of board ns inputs pick) name offer ∷ [])
    accepts content is grown =
        subst (λ (t : Tried Contents). HasMade new None (before ++ step_of name offer t ∷ [])) (sym is)
        (made_more leaves new refusal before (step_of name offer (Ok content)) has grown)

    -- a step that is refused leaves nothing
    pub refuses : (why told : Refusal) → why ≡ told → tried name offer ≡ Err why → new ≡ leaves
        → HasMade new (Some told) (before ++ made_of (begins_of board ns inputs pick) name offer ∷ [])
    refuses why told tells is same =
        subst (λ (r : Refusal). HasMade new (Some r) (before ++ made_of (begins_of board ns inputs pick) name offer ∷ [])) tells
        (subst (λ (t : Tried Contents). HasMade new (Some why) (before ++ step_of name offer t ∷ [])) (sym is)
        (made_more leaves new refusal before (step_of name offer (Err why)) has (same ∙ sym (append-nil leaves))))

  -- ---- all steps of a run

  module _ (formula : Formula) where
    abbrev begins : Beginning Refusal Contents
    begins = begins_of board ns inputs pick

    abbrev all_steps : List Step
    all_steps = steps_of begins formula

    abbrev comes_to : Ran Refusal Contents
    comes_to = changes.ran asmeta (only board.slots ns) inputs pick formula

    -- from nothing on, all of these are made
    abbrev pub MakesAll : Leaves → Leaves → Option Refusal → Type 0
    MakesAll first leaves refusal = (before : List Step) → HasMade first None before → HasMade leaves refusal (before ++ all_steps)

    all_made : (first leaves : Leaves) (refusal : Option Refusal) → first ≡ [] → MakesAll first leaves refusal → HasMade leaves refusal all_steps
    all_made first leaves refusal none makes = makes [] (record { left = none; last = refl })

    pub done : (first leaves : Leaves) (refusal : Option Refusal) (outcome : FormulaOutcome) (gives : Offer) → first ≡ [] → MakesAll first leaves refusal
        → outcome ≡ outcomes.Done gives → IsEndOf outcome all_steps comes_to → changes.leaves_of comes_to ≡ Ok leaves
    done first leaves refusal outcome gives none makes is ends =
        ap changes.leaves_of (subst (λ (o : FormulaOutcome). IsEndOf o all_steps comes_to) is ends) ∙ ap Ok (sym (all_made first leaves refusal none makes).left)

    -- a clash is that of the run
    pub clashes : (outcome : FormulaOutcome) (function : List ℕ) (args : List Port) (first second : Port) (why : Stop)
        → outcome ≡ outcomes.JoinClash function args first second → IsEndOf outcome all_steps comes_to
        → IsRefused (join_clash (record { function = function; args = args; value = first }) (record { function = function; args = args; value = second })) why
        → Comes {A = Leaves} (λ ls. ls) (changes.leaves_of comes_to) (Err why)
    clashes outcome function args first second (stop.Refused why) is ends same =
        ap changes.leaves_of (subst (λ (o : FormulaOutcome). IsEndOf o all_steps comes_to) is ends) ∙ ap Err (sym same)
    clashes outcome function args first second stop.NoMemory is ends same = tt

    module _ (first leaves : Leaves) (refusal : Option Refusal) (outcome : FormulaOutcome) (name : List ℕ) (none : first ≡ []) (makes : MakesAll first leaves refusal)
        (is : outcome ≡ outcomes.Stopped name) (ends : IsEndOf outcome all_steps comes_to) where
      stopped : IsStopped name all_steps comes_to
      stopped = subst (λ (o : FormulaOutcome). IsEndOf o all_steps comes_to) is ends

      kept : refusal ≡ Some stopped.why
      kept = (all_made first leaves refusal none makes).last ∙ ap refusal_of stopped.last

      -- the refusal of the step is kept
      pub is_kept : IsSome refusal
      is_kept = ap is_some kept

      abbrev refused_for : Option Refusal → Tried Leaves
      refused_for None = Ok []
      refused_for (Some why) = Err why

      -- and is that of the run
      pub refused : (why : Refusal) → refusal ≡ Some why → changes.leaves_of comes_to ≡ Err why
      refused why told = ap changes.leaves_of stopped.is ∙ ap refused_for (sym kept ∙ told)
