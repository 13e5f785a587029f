-- The entry of a step leaves each model of its formula with a consistent set fired, and a refused change makes no entry.
use Rattle.std.proofs.Common.{Bool, true, false, cond, nat_le, ◌&&◌, ◌≡◌, ◌⊎◌, inl, inr, ℕ, ◌+◌, List, [], ◌∷◌, length, map, Some, None, Option, Result, Ok, Err, refl, sym, ap, subst, ◌∙◌}
use Rattle.std.specs.List.{AllByRecursion, Contains}
use Rattle.std.specs.Str.{bytes_eq}
use Rattle.asm_formula.specs.declared.formula.Formula.{Formula}
use Rattle.asm_formula.specs.declared.formula.FormulaRefusal.{FormulaRefusal}
use Rattle.asm_formula.specs.Formulas.{names}
use Rattle.asm_formula.specs.Reading.{formula_of}
use Rattle.asm_portable.proofs.Ascending.{Has, Has-from_Contains}
use Rattle.asm_portable.specs.declared.port.Port.{Port}
use Rattle.asm_board.specs.declared.prepared.Accepted.{Accepted}
use Rattle.asm_board.specs.declared.board.Board.{Board}
use Rattle.asm_board.specs.declared.board.Slot.{Slot}
use Rattle.asm_board.specs.declared.call.Call.{Call}
use Rattle.asm_board.specs.declared.call.Call.TheVariants.{Step}
use Rattle.asm_board.specs.declared.reply.Body.TheVariants as bodies
use Rattle.asm_board.specs.declared.entry.Entry.{Entry}
use Rattle.asm_board.specs.declared.refusal.Refusal.{Refusal}
use Rattle.asm_board.specs.Meanings.{Meanings}
use Rattle.asm_board.specs.Contents.{Contents}
use Rattle.asm_board.specs.Refusals.{models_full}
use Rattle.asm_board.specs.Replies.{tail_of}
use Rattle.asm_board.specs.Slots.{Models, slot_in, changed_to, changed, new_slot, new_slots, at_version}
use Rattle.asm_board.specs.Calls.{is_change, names_in, footprint}
use Rattle.asm_board.specs.Changes.{Change, news_of, change}
use Rattle.asm_board.specs.Boards.{model_limit, body_of_change, read_at, slots_of_change, spoken_of, loads_at, weight_at, body_at, change_at, slots_at, applied}
use Rattle.asm_board.specs.Answers.{without_entry, with_room, outcome, answer_change, answer_at}
use Rattle.asm_board.specs.Steps.{FiresItsSet, FireTheirSets, StepsTo, StepTogether}
use Rattle.asm_board.specs.Trails.{slot_after}
use Rattle.asm_board.proofs.Fired.{fire_their_sets}
use Rattle.asm_board.proofs.Others.{others_stay}
use Rattle.asm_board.proofs.Puts.{one_name, other_name, slot_in-put, slot_in-changed_to_other, slot_in-only, some_only}
use Rattle.asm_board.proofs.Legal.{answer_at_of}

-- ---- a refused change

module _ (room : ℕ) (b : Board) (seat : ℕ) (c : Call) where
  no_room : (loads : Bool) (w : ℕ) (why : Refusal) (t : List ℕ) → (outcome room b seat c loads w (bodies.No why) t).entry ≡ None
  no_room loads w why t = elim (loads && nat_le model_limit (length b.slots)) as (λ full. (cond full (without_entry b.front (bodies.No (models_full model_limit))) (with_room room b seat c w (bodies.No why) t)).entry ≡ None) [ true ↦ refl | false ↦ refl ]

module _ (m : Meanings) where
  body_refused : (b : Board) (c : Call) (why : Refusal) → is_change c ≡ true → change_at m b c ≡ Err why → body_at m b c ≡ bodies.No why
  body_refused b c why is refused = ap (λ t. cond t (body_of_change (change_at m b c)) (read_at m b c)) is ∙ ap body_of_change refused

  refused_at : (room : ℕ) (b : Board) (seat : ℕ) (c : Call) (why : Refusal) (t : Bool) → is_change c ≡ t → change_at m b c ≡ Err why → (cond t (answer_change m room b seat c) (without_entry b.front (body_at m b c))).entry ≡ None
  refused_at room b seat c why false is refused = refl
  refused_at room b seat c why true is refused =
      ap (λ y. (outcome room b seat c (loads_at b c) (weight_at m b c) y (tail_of (body_at m b c))).entry) (body_refused b c why is refused)
      ∙ no_room room b seat c (loads_at b c) (weight_at m b c) why (tail_of (body_at m b c))

  pub no_entry : (room : ℕ) (b : Board) (seat : ℕ) (c : Call) (why : Refusal) → change_at m b c ≡ Err why → (answer_at m room b seat c).entry ≡ None
  no_entry room b seat c why refused = refused_at room b seat c why (is_change c) refl refused

-- ---- the models after a step

module _ (k : ℕ) (old : Models) (Q : List ℕ → Contents → Type 0) where
  -- the model of a name has such a content, with what was before remembered
  abbrev IsNew : Models → List ℕ → Type 0
  IsNew ms q = (content : Contents) × Q q content × (slot_in ms q ≡ Some (slot_after k (slot_in old q) content))

  abbrev made : Models → List ℕ × Contents → Models
  made ms l = changed_to k ms l.0 (Some (new_slot (slot_in old l.0) l.1))

  abbrev all_made : Models → List (List ℕ × Contents) → Models
  all_made ms leaves = changed k ms (new_slots old (news_of leaves))

  new_at : (ms : Models) (l : List ℕ × Contents) (q : List ℕ) → Q l.0 l.1 → l.0 ≡ q → IsNew (made ms l) q
  new_at ms l q has e =
      subst (IsNew (made ms l)) e (l.1, has, slot_in-put l.0 (at_version k (new_slot (slot_in old l.0) l.1)) ms)

  kept_one : (ms : Models) (l : List ℕ × Contents) (q : List ℕ) (t : Bool) → bytes_eq q l.0 ≡ t → Q l.0 l.1 → IsNew ms q → IsNew (made ms l) q
  kept_one ms l q true test has new = new_at ms l q has (sym (one_name q l.0 test))
  kept_one ms l q false test has new =
      (new.0, new.1, slot_in-changed_to_other k ms l.0 (Some (new_slot (slot_in old l.0) l.1)) q (other_name q l.0 test) ∙ new.2)

  kept_new : (ms : Models) (leaves : List (List ℕ × Contents)) (q : List ℕ) → AllByRecursion (λ l. Q l.0 l.1) leaves → IsNew ms q → IsNew (all_made ms leaves) q
  kept_new ms [] q all new = new
  kept_new ms (l ∷ ls) q all new = kept_new (made ms l) ls q all.1 (kept_one ms l q (bytes_eq q l.0) refl all.0 new)

  news_at : (ms : Models) (leaves : List (List ℕ × Contents)) (q : List ℕ) → AllByRecursion (λ l. Q l.0 l.1) leaves
      → Has (map (λ (l : List ℕ × Contents). l.0) leaves) q → IsNew (all_made ms leaves) q
  news_at ms [] q all h = absurd h
  news_at ms (l ∷ ls) q all (inl e) = kept_new (made ms l) ls q all.1 (new_at ms l q all.0 e)
  news_at ms (l ∷ ls) q all (inr h) = news_at (made ms l) ls q all.1 h

-- ---- the board after a step

module _ (m : Meanings) (room : ℕ) (b : Board) (seat : ℕ) (source : List ℕ) (tree : Port) (pick : Option ℕ) (entry : Entry) where
  abbrev stepping : Models
  stepping = spoken_of b (Step source tree pick)

  abbrev slots_after : Change → Models
  slots_after result = changed (b.front + 1) b.slots (slots_of_change stepping result)

  abbrev Fires : List ℕ → Contents → Type 0
  Fires name content = FiresItsSet m stepping tree pick (name, content)

  module _ (accepted : Accepted) (of : entry.call ≡ Step source tree pick) (is : change_at m b (Step source tree pick) ≡ Ok accepted) where
    abbrev fired : FireTheirSets m stepping source tree pick accepted
    fired = fire_their_sets m stepping tree pick source accepted is

    slots_are : (applied m b entry).slots ≡ changed (b.front + 1) b.slots (new_slots stepping (news_of fired.leaves))
    slots_are =
        ap (λ c. changed (b.front + 1) b.slots (slots_at m b c)) of ∙ ap slots_after is
        ∙ ap (λ news. changed (b.front + 1) b.slots (new_slots stepping news)) fired.news

    footprint_is : footprint entry.call ≡ names fired.formula
    footprint_is = ap footprint of ∙ ap names_in fired.read

    -- the models that are spoken of are those of the formula
    spoken_is : names_in (formula_of source) ≡ names fired.formula
    spoken_is = ap names_in fired.read

    steps_one : (name : List ℕ) → Contains (names fired.formula) name → StepsTo m b tree pick entry name
    steps_one name among =
        let new = news_at (b.front + 1) stepping Fires b.slots fired.leaves name fired.each
        (subst (λ ns. Has ns name) (sym fired.are_its_models) (Has-from_Contains (names fired.formula) name among)) in
        let f : FiresItsSet m stepping tree pick (name, new.0) = new.1 in
        record {
          slot = f.slot;
          found = some_only b.slots (names_in (formula_of source)) name f.slot f.found;
          inputs = f.inputs;
          are_inputs = f.are_inputs;
          updates = f.updates;
          yielded = f.yielded;
          fired = ap (λ ms. slot_in ms name) slots_are ∙ new.2
              ∙ ap (λ o. Some (slot_after (b.front + 1) o new.0)) f.found
              ∙ ap (λ c. Some (slot_after (b.front + 1) (Some f.slot) c)) f.is;
        }

    steps_with : StepTogether m b source tree pick entry
    steps_with = record {
      formula = fired.formula;
      read = fired.read;
      all = steps_one;
      others = λ other outside. others_stay m b entry other (λ among. outside (subst (λ ns. Contains ns other) footprint_is among));
    }

  steps_at : (result : Change) → change_at m b (Step source tree pick) ≡ result → (answer_at m room b seat (Step source tree pick)).entry ≡ Some entry
      → StepTogether m b source tree pick entry
  steps_at (Ok accepted) result is = steps_with accepted (answer_at_of m room b seat (Step source tree pick) entry is).of_call result
  steps_at (Err why) result is =
      let unlike : None ≡ Some entry = sym (no_entry m room b seat (Step source tree pick) why result) ∙ is in
      absurd (cc (unlike))

  pub steps_together : (answer_at m room b seat (Step source tree pick)).entry ≡ Some entry → StepTogether m b source tree pick entry
  steps_together is = steps_at (change_at m b (Step source tree pick)) refl is
