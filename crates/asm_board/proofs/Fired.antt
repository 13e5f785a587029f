-- In an accepted step each model of the formula fires a consistent set.
use Rattle.std.proofs.Common.{◌≡◌, ℕ, List, [], ◌∷◌, map, Some, None, Option, Result, Ok, Err, IfOk, IfSome, refl, sym, subst}
use Rattle.std.specs.List.{AllByRecursion}
use Rattle.asm_value.specs.declared.location.Update.{Update}
use Rattle.asm_value.specs.UpdateSet.{UpdateSet, items}
use Rattle.asm_program.specs.Yields.{Yielded, Yields, Stops}
use Rattle.asm_formula.specs.declared.formula.Formula.{Formula}
use Rattle.asm_formula.specs.declared.formula.FormulaRefusal.{FormulaRefusal}
use Rattle.asm_formula.specs.Formulas.{names}
use Rattle.asm_formula.specs.Reading.{formula_of}
use Rattle.asm_compose.specs.Offers.{Offer}
use Rattle.asm_compose.specs.Runs.{Ran, Done, Stopped, JoinClash}
use Rattle.asm_compose.proofs.Leaves.{LeafHas, AllHave, RanHas, run_has}
use Rattle.asm_portable.specs.declared.port.Port.{Port}
use Rattle.asm_portable.specs.declared.port.Field.{Field}
use Rattle.asm_portable.specs.Ports.{fields_of}
use Rattle.asm_board.specs.declared.prepared.News.{News}
use Rattle.asm_board.specs.declared.prepared.Accepted.{Accepted}
use Rattle.asm_board.specs.declared.board.Slot.{Slot}
use Rattle.asm_board.specs.declared.call.Call.TheVariants.{Step}
use Rattle.asm_board.specs.declared.refusal.Refusal.{Refusal}
use Rattle.asm_board.specs.declared.refusal.RefusalName.TheVariants as no
use Rattle.asm_board.specs.Meanings.{Meanings}
use Rattle.asm_board.specs.Contents.{Contents, IsContent}
use Rattle.asm_board.specs.Stepping.{first_clash, stepped_by, after_yield, step}
use Rattle.asm_board.specs.Inputs.{given_for, all_given, inputs_of}
use Rattle.asm_board.specs.Refusals.{Tried, after, of_model, unknown_model}
use Rattle.asm_board.specs.Slots.{Models, slot_in, only}
use Rattle.asm_board.specs.Changes.{found, stepped_from, unless_unread, formula_in, all_found, held, leaf_stepped, leaf_of, leaf, ran, leaves_of, news_of, step_models, change}
use Rattle.asm_board.specs.Steps.{state_before, content_after, YieldsFor, FiresItsSet, FireTheirSets}
use Rattle.asm_board.proofs.Contents.{IfDone, admitted_is, done_content}
use Rattle.asm_board.proofs.FirstClash.{none-IsConsistent}
use Rattle.asm_board.proofs.Found.{goes_on, goes_by, gives, is_the_one, weaker}
use Rattle.asm_board.proofs.Puts.{some_only}

-- ---- an accepted step

-- the content is the one before with such updates fired
pub record IsFired (m : Meanings) (pick : Option ℕ) (slot : Slot) (inputs : List Update) (content : Contents) : Type 0 where
  pub updates : UpdateSet
  pub yielded : YieldsFor m pick slot inputs updates
  pub same : content ≡ content_after slot inputs updates

module _ (m : Meanings) (pick : Option ℕ) (slot : Slot) (inputs : List Update) where
  -- a set without a clash is consistent, and is fired
  fires_at : (updates : UpdateSet) (next : List ℕ) (o : Option (Update × Update)) → m.yields slot.content.program (state_before slot inputs) pick ≡ Yields updates next
      → first_clash (items updates) ≡ o → IfDone (stepped_by slot.content (state_before slot inputs) updates o) (IsFired m pick slot inputs)
  fires_at updates next None yields none =
      admitted_is (content_after slot inputs updates) (IsFired m pick slot inputs) (λ whole. record {
        updates = updates;
        yielded = record { next = next; yields = yields; consistent = none-IsConsistent updates none; whole = whole };
        same = refl;
      })
  fires_at updates next (Some clash) yields some = tt

  yields_at : (y : Yielded) → m.yields slot.content.program (state_before slot inputs) pick ≡ y
      → IfDone (after_yield slot.content (state_before slot inputs) y) (IsFired m pick slot inputs)
  yields_at (Yields updates next) yields = fires_at updates next (first_clash (items updates)) yields refl
  yields_at (Stops fault) yields = tt

  -- what is fired is what the main rule yields
  pub steps : IfDone (step m slot.content inputs pick) (IsFired m pick slot inputs)
  steps = yields_at (m.yields slot.content.program (state_before slot inputs) pick) refl

-- ---- the leaves of a run

leaf_at : (Q : List ℕ → Contents → Type 0) (name : List ℕ) (t : Tried Contents) → IfOk t (Q name) → LeafHas {R = Refusal} {X = Contents} Q name (leaf_of t)
leaf_at Q name (Ok content) h = h
leaf_at Q name (Err why) h = tt

-- what the models leave, and that they are those of the formula
abbrev pub LeavesAre : (Q : List ℕ → Contents → Type 0) → List (List ℕ) → List (List ℕ × Contents) → Type 0
LeavesAre Q ns leaves = (map (λ (l : List ℕ × Contents). l.0) leaves ≡ ns) × AllHave {X = Contents} Q leaves

leaves_are : (Q : List ℕ → Contents → Type 0) (ns : List (List ℕ)) (r : Ran Refusal Contents) → RanHas {R = Refusal} {X = Contents} Q ns r → IfOk (leaves_of r) (LeavesAre Q ns)
leaves_are Q ns (Done gives leaves) h = h
leaves_are Q ns (Stopped why) h = tt
leaves_are Q ns (JoinClash first second) h = tt

read_is : (r : Result Formula FormulaRefusal) → IfOk (unless_unread r) (λ f. r ≡ Ok f)
read_is (Ok f) = refl
read_is (Err why) = tt

module _ (m : Meanings) (models : Models) (tree : Port) (pick : Option ℕ) where
  abbrev Fires : List ℕ → Contents → Type 0
  Fires name content = FiresItsSet m models tree pick (name, content)

  -- among some models of these, one model's step fires its set
  stepped_fires : (ns : List (List ℕ)) (name : List ℕ) (offer : Offer) → IfOk (leaf_stepped m (only models ns) tree pick name offer) (Fires name)
  stepped_fires ns name offer =
      let fs : List Field = given_for (fields_of tree) name in
      goes_by (λ slot. slot_in (only models ns) name ≡ Some slot) (Fires name) (found m (only models ns) name)
      (λ slot. after (inputs_of slot.content name fs offer) (λ inputs. stepped_from m (of_model name) pick slot.content inputs))
      (is_the_one (slot_in (only models ns) name) (unknown_model name)) (λ slot is.
      goes_on (Fires name) (inputs_of slot.content name fs offer) (λ inputs. stepped_from m (of_model name) pick slot.content inputs) (λ inputs are.
      weaker (stepped_from m (of_model name) pick slot.content inputs)
      (λ content fired. record {
        slot = slot;
        found = some_only models ns name slot is;
        inputs = inputs;
        are_inputs = record { offer = offer; are = are };
        updates = fired.updates;
        yielded = fired.yielded;
        is = fired.same;
      })
      (done_content (IsFired m pick slot inputs) no.Fault (of_model name) slot.content.program (step m slot.content inputs pick) (steps m pick slot inputs))))

  leaf_fires : (ns : List (List ℕ)) (name : List ℕ) (offer : Offer) → LeafHas {R = Refusal} {X = Contents} Fires name (leaf m (only models ns) tree pick name offer)
  leaf_fires ns name offer = leaf_at Fires name (leaf_stepped m (only models ns) tree pick name offer) (stepped_fires ns name offer)

  pub fires : (source : List ℕ) → IfOk (step_models m models source tree pick) (FireTheirSets m models source tree pick)
  fires source =
      goes_by (λ f. formula_of source ≡ Ok f) (FireTheirSets m models source tree pick) (formula_in source) _ (read_is (formula_of source)) (λ f read.
      let stepping : Models = only models (names f) in
      goes_on (FireTheirSets m models source tree pick) (all_found m stepping (names f)) _ (λ _ _.
      goes_on (FireTheirSets m models source tree pick) (all_given stepping (fields_of tree)) _ (λ _ _.
      goes_by (LeavesAre Fires (names f)) (FireTheirSets m models source tree pick) (leaves_of (ran m stepping tree pick f)) _
      (leaves_are Fires (names f) (ran m stepping tree pick f)
      (run_has {R = Refusal} {X = Contents} Fires (held stepping) (leaf m stepping tree pick) (leaf_fires (names f)) f))
      (λ leaves all. record {
        formula = f;
        read = read;
        leaves = leaves;
        are_its_models = all.0;
        each = all.1;
        news = refl;
      }))))

  pub fire_their_sets : (source : List ℕ) (accepted : Accepted) → change m models (Step source tree pick) ≡ Ok accepted → FireTheirSets m models source tree pick accepted
  fire_their_sets source accepted is = gives (FireTheirSets m models source tree pick) (step_models m models source tree pick) accepted (fires source) is

  -- what is so of each content that a model's set leads to is so of the news
  pub news_have : (P : Contents → Type 0) → ((name : List ℕ) (content : Contents) → Fires name content → P content) → (leaves : List (List ℕ × Contents))
      → AllByRecursion (FiresItsSet m models tree pick) leaves → AllByRecursion (λ (n : News). IfSome n.content P) (news_of leaves)
  news_have P of_one [] all = tt
  news_have P of_one (l ∷ ls) all = (of_one l.0 l.1 all.0, news_have P of_one ls all.1)
