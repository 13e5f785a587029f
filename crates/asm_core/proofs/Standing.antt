-- What was prepared stands for its call at its board.
use Rattle.std.proofs.Common.{◌≡◌, ℕ, Bool, true, false, cond, ◌&&◌, not, nat_lt, List, [], ◌∷◌, ◌++◌, length, Option, Some, None, Result, Ok, Err, IfOk, is_none, option_map, codes, refl, sym, ap, ◌∙◌}
use Rattle.std.specs.List.{AllByRecursion, Contains}
use Rattle.std.specs.Cmp.Lexicographic.{bytes_decides}
use Rattle.asm_formula.specs.declared.formula.Formula.{Formula}
use Rattle.asm_formula.specs.declared.formula.FormulaRefusal.{FormulaRefusal}
use Rattle.asm_formula.specs.Formulas.{names}
use Rattle.asm_formula.specs.Reading.{formula_of}
use Rattle.asm_portable.specs.declared.port.Port.{Port}
use Rattle.asm_portable.specs.Ports.{fields_of}
use Rattle.asm_board.specs.declared.board.Board.{Board}
use Rattle.asm_board.specs.declared.board.Slot.{Slot}
use Rattle.asm_board.specs.declared.call.Call.{Call}
use Rattle.asm_board.specs.declared.call.Call.TheVariants.{Run, Load, Unload, Step, State, Value, ShowText, Models as AllModels, Log, AddInvariant, DropInvariant, Rollback}
use Rattle.asm_board.specs.declared.reply.Body.{Body}
use Rattle.asm_board.specs.declared.prepared.Prepared.{Prepared}
use Rattle.asm_board.specs.Meanings.{Meanings}
use Rattle.asm_board.specs.declared.prepared.News.{News}
use Rattle.asm_board.specs.Calls.{names_in, footprint, is_change}
use Rattle.asm_board.specs.Inputs.{all_given}
use Rattle.asm_board.specs.Refusals.{after, needs, is_there, bad_name, name_taken, unknown_model, inv_taken, invs_full, unknown_inv}
use Rattle.asm_board.specs.Replies.{tail_of}
use Rattle.asm_board.specs.Shown.{steps_shown}
use Rattle.asm_board.specs.Slots.{Models, named, slot_in, version_or_zero, listed, only, versions_in, new_slot, slot_of_news, new_slots}
use Rattle.asm_board.specs.Changes.{Change, is_right_name, loaded, added, content_at, has_invariant, invariant_limit, lacks_version, without_invariant, accepted, done, becomes, goes, unless_unread, leaves_of, news_of, all_found, ran, step_formula, change}
use Rattle.asm_board.specs.Boards.{body_of_change, read_at, slots_of_change, weight_of_change, spoken_of, loads_at, change_at, body_at}
use Rattle.asm_board.specs.Answers.{Stands}
use Rattle.asm_board.proofs.CallKinds.{speaks_of_none, makes_none}
use Rattle.asm_board.proofs.Others.{change_news}
use Rattle.asm_board.proofs.Puts.{slot_in-only, only_again}
use Rattle.asm_core.specs.Preparing.{read_made, change_made}

pub if_ok : {T E : Type 0} (r : Result T E) (P Q : T → Type 0) → IfOk r P → ((x : T) → P x → Q x) → IfOk r Q
if_ok (Ok x) P Q p f = f x p
if_ok (Err e) P Q p f = tt

-- ---- the one model of which a change speaks

found_there : (name : List ℕ) (slot : Slot) → slot_in (named name slot ∷ []) name ≡ Some slot
found_there name slot = ap (λ (b : Bool). cond b (Some slot) None) ((bytes_decides name name).1 refl)

only_listed : (name : List ℕ) (o : Option Slot) → slot_in (listed name o ++ []) name ≡ o
only_listed name None = refl
only_listed name (Some slot) = found_there name slot

only_one : (models : Models) (name : List ℕ) → slot_in (only models (name ∷ [])) name ≡ slot_in models name
only_one models name = only_listed name (slot_in models name)

-- each change, by the slot of its name
load_of : Meanings → List ℕ → List ℕ → Option Slot → Change
load_of m name source o =
    after (needs (is_right_name name) bad_name) (λ _.
    after (needs (is_none o) (name_taken name (version_or_zero o))) (λ _.
    after (loaded m name source) (λ content.
    done (codes "loaded") (becomes name content))))

unload_of : List ℕ → Option Slot → Change
unload_of name o =
    after (is_there o (unknown_model name)) (λ _.
    done (codes "unloaded") (goes name))

-- the step of a formula, by the models that step
step_of : (m : Meanings) → Port → Option ℕ → Formula → Models → Change
step_of m inputs pick formula stepping =
    after (all_found m stepping (names formula)) (λ _.
    after (all_given stepping (fields_of inputs)) (λ _.
    after (leaves_of (ran m stepping inputs pick formula)) (λ leaves.
    accepted (steps_shown leaves) (news_of leaves))))

add_of : Meanings → List ℕ → List ℕ → List ℕ → Option Slot → Change
add_of m name inv source o =
    after (is_there o (unknown_model name)) (λ slot.
    after (needs (not (has_invariant slot.content inv)) (inv_taken inv name)) (λ _.
    after (needs (nat_lt (length slot.content.invs) invariant_limit) (invs_full invariant_limit name)) (λ _.
    after (added m name slot.content inv source) (λ new.
    done (codes "added") (becomes name new)))))

drop_of : List ℕ → List ℕ → Option Slot → Change
drop_of name inv o =
    after (is_there o (unknown_model name)) (λ slot.
    after (needs (has_invariant slot.content inv) (unknown_inv inv name)) (λ _.
    done (codes "dropped") (becomes name (without_invariant slot.content inv))))

rollback_of : List ℕ → ℕ → Option Slot → Change
rollback_of name to o =
    after (is_there o (unknown_model name)) (λ slot.
    after (is_there (content_at slot to) (lacks_version name slot)) (λ content.
    done (codes "rolled") (becomes name content)))

same_step : (m : Meanings) (models : Models) (inputs : Port) (pick : Option ℕ) (r : Result Formula FormulaRefusal)
    → after (unless_unread r) (λ f. step_formula m models inputs pick f) ≡ after (unless_unread r) (λ f. step_formula m (only models (names_in r)) inputs pick f)
unfolding step_of
same_step m models inputs pick (Ok f) = ap (step_of m inputs pick f) (sym (only_again models (names f)))
same_step m models inputs pick (Err why) = refl

-- a change depends on the models alone of which it speaks
pub same_change : (m : Meanings) (models : Models) (c : Call) → change m models c ≡ change m (only models (footprint c)) c
unfolding load_of unload_of add_of drop_of rollback_of
same_change m models (Load name source) = ap (load_of m name source) (sym (only_one models name))
same_change m models (Unload name) = ap (unload_of name) (sym (only_one models name))
same_change m models (Step source inputs pick) = same_step m models inputs pick (formula_of source)
same_change m models (AddInvariant name inv source) = ap (add_of m name inv source) (sym (only_one models name))
same_change m models (DropInvariant name inv) = ap (drop_of name inv) (sym (only_one models name))
same_change m models (Rollback name to) = ap (rollback_of name to) (sym (only_one models name))
same_change m models (Run source steps pick since) = refl
same_change m models (State name since) = refl
same_change m models (Value name term since) = refl
same_change m models (ShowText name since) = refl
same_change m models (AllModels since) = refl
same_change m models (Log from count since) = refl

-- ---- changes

-- the news of a change are of the models of which it speaks
new_one : (models : Models) (c : Call) (n : News) → Contains (footprint c) n.name → slot_of_news models n ≡ slot_of_news (only models (footprint c)) n
new_one models c n among = ap (λ o. record { name = n.name; slot = option_map (new_slot o) n.content }) (sym (slot_in-only models (footprint c) n.name among))

new_each : (models : Models) (c : Call) (news : List News) → AllByRecursion (λ n. Contains (footprint c) n.name) news
    → new_slots models news ≡ new_slots (only models (footprint c)) news
new_each models c [] all = refl
new_each models c (n ∷ ns) all = λ i. new_one models c n all.0 i ∷ new_each models c ns all.1 i

same_slots : (models : Models) (c : Call) (change : Change) → IfOk change (λ a. AllByRecursion (λ n. Contains (footprint c) n.name) a.news)
    → slots_of_change models change ≡ slots_of_change (only models (footprint c)) change
same_slots models c (Ok a) all = new_each models c a.news all
same_slots models c (Err why) all = refl

module _ (m : Meanings) (board : Board) (c : Call) (names : List (List ℕ)) (loads : Bool) (p : Prepared) where
  pub stands_change : footprint c ≡ names → is_change c ≡ true → loads ≡ loads_at board c → p ≡ change_made board c names loads (change m board.slots c) → Stands m p c board
  stands_change speaks changes new is =
      let spoken : change m board.slots c ≡ change_at m board c = same_change m board.slots c in
      let slots : slots_of_change board.slots (change m board.slots c) ≡ slots_of_change (spoken_of board c) (change_at m board c) =
      ap (slots_of_change board.slots) spoken ∙ same_slots board.slots c (change_at m board c) (change_news m (spoken_of board c) c) in
      record {
        is_call = ap (λ (q : Prepared). q.call) is;
        versions = ap (λ (q : Prepared). q.versions) is ∙ ap (versions_in board.slots) (sym speaks);
        body = ap (λ (q : Prepared). q.body) is ∙ ap body_of_change spoken
            ∙ sym (ap (λ t. cond t (body_of_change (change_at m board c)) (read_at m board c)) changes);
        tail = ap (λ (q : Prepared). q.tail) is ∙ ap (λ r. tail_of (body_of_change r)) spoken
            ∙ sym (ap (λ t. tail_of (cond t (body_of_change (change_at m board c)) (read_at m board c))) changes);
        slots = ap (λ (q : Prepared). q.slots) is ∙ slots
            ∙ sym (ap (λ t. cond t (slots_of_change (spoken_of board c) (change_at m board c)) []) changes);
        loads = ap (λ (q : Prepared). q.loads) is ∙ new;
        weight = ap (λ (q : Prepared). q.weight) is ∙ ap (weight_of_change c) spoken
            ∙ sym (ap (λ t. cond t (weight_of_change c (change_at m board c)) 0) changes);
      }

-- a load is new where there is no model of its name
pub loads_new : (board : Board) (name source : List ℕ) (loads : Bool) → loads ≡ (is_right_name name && is_none (slot_in board.slots name)) → loads ≡ loads_at board (Load name source)
loads_new board name source loads new = new ∙ ap (λ o. is_right_name name && is_none o) (sym (only_one board.slots name))

-- ---- reads

-- a read, by what it answers at the board
pub stands_read : (m : Meanings) (board : Board) (c : Call) (body : Body) (p : Prepared) → is_change c ≡ false → body ≡ read_at m board c → p ≡ read_made c body → Stands m p c board
stands_read m board c body p reads told is =
    let bodies : body ≡ body_at m board c = told ∙ sym (ap (λ t. cond t (body_of_change (change_at m board c)) (read_at m board c)) reads) in
    record {
      is_call = ap (λ (q : Prepared). q.call) is;
      versions = ap (λ (q : Prepared). q.versions) is ∙ sym (ap (versions_in board.slots) (speaks_of_none c reads));
      body = ap (λ (q : Prepared). q.body) is ∙ bodies;
      tail = ap (λ (q : Prepared). q.tail) is ∙ ap tail_of bodies;
      slots = ap (λ (q : Prepared). q.slots) is ∙ sym (ap (λ t. cond t (slots_of_change (spoken_of board c) (change_at m board c)) []) reads);
      loads = ap (λ (q : Prepared). q.loads) is ∙ sym (makes_none c (spoken_of board c) reads);
      weight = ap (λ (q : Prepared). q.weight) is ∙ sym (ap (λ t. cond t (weight_of_change c (change_at m board c)) 0) reads);
    }
