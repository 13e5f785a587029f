-- What is so of each content with which a model starts, and stays so where the content changes, is so
-- of each content of a board.
use Rattle.std.proofs.Common.{Bool, true, false, cond, not, nat_lt, nat_le, ◌≡◌, ℕ, ◌+◌, ◌-◌, Option, None, Some, is_none, List, [], ◌∷◌, ◌++◌, length, find, Ok, Err, IfOk, IfSome, option_map, refl, sym, subst, ◌==◌}
use Rattle.std.specs.Prelude.{Result}
use Rattle.std.specs.List.{AllByRecursion}
use Rattle.std.proofs.lemmas.List.Elements.{All-from_recursion, recursion_from_All, All-push, All-drop}
use Rattle.asm_value.specs.declared.domain.Domain.TheVariants.{Truth}
use Rattle.asm_program.specs.declared.bad_text.BadText.{BadText}
use Rattle.asm_program.specs.declared.checked.CheckedTerm.{CheckedTerm}
use Rattle.asm_program.specs.declared.program.Inv.{Inv}
use Rattle.asm_program.specs.declared.program.Program.{Program}
use Rattle.asm_program.specs.Invariants.{first_broken}
use Rattle.asm_portable.specs.declared.port.Port.{Port}
use Rattle.asm_board.specs.declared.board.Slot.{Slot}
use Rattle.asm_board.specs.declared.call.Call.{Call}
use Rattle.asm_board.specs.declared.call.Call.TheVariants as call
use Rattle.asm_board.specs.declared.entry.Entry.{Entry}
use Rattle.asm_board.specs.declared.prepared.News.{News}
use Rattle.asm_board.specs.declared.prepared.Accepted.{Accepted}
use Rattle.asm_board.specs.declared.refusal.RefusalName.TheVariants as no
use Rattle.asm_board.specs.declared.trail.TrailPair.{TrailPair}
use Rattle.asm_board.specs.Meanings.{Meanings}
use Rattle.asm_board.specs.Contents.{Contents}
use Rattle.asm_board.specs.Stepping.{start}
use Rattle.asm_board.specs.Steps.{FiresItsSet, FireTheirSets}
use Rattle.asm_board.specs.Refusals.{needs, is_there, of_model, bad_name, bad_text, broken, unknown_model, inv_taken, unknown_inv, invs_full}
use Rattle.asm_board.specs.Slots.{Models, slot_in, pairs_of, most_pairs, newest, trail_after, at_version, new_slot, new_slots}
use Rattle.asm_board.specs.Trails.{IsThroughout, EachIsThroughout}
use Rattle.asm_board.specs.Calls.{footprint, is_change}
use Rattle.asm_board.specs.Changes.{Change, is_right_name, invariant_limit, work_limit, has_invariant, whole_work, unless_bad, too_much_work, added_invariant, with_invariant, without_invariant, lacks_version, content_at, program_in, loaded, not_taken, found, condition_in, with_held, added, load, unload, step_models, add_invariant, drop_invariant, rollback, change}
use Rattle.asm_board.specs.Boards.{slots_of_change, spoken_of, board_of}
use Rattle.asm_board.proofs.Contents.{IfDone, done_content}
use Rattle.asm_board.proofs.Found.{goes_on, goes_by, weaker, passes, there, mapped, found_among}
use Rattle.asm_board.proofs.Fired.{fires, news_have}
use Rattle.asm_board.proofs.Kept.{each_slot, only_each, board_each}

none_is : {A : Type 0} (o : Option A) → is_none o ≡ true → o ≡ None
none_is None is = refl
none_is (Some x) is = absurd (cc (is))

term_is : (r : Result CheckedTerm BadText) → IfOk (unless_bad r) (λ term. r ≡ Ok term)
term_is (Ok term) = refl
term_is (Err bad) = tt

program_is : (r : Result Program BadText) → IfOk (unless_bad r) (λ program. r ≡ Ok program)
program_is (Ok program) = refl
program_is (Err bad) = tt

-- It is so of each content with which a model starts, of what a step makes of one of which it is so,
-- and where an invariant that holds is added or one is dropped.
pub record StaysSo (m : Meanings) (P : Contents → Type 0) : Type 0 where
  pub starts : (source : List ℕ) (program : Program) → m.program_of source ≡ Ok program → IfDone (start m program) P
  pub steps : (models : Models) (tree : Port) (pick : Option ℕ) (leaf : List ℕ × Contents) (fired : FiresItsSet m models tree pick leaf) → P fired.slot.content → P leaf.1
  pub more : (content : Contents) (inv source : List ℕ) (term : CheckedTerm) → P content → m.term_of content.program (Some Truth) source ≡ Ok term
      → first_broken content.program content.state (added_invariant inv source term ∷ []) ≡ None → P (with_invariant content (added_invariant inv source term))
  pub fewer : (content : Contents) (name : List ℕ) → P content → P (without_invariant content name)

module _ (m : Meanings) (P : Contents → Type 0) (stays : StaysSo m P) where
  abbrev W : Slot → Type 0
  W = IsThroughout P

  -- each earlier content that is kept
  earlier_is : (slot : Slot) (version : ℕ) → W slot → IfSome (content_at slot version) P
  earlier_is slot version so =
      mapped P (λ (p : TrailPair). p.content) (find (λ (p : TrailPair). p.version == version) (pairs_of slot))
      (found_among (λ (p : TrailPair). P p.content) (λ (p : TrailPair). p.version == version) (pairs_of slot) so.earlier)

  -- ---- what becomes of the models

  abbrev AreSo : Accepted → Type 0
  AreSo a = AllByRecursion (λ n. IfSome n.content P) a.news

  aged : (k : ℕ) (s : Slot) → W s → W (at_version k s)
  aged k s so = record { present = so.present; earlier = so.earlier }

  load_is : (models : Models) (name source : List ℕ) → IfOk (load m models name source) AreSo
  load_is models name source =
      goes_on AreSo (needs (is_right_name name) bad_name) _ (λ _ _.
      goes_on AreSo (not_taken m models name) _ (λ _ _.
      goes_by P AreSo (loaded m name source) _
      (goes_by (λ program. m.program_of source ≡ Ok program) P (program_in m source) _ (program_is (m.program_of source)) (λ program is.
      done_content P no.InitFault (of_model name) program (start m program) (stays.starts source program is)))
      (λ content so. (so, tt))))

  unload_is : (models : Models) (name : List ℕ) → IfOk (unload m models name) AreSo
  unload_is models name = goes_on AreSo (found m models name) _ (λ slot _. (tt, tt))

  held_is : (name : List ℕ) (content : Contents) (inv source : List ℕ) (term : CheckedTerm) → P content → m.term_of content.program (Some Truth) source ≡ Ok term
      → IfOk (with_held m name content (added_invariant inv source term)) P
  held_is name content inv source term so is =
      let broken_one = first_broken content.program content.state (added_invariant inv source term ∷ []) in
      goes_by (λ _. is_none broken_one ≡ true) P (needs (is_none broken_one) (broken (of_model name) inv)) _
      (passes (is_none broken_one) (broken (of_model name) inv))
      (λ _ none. stays.more content inv source term so is (none_is broken_one none))

  added_is : (name : List ℕ) (content : Contents) (inv source : List ℕ) → P content → IfOk (added m name content inv source) P
  added_is name content inv source so =
      goes_by (λ (term : CheckedTerm). m.term_of content.program (Some Truth) source ≡ Ok term) P (condition_in m content.program source) _
      (term_is (m.term_of content.program (Some Truth) source)) (λ term is.
      goes_on P (needs (nat_le (whole_work content + term.work) work_limit) (bad_text (too_much_work source term (whole_work content + term.work)))) _ (λ _ _.
      held_is name content inv source term so is))

  module _ (models : Models) (all : EachIsThroughout P models) where
    found_is : (name : List ℕ) → IfOk (found m models name) W
    found_is name = there W (slot_in models name) (unknown_model name) (each_slot W aged models name all)

    slot_is : (slot : Slot) (o : Option Slot) → o ≡ Some slot → IfSome o W → W slot
    slot_is slot o is so = subst (λ (x : Option Slot). IfSome x W) is so

    fired_is : (tree : Port) (pick : Option ℕ) (name : List ℕ) (content : Contents) → FiresItsSet m models tree pick (name, content) → P content
    fired_is tree pick name content f =
        stays.steps models tree pick (name, content) f (slot_is f.slot (slot_in models name) f.found (each_slot W aged models name all)).present

    steps_are : (source : List ℕ) (tree : Port) (pick : Option ℕ) (a : Accepted) → FireTheirSets m models source tree pick a → AreSo a
    steps_are source tree pick a f =
        subst (AllByRecursion (λ (n : News). IfSome n.content P)) (sym f.news)
        (news_have m models tree pick P (fired_is tree pick) f.leaves f.each)

    step_is : (source : List ℕ) (tree : Port) (pick : Option ℕ) → IfOk (step_models m models source tree pick) AreSo
    step_is source tree pick = weaker (step_models m models source tree pick) (steps_are source tree pick) (fires m models tree pick source)

    add_is : (name inv source : List ℕ) → IfOk (add_invariant m models name inv source) AreSo
    add_is name inv source =
        goes_by W AreSo (found m models name) _ (found_is name) (λ slot so.
        goes_on AreSo (needs (not (has_invariant slot.content inv)) (inv_taken inv name)) _ (λ _ _.
        goes_on AreSo (needs (nat_lt (length slot.content.invs) invariant_limit) (invs_full invariant_limit name)) _ (λ _ _.
        goes_by P AreSo (added m name slot.content inv source) _ (added_is name slot.content inv source so.present) (λ content new. (new, tt)))))

    drop_is : (name inv : List ℕ) → IfOk (drop_invariant m models name inv) AreSo
    drop_is name inv =
        goes_by W AreSo (found m models name) _ (found_is name) (λ slot so.
        goes_on AreSo (needs (has_invariant slot.content inv) (unknown_inv inv name)) _ (λ _ _. (stays.fewer slot.content inv so.present, tt)))

    rollback_is : (name : List ℕ) (to : ℕ) → IfOk (rollback m models name to) AreSo
    rollback_is name to =
        goes_by W AreSo (found m models name) _ (found_is name) (λ slot so.
        goes_by P AreSo (is_there (content_at slot to) (lacks_version name slot)) _
        (there P (content_at slot to) (lacks_version name slot) (earlier_is slot to so)) (λ content new. (new, tt)))

    change_is : (c : Call) → IfOk (change m models c) AreSo
    change_is (call.Run source count pick since) = tt
    change_is (call.Load name source) = load_is models name source
    change_is (call.Unload name) = unload_is models name
    change_is (call.Step formula inputs pick) = step_is formula inputs pick
    change_is (call.State name since) = tt
    change_is (call.Value name term since) = tt
    change_is (call.ShowText name since) = tt
    change_is (call.Models since) = tt
    change_is (call.Log from count since) = tt
    change_is (call.AddInvariant name inv term) = add_is name inv term
    change_is (call.DropInvariant name inv) = drop_is name inv
    change_is (call.Rollback name to) = rollback_is name to

  -- ---- new slots

  -- the pairs after a change
  trail_is : (old : Option Slot) → IfSome old W → AllByRecursion (λ pair. P pair.content) (trail_after old).pairs
  trail_is None so = tt
  trail_is (Some slot) so =
      let Q : TrailPair → Type 0 = λ pair. P pair.content in
      let pair : TrailPair = record { version = slot.version; content = slot.content } in
      let more : List TrailPair = pairs_of slot ++ pair ∷ [] in
      recursion_from_All Q (newest more)
      (All-drop Q (length more - most_pairs) more (All-push Q (pairs_of slot) pair (All-from_recursion Q (pairs_of slot) so.earlier) so.present))

  new_slot_is : (old : Option Slot) (content : Option Contents) → IfSome old W → IfSome content P → IfSome (option_map (new_slot old) content) W
  new_slot_is old None before new = tt
  new_slot_is old (Some c) before new = record { present = new; earlier = trail_is old before }

  new_slots_are : (models : Models) (news : List News) → EachIsThroughout P models → AllByRecursion (λ n. IfSome n.content P) news
      → AllByRecursion (λ c. IfSome c.slot W) (new_slots models news)
  new_slots_are models [] all new = tt
  new_slots_are models (n ∷ ns) all new =
      (new_slot_is (slot_in models n.name) n.content (each_slot W aged models n.name all) new.0, new_slots_are models ns all new.1)

  fresh_where : (models : Models) (result : Change) (t : Bool) → EachIsThroughout P models → IfOk result AreSo
      → AllByRecursion (λ c. IfSome c.slot W) (cond t (slots_of_change models result) [])
  fresh_where models (Ok a) true all new = new_slots_are models a.news all new
  fresh_where models (Err why) true all new = tt
  fresh_where models result false all new = tt

  -- it is so of each content of a board
  pub each_is : (journal : List Entry) → EachIsThroughout P (board_of m journal).slots
  each_is journal =
      board_each W aged m
      (λ b e all. let models = spoken_of b e.call in
      let spoken : EachIsThroughout P models = only_each W aged b.slots (footprint e.call) all in
      fresh_where models (change m models e.call) (is_change e.call) spoken (change_is models spoken e.call))
      journal
