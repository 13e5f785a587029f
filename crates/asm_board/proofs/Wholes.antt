-- Each slot of a board meets its invariants, with each earlier content that it remembers.
use Rattle.std.proofs.Common.{Bool, true, false, cond, not, ◌≡◌, ◌≤◌, ℕ, ◌+◌, ◌-◌, Option, None, Some, List, [], ◌∷◌, ◌++◌, length, Ok, Err, IfSome, option_map, sym, subst, length-drop, arith}
use Rattle.std.specs.List.{AllByRecursion}
use Rattle.std.specs.Str.{bytes_eq}
use Rattle.std.proofs.lemmas.List.Elements.{All-from_recursion, recursion_from_All, All-filter, All-push}
use Rattle.asm_program.specs.declared.program.Inv.{Inv}
use Rattle.asm_program.specs.declared.program.Program.{Program}
use Rattle.asm_program.specs.Initial.{Started, Starts, StartFaults}
use Rattle.asm_program.specs.Invariants.{holds}
use Rattle.asm_board.specs.declared.board.Slot.{Slot}
use Rattle.asm_board.specs.declared.entry.Entry.{Entry}
use Rattle.asm_board.specs.declared.prepared.News.{News}
use Rattle.asm_board.specs.declared.trail.TrailPair.{TrailPair}
use Rattle.asm_board.specs.Meanings.{Meanings}
use Rattle.asm_board.specs.Contents.{Contents, IsContent}
use Rattle.asm_board.specs.Stepping.{after_start}
use Rattle.asm_board.specs.Slots.{Models, slot_in, pairs_of, most_pairs, newest, trail_after, new_slot, new_slots}
use Rattle.asm_board.specs.Calls.{is_change}
use Rattle.asm_board.specs.Changes.{Change, added_invariant, with_invariant, without_invariant, change}
use Rattle.asm_board.specs.Boards.{slots_of_change, spoken_of, board_of}
use Rattle.asm_board.specs.Trails.{EachMeetsItsInvariants, HasFewPairs, EachHasFewPairs}
use Rattle.asm_board.proofs.Contents.{all_hold, IfDone, admitted_is}
use Rattle.asm_board.proofs.Changing.{StaysSo, each_is}
use Rattle.asm_board.proofs.Kept.{board_each}

start_is : (program : Program) (s : Started) → IfDone (after_start program s) IsContent
start_is program (Starts state) = admitted_is (record { program = program; invs = program.invariants; state = state }) IsContent (λ whole. whole)
start_is program (StartFaults fault) = tt

-- one more invariant, which holds
one_more : (content : Contents) (inv : Inv) → IsContent content → holds content.program content.state inv ≡ true → IsContent (with_invariant content inv)
one_more content inv whole test =
    let P : Inv → Type 0 = λ i. holds content.program content.state i ≡ true in
    record {
      light = whole.light;
      holds = recursion_from_All P (content.invs ++ inv ∷ []) (All-push P content.invs inv (All-from_recursion P content.invs whole.holds) test);
    }

-- fewer invariants
one_less : (content : Contents) (name : List ℕ) → IsContent content → IsContent (without_invariant content name)
one_less content name whole =
    let P : Inv → Type 0 = λ i. holds content.program content.state i ≡ true in
    record {
      light = whole.light;
      holds = recursion_from_All P (without_invariant content name).invs
          (All-filter (λ (i : Inv). not (bytes_eq name i.name)) P content.invs (All-from_recursion P content.invs whole.holds));
    }

stays_whole : (m : Meanings) → StaysSo m IsContent
stays_whole m = record {
  starts = λ source program is. start_is program (m.initial program);
  steps = λ models tree pick leaf fired before. subst IsContent (sym fired.is) fired.yielded.whole;
  more = λ content inv source term whole is none.
      one_more content (added_invariant inv source term) whole (all_hold content.program content.state (added_invariant inv source term ∷ []) none).0;
  fewer = one_less;
}

pub each_meets : (m : Meanings) (journal : List Entry) → EachMeetsItsInvariants (board_of m journal).slots
each_meets m journal = each_is m IsContent (stays_whole m) journal

-- ---- few pairs

few_kept : (pairs : List TrailPair) → length (newest pairs) ≤ most_pairs
few_kept pairs = omega (arith, length-drop (length pairs - most_pairs) pairs)

few_after : (old : Option Slot) → length (trail_after old).pairs ≤ most_pairs
few_after None = omega arith
few_after (Some slot) = few_kept (pairs_of slot ++ record { version = slot.version; content = slot.content } ∷ [])

few_new : (old : Option Slot) (content : Option Contents) → IfSome (option_map (new_slot old) content) HasFewPairs
few_new old None = tt
few_new old (Some c) = few_after old

few_slots : (models : Models) (news : List News) → AllByRecursion (λ c. IfSome c.slot HasFewPairs) (new_slots models news)
few_slots models [] = tt
few_slots models (n ∷ ns) = (few_new (slot_in models n.name) n.content, few_slots models ns)

few_where : (models : Models) (result : Change) (t : Bool) → AllByRecursion (λ c. IfSome c.slot HasFewPairs) (cond t (slots_of_change models result) [])
few_where models (Ok a) true = few_slots models a.news
few_where models (Err why) true = tt
few_where models result false = tt

pub each_has_few : (m : Meanings) (journal : List Entry) → EachHasFewPairs (board_of m journal).slots
each_has_few m journal =
    board_each HasFewPairs (λ k s few. few) m
    (λ b e _. few_where (spoken_of b e.call) (change m (spoken_of b e.call) e.call) (is_change e.call))
    journal
