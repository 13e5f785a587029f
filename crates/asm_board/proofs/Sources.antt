-- Each invariant of a model is one of its text, or has a text of its own.
use Rattle.std.proofs.Common.{not, ◌≡◌, ℕ, Some, List, [], ◌∷◌, ◌++◌, Ok, refl, sym, subst, arith}
use Rattle.std.specs.List.{AllByRecursion, Contains}
use Rattle.std.specs.Str.{bytes_eq}
use Rattle.std.proofs.lemmas.List.Elements.{All-from_recursion, recursion_from_All, All-filter, All-push, Contains-append_right}
use Rattle.asm_value.specs.declared.domain.Domain.TheVariants.{Truth}
use Rattle.asm_program.specs.declared.checked.CheckedTerm.{CheckedTerm}
use Rattle.asm_program.specs.declared.program.Inv.{Inv}
use Rattle.asm_program.specs.declared.program.Program.{Program}
use Rattle.asm_program.specs.Initial.{Started, Starts, StartFaults}
use Rattle.asm_board.specs.declared.entry.Entry.{Entry}
use Rattle.asm_board.specs.Meanings.{Meanings}
use Rattle.asm_board.specs.Contents.{Contents}
use Rattle.asm_board.specs.Stepping.{after_start}
use Rattle.asm_board.specs.Changes.{added_invariant, with_invariant, without_invariant}
use Rattle.asm_board.specs.Boards.{board_of}
use Rattle.asm_board.specs.Sources.{HasSource, OfText, Added, HaveSources, EachKeepsSources}
use Rattle.asm_board.proofs.Contents.{IfDone, admitted_is}
use Rattle.asm_board.proofs.Changing.{StaysSo, each_is}

module _ (m : Meanings) where
  first_of : (i : Inv) (is : List Inv) → Contains (i ∷ is) i
  first_of i is = (0, omega arith, refl)

  -- those of the text
  of_text : (program : Program) (invs : List Inv) → ((inv : Inv) → Contains invs inv → Contains program.invariants inv)
      → AllByRecursion (HasSource m program) invs
  of_text program [] among = tt
  of_text program (i ∷ is) among = (OfText (among i (first_of i is)), of_text program is (λ inv there. among inv (Contains-append_right (i ∷ []) is inv there)))

  started_has : (program : Program) (s : Started) → IfDone (after_start program s) (HaveSources m)
  started_has program (Starts state) =
      admitted_is (record { program = program; invs = program.invariants; state = state }) (HaveSources m) (λ _. of_text program program.invariants (λ inv there. there))
  started_has program (StartFaults fault) = tt

  -- one more invariant, of a text
  one_more : (content : Contents) (inv source : List ℕ) (term : CheckedTerm) → HaveSources m content → m.term_of content.program (Some Truth) source ≡ Ok term
      → HaveSources m (with_invariant content (added_invariant inv source term))
  one_more content inv source term has is =
      let P : Inv → Type 0 = HasSource m content.program in
      let new : Inv = added_invariant inv source term in
      recursion_from_All P (content.invs ++ new ∷ []) (All-push P content.invs new (All-from_recursion P content.invs has) (Added term refl is refl))

  -- fewer invariants
  one_less : (content : Contents) (name : List ℕ) → HaveSources m content → HaveSources m (without_invariant content name)
  one_less content name has =
      let P : Inv → Type 0 = HasSource m content.program in
      recursion_from_All P (without_invariant content name).invs
      (All-filter (λ (i : Inv). not (bytes_eq name i.name)) P content.invs (All-from_recursion P content.invs has))

  stays_sourced : StaysSo m (HaveSources m)
  stays_sourced = record {
    starts = λ source program is. started_has program (m.initial program);
    steps = λ models tree pick leaf fired before. subst (HaveSources m) (sym fired.is) before;
    more = λ content inv source term has is none. one_more content inv source term has is;
    fewer = one_less;
  }

  pub each_keeps : (journal : List Entry) → EachKeepsSources m (board_of m journal).slots
  each_keeps journal = each_is m (HaveSources m) stays_sourced journal
