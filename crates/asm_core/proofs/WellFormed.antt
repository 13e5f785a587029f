-- Each state that a journal leads to is well formed.
use Rattle.std.proofs.Common.{◌≡◌, ℕ, not, List, Option, Ok, refl, sym, subst}
use Rattle.std.specs.List.{AllByRecursion}
use Rattle.asm_value.specs.declared.location.Location.{Location}
use Rattle.asm_program.specs.declared.program.Program.{Program}
use Rattle.asm_program.specs.Initial.{Started, Starts, StartFaults, initial}
use Rattle.asm_portable.specs.declared.port.Port.{Port}
use Rattle.asm_portable.specs.Ports.{fields_of}
use Rattle.asm_meaning.specs.Texts.{meaning_of_text}
use Rattle.asm_meaning.proofs.Texts.{program_sound}
use Rattle.asm_board.specs.declared.entry.Entry.{Entry}
use Rattle.asm_board.specs.Kinds.{is_monitored_subject}
use Rattle.asm_board.specs.Contents.{Contents}
use Rattle.asm_board.specs.Stepping.{after_start}
use Rattle.asm_board.specs.Inputs.{given_for, inputs_of}
use Rattle.asm_board.specs.Slots.{Models}
use Rattle.asm_board.specs.Steps.{state_before, FiresItsSet}
use Rattle.asm_board.specs.Boards.{board_of}
use Rattle.asm_board.proofs.Contents.{IfDone, admitted_is}
use Rattle.asm_board.proofs.Changing.{StaysSo, each_is}
use Rattle.asm_board.proofs.Found.{gives}
use Rattle.asm_soundness.specs.WellFormed.{IsWellFormed}
use Rattle.asm_soundness.specs.Sorted.{IsSorted}
use Rattle.asm_soundness.specs.Keeping.{IsInput}
use Rattle.asm_soundness.proofs.CheckedModels.{checked_is_sorted}
use Rattle.asm_soundness.proofs.Start.{starts_well}
use Rattle.asm_soundness.proofs.Inputs.{inputs_keep}
use Rattle.asm_soundness.proofs.Steps.{steps_keep}
use Rattle.asm_core.specs.Language.{asmeta}
use Rattle.asm_core.specs.Wholes.{HasWellFormedState, EachStateIsWellFormed}
use Rattle.asm_core.proofs.Inputs.{ReadsFit, inputs_are}

-- ---- the start

starts_from : (program : Program) (s : Started) → initial program ≡ s → IsSorted program → IfDone (after_start program s) HasWellFormedState
starts_from program (Starts state) is sorted =
    admitted_is (record { program = program; invs = program.invariants; state = state }) HasWellFormedState
    (λ _. record { sorted = sorted; state = starts_well program state sorted is })
starts_from program (StartFaults fault) is sorted = tt

-- the program of a text is sorted
sorted_text : (source : List ℕ) (program : Program) → meaning_of_text source ≡ Ok program → IsSorted program
sorted_text source program is = let p = program_sound source program is in checked_is_sorted source p.tree program p.typed

module _ (reads : ReadsFit) where
  -- ---- a step

  steps_from : (models : Models) (tree : Port) (pick : Option ℕ) (leaf : List ℕ × Contents) (fired : FiresItsSet asmeta models tree pick leaf)
      → HasWellFormedState fired.slot.content → HasWellFormedState leaf.1
  steps_from models tree pick leaf fired before =
      let content : Contents = fired.slot.content in
      let all : AllByRecursion (IsInput content.program content.state) fired.inputs =
      gives (λ us. AllByRecursion (IsInput content.program content.state) us)
      (inputs_of content leaf.0 (given_for (fields_of tree) leaf.0) fired.are_inputs.offer) fired.inputs
      (inputs_are reads content leaf.0 (given_for (fields_of tree) leaf.0) fired.are_inputs.offer) fired.are_inputs.are in
      let began : IsWellFormed content.program (state_before fired.slot fired.inputs) =
      inputs_keep content.program content.state (λ (l : Location). not (is_monitored_subject content.program l.subject)) fired.inputs (λ d args. refl) all before.state in
      subst HasWellFormedState (sym fired.is) (record {
        sorted = before.sorted;
        state = steps_keep content.program pick (state_before fired.slot fired.inputs) fired.updates fired.yielded.next before.sorted began fired.yielded.yields fired.yielded.consistent;
      })

  stays_well : StaysSo asmeta HasWellFormedState
  stays_well = record {
    starts = λ source program is. starts_from program (initial program) refl (sorted_text source program is);
    steps = steps_from;
    more = λ content inv source term before is none. record { sorted = before.sorted; state = before.state };
    fewer = λ content name before. record { sorted = before.sorted; state = before.state };
  }

  pub each_well : (journal : List Entry) → EachStateIsWellFormed (board_of asmeta journal).slots
  each_well journal = each_is asmeta HasWellFormedState stays_well journal
