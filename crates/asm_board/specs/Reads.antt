-- What each read shows of a board's models: its refusals in their order, or its Ok tree.
use Rattle.std.specs.Prelude.{ℕ, zero, suc, ◌+◌, Option, None, List, [], ◌∷◌, codes, Ok, Err}
use Rattle.asm_program.specs.declared.checked.CheckedTerm.{CheckedTerm}
use Rattle.asm_program.specs.declared.outcome.Outcome.{Outcome}
use Rattle.asm_program.specs.declared.outcome.Outcome.TheVariants as outcome
use Rattle.asm_program.specs.declared.program.Program.{Program}
use Rattle.asm_program.specs.Meaning.{eval}
use Rattle.asm_portable.specs.declared.port.Port.{Port}
use Rattle.asm_portable.specs.Ports.{text, field, fields}
use Rattle.asm_portable.specs.Values.{port_of}
use Rattle.asm_board.specs.declared.call.Call.{Call}
use Rattle.asm_board.specs.declared.call.Call.TheVariants as call
use Rattle.asm_board.specs.Meanings.{Meanings}
use Rattle.asm_board.specs.Contents.{Contents}
use Rattle.asm_board.specs.Refusals.{Tried, after, of_run, value_fault}
use Rattle.asm_board.specs.Slots.{Models}
use Rattle.asm_board.specs.Shown.{run_shown, state_shown, models_shown, fault_text}
use Rattle.asm_board.specs.Changes.{unless_bad, program_in, started, stepped_from, found}

-- a value is shown, undef as null; of a fault its kind and the model are told, and no place
abbrev pub value_told : List ℕ → Program → Outcome → Tried Port
value_told name program (outcome.Value v) =
    Ok (fields (field (codes "value") (port_of program.domains v) ∷ []))
value_told name program (outcome.Fault fault) = Err (value_fault (fault_text fault.kind) name)

abbrev pub text_shown : List ℕ → Port
text_shown source = fields (field (codes "text") (text source) ∷ [])

module _ (m : Meanings) where
  -- this many steps, of which the first has this number
  abbrev pub steps_from : Option ℕ → ℕ → ℕ → Contents → Tried Contents
  steps_from pick zero number content = Ok content
  steps_from pick (suc left) number content =
      after (stepped_from m (of_run number) pick content [])
      (λ next. steps_from pick left (number + 1) next)

  -- this many steps of a program, from its initial state, which is step 0
  abbrev pub steps_of : Option ℕ → Program → ℕ → Tried Contents
  steps_of pick program steps =
      after (started m (of_run 0) program) (λ content. steps_from pick steps 1 content)

  -- this many steps of a text that isn't kept
  abbrev pub run : List ℕ → ℕ → Option ℕ → Tried Port
  run source steps pick =
      after (program_in m source) (λ program.
      after (steps_of pick program steps) (λ content.
      Ok (run_shown program steps content.state)))

  abbrev pub state : Models → List ℕ → Tried Port
  state models name = after (found m models name) (λ slot. Ok (state_shown slot))

  -- the term of a text, of any domain, over what the program declares
  abbrev pub term_in : Program → List ℕ → Tried CheckedTerm
  term_in program source = unless_bad (m.term_of program None source)

  -- what the term of a text gives in a model's state
  abbrev pub value : Models → List ℕ → List ℕ → Tried Port
  value models name source =
      after (found m models name) (λ slot. let content = slot.content in
      after (term_in content.program source) (λ term.
      value_told name content.program (eval content.program content.state term.term [])))

  -- a model's text in its canonical form
  abbrev pub canonical_text : Models → List ℕ → Tried Port
  canonical_text models name =
      after (found m models name) (λ slot.
      Ok (text_shown (m.canonical slot.content.program.text)))

  -- What a read shows of the models alone. The entries that a log shows are of the journal, and
  -- stand where the answer to it is defined.
  abbrev pub read : Models → Call → Tried Port
  read models (call.Run source steps pick since) = run source steps pick
  read models (call.State name since) = state models name
  read models (call.Value name term since) = value models name term
  read models (call.ShowText name since) = canonical_text models name
  read models (call.Models since) = Ok (models_shown models)
  read models _ = Ok (fields [])
