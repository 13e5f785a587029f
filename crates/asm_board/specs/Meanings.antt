-- What boards take of the language. The laws of boards hold of any such meanings.
use Rattle.std.specs.Prelude.{ℕ, List, Option, Result}
use Rattle.asm_value.specs.declared.domain.Domain.{Domain}
use Rattle.asm_value.specs.State.{StateMap}
use Rattle.asm_program.specs.declared.program.Program.{Program}
use Rattle.asm_program.specs.declared.bad_text.BadText.{BadText}
use Rattle.asm_program.specs.declared.checked.CheckedTerm.{CheckedTerm}
use Rattle.asm_program.specs.Initial.{Started}
use Rattle.asm_program.specs.Yields.{Yielded}

-- the meanings of texts, of terms, of programs and of rules
pub record Meanings : Type 0 where
  -- the program of a text, or what is reported of it
  pub program_of : List ℕ → Result Program BadText
  -- the term of a text over a program, of a domain where one is wanted, or what is reported of it
  pub term_of : Program → Option Domain → List ℕ → Result CheckedTerm BadText
  -- the canonical text of the model of a text
  pub canonical : List ℕ → List ℕ
  -- the initial state of a program, or the first fault on the way to it
  pub initial : Program → Started
  -- the updates that the main rule yields in a state for a pick, or its first fault
  pub yields : Program → StateMap → Option ℕ → Yielded
