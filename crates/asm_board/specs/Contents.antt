-- Contents: what a model is at one version.
use Rattle.std.specs.Prelude.{◌≤◌, ℕ, List}
use Rattle.asm_value.specs.State.{StateMap, state_weight}
use Rattle.asm_program.specs.declared.program.Inv.{Inv}
use Rattle.asm_program.specs.declared.program.Program.{Program}
use Rattle.asm_program.specs.Invariants.{AllHold}

-- a program, its invariants, those that were added among them, and a state
pub record Contents : Type 0 where
  pub program : Program
  pub invs : List Inv
  pub state : StateMap

-- the most that a state weighs
abbrev pub state_limit : ℕ
state_limit = 65536

-- its state is light, and each of its invariants holds
pub record IsContent (content : Contents) : Type 0 where
  pub light : state_weight content.state ≤ state_limit
  pub holds : AllHold content.program content.state content.invs

abbrev pub with_state : Contents → StateMap → Contents
with_state content state = record content { state = state }
