-- What starts, inputs and steps lead to: well-formed states (after Börger and Stärk, Abstract State
-- Machines, section 2.4).
use Rattle.std.specs.Prelude.{◌≡◌, ℕ, Bool, true, ◌||◌, Option, Some, List, map, slice_get}
use Rattle.std.specs.List.{AllByRecursion}
use Rattle.std.specs.FinMap as finite
use Rattle.asm_value.specs.declared.value.Value.{Value}
use Rattle.asm_value.specs.declared.location.Location.{Location}
use Rattle.asm_value.specs.declared.location.Subject.TheVariants.{Function, Domain}
use Rattle.asm_value.specs.declared.location.Update.{Update}
use Rattle.asm_value.specs.Domain.{fits, each_passes}
use Rattle.asm_value.specs.Living.{live_of}
use Rattle.asm_value.specs.State.{StateMap, IsConsistent, is_undef, fire, fire_all}
use Rattle.asm_value.specs.UpdateSet.{UpdateSet}
use Rattle.asm_program.specs.declared.program.FunctionInfo.{FunctionInfo}
use Rattle.asm_program.specs.declared.program.Program.{Program}
use Rattle.asm_program.specs.Initial.{Starts, initial}
use Rattle.asm_program.specs.Yields.{Yields, main_yields}
use Rattle.asm_soundness.specs.WellFormed.{is_dynamic, IsWellFormed}
use Rattle.asm_soundness.specs.Sorted.{IsSorted}

-- the initial state is well formed
abbrev pub StartsWellFormed : Program → Type 0
StartsWellFormed p =
    (state : StateMap) → IsSorted p → initial p ≡ Starts state → IsWellFormed p state

-- an update of a dynamic function, whose arguments are in its domains at the state's members, and
-- whose value is undef or in its codomain
pub record IsInput (p : Program) (state : StateMap) (u : Update) : Type 0 where
  pub function : ℕ
  pub info : FunctionInfo
  pub declared : slice_get p.functions function ≡ Some info
  pub dynamic : is_dynamic info.kind ≡ true
  pub subject : u.location.subject ≡ Function function
  pub arguments :
      each_passes (map (fits p.domains (live_of state p.domains)) info.args) u.location.args ≡ true
  pub value :
      (is_undef u.value || fits p.domains (live_of state p.domains) info.result u.value) ≡ true

-- the locations of domains are among those that stay
abbrev pub KeepsMembers : (Location → Bool) → Type 0
KeepsMembers stays =
    (d : ℕ) (args : List Value) → stays (record { subject = Domain d; args = args }) ≡ true

-- a state whose functions lose some values and take inputs stays well formed
abbrev pub InputsKeepWellFormed : Program → Type 0
InputsKeepWellFormed p =
    (state : StateMap) (stays : Location → Bool) (inputs : List Update) → KeepsMembers stays
    → AllByRecursion (IsInput p state) inputs → IsWellFormed p state
    → IsWellFormed p (fire_all (finite.retain_keys state stays) inputs)

-- a step leads from a well-formed state to a well-formed state
abbrev pub StepsKeepWellFormed : Program → Type 0
StepsKeepWellFormed p =
    (pick : Option ℕ) (state : StateMap) (u : UpdateSet) (after : List ℕ) → IsSorted p
    → IsWellFormed p state → main_yields p state pick ≡ Yields u after → IsConsistent u
    → IsWellFormed p (fire state u)
