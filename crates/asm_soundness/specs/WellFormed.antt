-- Which states are well formed for a program (after Börger and Stärk, Abstract State Machines,
-- section 2.4.1): each location is one that the program has, with arguments and a value that fit.
use Rattle.std.specs.Prelude.{◌≡◌, ℕ, ◌<◌, ◌≤◌, Bool, true, false, Some, List, [], ◌∷◌, map, slice_get, slice_index}
use Rattle.std.specs.FinMap as finite
use Rattle.asm_value.specs.declared.value.Value.{Value}
use Rattle.asm_value.specs.declared.value.Value.TheVariants.{Truth, Member}
use Rattle.asm_value.specs.declared.domain.DomainInfo.{DomainInfo}
use Rattle.asm_value.specs.declared.domain.Live.{Live}
use Rattle.asm_value.specs.declared.location.Location.{Location}
use Rattle.asm_value.specs.declared.location.Subject.{Subject}
use Rattle.asm_value.specs.declared.location.Subject.TheVariants.{Function, Domain}
use Rattle.asm_value.specs.Domain.{fits, each_passes}
use Rattle.asm_value.specs.Living.{is_abstract, HasMember, live_of}
use Rattle.asm_value.specs.State.{StateMap}
use Rattle.asm_program.specs.declared.program.FunctionInfo.{FunctionInfo}
use Rattle.asm_program.specs.declared.program.FunctionKind.{FunctionKind}
use Rattle.asm_program.specs.declared.program.FunctionKind.TheVariants as kinds
use Rattle.asm_program.specs.declared.program.Program.{Program}
use Rattle.asm_program.specs.Members.{constants_of}
use Rattle.asm_program.specs.Yields.{counts_in}
use Rattle.asm_program.specs.Numbered.{MembersAreNumbered}

-- the value may change from state to state
abbrev pub is_dynamic : FunctionKind → Bool
is_dynamic kinds.Controlled = true
is_dynamic kinds.Monitored = true
is_dynamic kinds.Shared = true
is_dynamic kinds.Out = true
is_dynamic kinds.Static = false
is_dynamic kinds.Derived = false
is_dynamic kinds.Constant = false

module _ (p : Program) (live : Live) where
  -- a dynamic function, with arguments in its domains and a value in its codomain
  pub record IsOfFunction (f : ℕ) (args : List Value) (v : Value) : Type 0 where
    pub info : FunctionInfo
    pub declared : slice_get p.functions f ≡ Some info
    pub dynamic : is_dynamic info.kind ≡ true
    pub arguments : each_passes (map (fits p.domains live) info.args) args ≡ true
    pub value : fits p.domains live info.result v ≡ true

  -- that a member is in an abstract domain
  pub record IsMembership (d : ℕ) (args : List Value) (v : Value) : Type 0 where
    pub index : ℕ
    pub abstract : is_abstract p.domains d ≡ true
    pub member : args ≡ Member d index ∷ []
    pub holds : v ≡ Truth true

  abbrev pub Belongs : Subject → List Value → Value → Type 0
  Belongs (Function f) args v = IsOfFunction f args v
  Belongs (Domain d) args v = IsMembership d args v

-- each location is of the program and fits at the state's own members, which are numbered from 0 on
-- in each domain, at most 256, the constants among them
pub record IsWellFormed (p : Program) (state : StateMap) : Type 0 where
  pub locations : (l : Location) (v : Value) → finite.get state l ≡ Some v
      → Belongs p (live_of state p.domains) l.subject l.args v
  pub numbered : MembersAreNumbered p state
  pub few : (d : ℕ) → slice_index (counts_in p state) d ≤ 256
  pub constants : (d i : ℕ) (info : DomainInfo) → slice_get p.domains d ≡ Some info
      → i < constants_of info.kind → HasMember state d i
