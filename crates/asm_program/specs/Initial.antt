-- The initial state of a program, which is this project's own.
use Rattle.std.specs.Prelude.{ℕ, ◌+◌, Bool, true, false, if◌then◌else◌, Option, Some, None, List, [], ◌∷◌, length, map, slice_get}
use Rattle.std.specs.List.{range_with_len}
use Rattle.std.specs.Option.{option_map_or}
use Rattle.std.specs.FinMap as finite
use Rattle.asm_value.specs.declared.value.Value.{Value}
use Rattle.asm_value.specs.declared.value.Value.TheVariants.{Truth}
use Rattle.asm_value.specs.declared.domain.Domain.{Domain}
use Rattle.asm_value.specs.declared.domain.DomainInfo.{DomainInfo}
use Rattle.asm_value.specs.Domain.{fits}
use Rattle.asm_value.specs.Living.{member_location}
use Rattle.asm_value.specs.State.{StateMap, is_undef, fire_one}
use Rattle.asm_syntax.specs.declared.token.Span.{Span}
use Rattle.asm_program.specs.declared.outcome.Fault.{Fault}
use Rattle.asm_program.specs.declared.outcome.FaultKind.TheVariants.{OutOfCodomain}
use Rattle.asm_program.specs.declared.outcome.Outcome.{Outcome}
use Rattle.asm_program.specs.declared.outcome.Outcome.TheVariants as outcome
use Rattle.asm_program.specs.declared.program.FunctionInfo.{FunctionInfo}
use Rattle.asm_program.specs.declared.program.InitInfo.{InitInfo}
use Rattle.asm_program.specs.declared.program.Program.{Program}
use Rattle.asm_program.specs.Members.{combinations, constants_of}
use Rattle.asm_program.specs.Meaning.{eval, location_of}

-- an initial state, or the first fault on the way to it
pub data Started : Type 0 where
  Starts : (state : StateMap) → Started
  StartFaults : (fault : Fault) → Started

-- ---- the constants

-- members of one domain are there
abbrev pub with_members : ℕ → List ℕ → StateMap → StateMap
with_members d [] state = state
with_members d (i ∷ is) state =
    with_members d is (finite.insert state (member_location d i) (Truth true))

-- the constants of the domains from number d on are there
abbrev pub with_constants : ℕ → List DomainInfo → StateMap → StateMap
with_constants d [] state = state
with_constants d (info ∷ infos) state =
    with_constants (d + 1) infos (with_members d (range_with_len 0 (constants_of info.kind)) state)

-- the state in which abstract domains have their constants, and all functions are undef
abbrev pub bare_state : List DomainInfo → StateMap
bare_state domains = with_constants 0 domains finite.empty

-- ---- the initial terms

abbrev pub in_codomain : Program → ℕ → Value → Bool
in_codomain p f v =
    option_map_or (λ info. fits p.domains p.everyone info.result v) (slice_get p.functions f) false

-- a location has the value, where that is undef or in the codomain
abbrev pub with_value : Program → ℕ → Span → List Value → StateMap → Value → Started
with_value p f span args state v =
    if is_undef v then Starts state
    else (if in_codomain p f v
    then Starts (fire_one state (record { location = location_of f args; value = v }))
    else StartFaults (record { kind = OutOfCodomain; span = span }))

abbrev pub with_outcome : Program → ℕ → Span → List Value → StateMap → Outcome → Started
with_outcome p f span args state (outcome.Value v) = with_value p f span args state v
with_outcome p f span args state (outcome.Fault e) = StartFaults e

abbrev pub on_start : Started → (StateMap → Started) → Started
on_start (Starts state) go = go state
on_start (StartFaults e) go = StartFaults e

-- the values at these argument lists, evaluated where no function has a value
abbrev pub at_each : Program → InitInfo → List (List Value) → StateMap → Started
at_each p init [] state = Starts state
at_each p init (args ∷ rest) state =
    on_start
    (with_outcome p init.function init.span args state
    (eval p (bare_state p.domains) init.body args))
    (at_each p init rest)

abbrev pub args_of : Option FunctionInfo → List Domain
args_of None = []
args_of (Some info) = info.args

-- the function has a value at each list of arguments, in ascending order
abbrev pub with_start : Program → InitInfo → StateMap → Started
with_start p init state =
    at_each p init
    (combinations p.domains (bare_state p.domains) (args_of (slice_get p.functions init.function)))
    state

abbrev pub with_starts : Program → List InitInfo → StateMap → Started
with_starts p [] state = Starts state
with_starts p (init ∷ inits) state = on_start (with_start p init state) (with_starts p inits)

-- The initial state: the constants, and the values of the initial terms in text order.
abbrev pub initial : Program → Started
initial p = with_starts p p.inits (bare_state p.domains)
