-- What a client is shown of a model.
use Rattle.std.specs.Prelude.{ℕ, ◌+◌, ◌≡◌, ◌==◌, Bool, true, not, Option, Some, None, List, [], ◌∷◌, ◌++◌, length, map, take, count_by, slice_get, codes, if◌then◌else◌}
use Rattle.std.specs.Option.{option_map_or}
use Rattle.std.specs.List.{suffix_len}
use Rattle.asm_value.specs.declared.domain.Domain.{Domain as Domains}
use Rattle.asm_value.specs.declared.domain.DomainInfo.{DomainInfo}
use Rattle.asm_value.specs.declared.domain.DomainKind.{DomainKind}
use Rattle.asm_value.specs.Living.{is_abstract_kind, members_of_kind}
use Rattle.asm_value.specs.declared.value.Value.{Value}
use Rattle.asm_value.specs.declared.location.Location.{Location}
use Rattle.asm_value.specs.declared.location.Subject.{Subject}
use Rattle.asm_value.specs.declared.location.Subject.TheVariants.{Function, Domain}
use Rattle.asm_value.specs.State.{StateMap, value_at, is_undef}
use Rattle.asm_state.specs.Functions.{entries_of}
use Rattle.asm_program.specs.declared.outcome.Fault.{Fault}
use Rattle.asm_program.specs.declared.outcome.FaultKind.{FaultKind}
use Rattle.asm_program.specs.declared.outcome.FaultKind.TheVariants as faults
use Rattle.asm_program.specs.declared.program.FunctionInfo.{FunctionInfo}
use Rattle.asm_program.specs.declared.program.FunctionKind.{FunctionKind}
use Rattle.asm_program.specs.declared.program.Program.{Program}
use Rattle.asm_program.specs.Meaning.{location_of}
use Rattle.asm_portable.specs.declared.port.Port.{Port}
use Rattle.asm_portable.specs.declared.port.Field.{Field}
use Rattle.asm_portable.specs.Ports.{text, number, list, field, fields, ascending}
use Rattle.asm_portable.specs.Values.{port_of}
use Rattle.asm_compose.specs.declared.given.Given.{Given}
use Rattle.asm_compose.specs.Offers.{Offer, gathered}
use Rattle.asm_board.specs.declared.board.Slot.{Slot}
use Rattle.asm_board.specs.declared.board.NamedSlot.{NamedSlot}
use Rattle.asm_board.specs.declared.refusal.Refusal.{Refusal}
use Rattle.asm_board.specs.declared.refusal.RefusalName.{RefusalName}
use Rattle.asm_board.specs.Refusals.{Whose, fault_at, clash_at}
use Rattle.asm_board.specs.Kinds.{is_out}
use Rattle.asm_board.specs.Contents.{Contents}
use Rattle.asm_board.specs.Slots.{Models}

-- ---- domains

-- an abstract domain under its name, with its number of members
abbrev pub shown_domain : List ℕ → DomainKind → ℕ → List Field → List Field
shown_domain name kind count others =
    if is_abstract_kind kind then field name (number count) ∷ others else others

-- the abstract domains in text order, of which this is the number of the first
abbrev pub counted : StateMap → ℕ → List DomainInfo → List Field
counted state d [] = []
counted state d (info ∷ infos) =
    shown_domain info.name info.kind (length (members_of_kind state d info.kind))
    (counted state (d + 1) infos)

-- each abstract domain with its number of members in the state, by name
abbrev pub domains_shown : Program → StateMap → Port
domains_shown program state = fields (ascending (counted state 0 program.domains))

-- ---- functions

-- the list of a location's arguments, and its value
abbrev pub pair_shown : List DomainInfo → Location × Value → Port
pair_shown domains e = list (list (map (port_of domains) e.0.args) ∷ port_of domains e.1 ∷ [])

abbrev pub pairs_shown : List DomainInfo → List (Location × Value) → Option Port
pairs_shown domains [] = None
pairs_shown domains (e ∷ es) = Some (list (map (pair_shown domains) (e ∷ es)))

abbrev pub value_shown : List DomainInfo → Value → Option Port
value_shown domains value = if is_undef value then None else Some (port_of domains value)

-- what is shown of a function that is defined somewhere: its value where it has no arguments, else
-- each list of arguments with its value, ascending
abbrev pub function_shown : List DomainInfo → StateMap → ℕ → List Domains → Option Port
function_shown domains state f [] = value_shown domains (value_at state (location_of f []))
function_shown domains state f (arg ∷ args) = pairs_shown domains (entries_of f state)

abbrev pub shown_field : List ℕ → Option Port → List Field → List Field
shown_field name None others = others
shown_field name (Some tree) others = field name tree ∷ others

-- what is shown of a function, where its kind is one of these
abbrev pub shown_if : Bool → Option Port → Option Port
shown_if of_kind shown = if of_kind then shown else None

-- the defined functions of some kinds in text order, of which this is the number of the first
abbrev pub defined : (FunctionKind → Bool) → List DomainInfo → StateMap → ℕ → List FunctionInfo
    → List Field
defined kinds domains state number [] = []
defined kinds domains state number (f ∷ fs) =
    shown_field f.name (shown_if (kinds f.kind) (function_shown domains state number f.args))
    (defined kinds domains state (number + 1) fs)

-- each of them that is defined with what is shown of it, by name
abbrev pub listed_of : (FunctionKind → Bool) → Program → StateMap → List Field
listed_of kinds program state =
    ascending (defined kinds program.domains state 0 program.functions)

abbrev pub every_kind : FunctionKind → Bool
every_kind kind = true

-- each defined function
abbrev pub functions_listed : Program → StateMap → List Field
functions_listed program state = listed_of every_kind program state

abbrev pub functions_shown : Program → StateMap → Port
functions_shown program state = fields (functions_listed program state)

-- the field is what is shown of a function under its name, which is defined in the state
pub record IsDefinedFunction (program : Program) (state : StateMap) (shown : Field) : Type 0 where
  pub number : ℕ
  pub info : FunctionInfo
  pub found : slice_get program.functions number ≡ Some info
  pub tree : Port
  pub defined : function_shown program.domains state number info.args ≡ Some tree
  pub is : shown ≡ field info.name tree

-- no two functions of the program have one name
abbrev pub NamesDiffer : Program → Type 0
NamesDiffer program = (i j : ℕ) (f g : FunctionInfo)
    → slice_get program.functions i ≡ Some f → slice_get program.functions j ≡ Some g
    → f.name ≡ g.name → i ≡ j

-- what a run shows of its last state
abbrev pub run_shown : Program → ℕ → StateMap → Port
run_shown program steps state = fields
    (field (codes "domains") (domains_shown program state)
    ∷ field (codes "functions") (functions_shown program state)
    ∷ field (codes "steps") (number steps) ∷ [])

-- what is shown of a model, its invariants by their names
abbrev pub state_shown : Slot → Port
state_shown slot = fields
    (field (codes "domains") (domains_shown slot.content.program slot.content.state)
    ∷ field (codes "functions") (functions_shown slot.content.program slot.content.state)
    ∷ field (codes "invs") (list (map (λ inv. text inv.name) slot.content.invs))
    ∷ field (codes "version") (number slot.version) ∷ [])

-- a model's name with its version
abbrev pub model_shown : NamedSlot → Port
model_shown model = list (text model.name ∷ number model.slot.version ∷ [])

-- each name with its version
abbrev pub models_shown : Models → Port
models_shown models = list (map model_shown models)

-- what the environment is told of a content: its out functions that are defined
abbrev pub outs_shown : Contents → Port
outs_shown content = fields (listed_of is_out content.program content.state)

-- a step tells the out functions of its models
abbrev pub steps_shown : List (List ℕ × Contents) → Port
steps_shown leaves = fields (field (codes "out")
    (fields (ascending (map (λ l. field l.0 (outs_shown l.1)) leaves))) ∷ [])

-- ---- offers

-- a location of a function with its value, as other models are offered it
abbrev pub offered_entry : List DomainInfo → List ℕ → Location × Value → Given
offered_entry domains function e = record {
  function = function;
  args = map (port_of domains) e.0.args;
  value = port_of domains e.1;
}

-- what a function offers, where it is an out function
abbrev pub function_offers : List DomainInfo → StateMap → ℕ → FunctionInfo → List Given
function_offers domains state f info =
    if is_out info.kind then map (offered_entry domains info.name) (entries_of f state) else []

-- the out functions in text order, of which this is the number of the first
abbrev pub offers_from : List DomainInfo → StateMap → ℕ → List FunctionInfo → List Given
offers_from domains state f [] = []
offers_from domains state f (info ∷ infos) =
    function_offers domains state f info ++ offers_from domains state (f + 1) infos

-- what a content offers: its defined out locations
abbrev pub offer_of : Contents → Offer
offer_of content =
    gathered (offers_from content.program.domains content.state 0 content.program.functions)

-- ---- faults and clashes

abbrev pub fault_text : FaultKind → List ℕ
fault_text faults.Overflow = codes "Overflow"
fault_text faults.ValueTooLarge = codes "ValueTooLarge"
fault_text faults.DomainFull = codes "DomainFull"
fault_text faults.OutOfDomain = codes "OutOfDomain"
fault_text faults.OutOfCodomain = codes "OutOfCodomain"
fault_text faults.UpdatesTooLarge = codes "UpdatesTooLarge"

-- the line and the column of a byte of a text, both from 1: a line ends with its line feed
abbrev pub line_at : List ℕ → ℕ → ℕ
line_at text at = 1 + count_by (λ b. b == 10) (take at text)

abbrev pub column_at : List ℕ → ℕ → ℕ
column_at text at = 1 + suffix_len (λ b. not (b == 10)) (take at text)

-- its kind, and its place in the program's text
abbrev pub fault_shown : RefusalName → Whose → Program → Fault → Refusal
fault_shown name whose program fault =
    fault_at name whose (column_at program.text fault.span.start) (fault_text fault.kind)
    (line_at program.text fault.span.start)

abbrev pub function_name : Program → ℕ → List ℕ
function_name program f = option_map_or (λ info. info.name) (slice_get program.functions f) []

abbrev pub subject_name : Program → Subject → List ℕ
subject_name program (Function f) = function_name program f
subject_name program (Domain d) = []

-- its location and its two values
abbrev pub clash_shown : Whose → Program → Location → Value → Value → Refusal
clash_shown whose program location first second =
    clash_at whose (map (port_of program.domains) location.args)
    (subject_name program location.subject)
    (port_of program.domains first ∷ port_of program.domains second ∷ [])
