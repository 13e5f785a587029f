-- How a domain, a function, a step and a field are shown.
use Rattle.std.specs.Prelude.{ℕ, Bool, true, List, [], ◌∷◌, Option, Some, None, codes, if◌then◌else◌}
use Rattle.asm_value.specs.declared.domain.DomainKind.{DomainKind}
use Rattle.asm_value.specs.Living.{is_abstract_kind}
use Rattle.asm_portable.specs.declared.port.Port.{Port}
use Rattle.asm_portable.specs.declared.port.Field.{Field}
use Rattle.asm_portable.specs.Ports.{number, field, put_field}
use Rattle.asm_program.specs.declared.program.FunctionKind.{FunctionKind}
use Rattle.asm_board.specs.Refusals.{Whose}
use Rattle.asm_board.specs.Kinds.{is_out}
use Rattle.asm_showing.specs.declared.shown.Kinds.{Kinds}
use Rattle.asm_showing.specs.declared.shown.Kinds.TheVariants as shown

-- an abstract domain's number of members under its name among the fields
abbrev pub with_domain : List ℕ → DomainKind → ℕ → List Field → List Field
with_domain name kind count fields =
    if is_abstract_kind kind then put_field (field name (number count)) fields else fields

-- what is shown of a function under its name among the fields, where it is defined
abbrev pub with_shown : List ℕ → Option Port → List Field → List Field
with_shown name None fields = fields
with_shown name (Some tree) fields = put_field (field name tree) fields

-- the step of a run, where a run is refused
abbrev pub step_fields : Option ℕ → List Field
step_fields None = []
step_fields (Some step) = field (codes "step") (number step) ∷ []

-- the model that a refusal names, or the step of a run
abbrev pub whose_by : List ℕ → Option ℕ → Whose
whose_by name step = record { name = name; step = step_fields step }

-- the function is among those that are shown
abbrev pub has_kind : Kinds → FunctionKind → Bool
has_kind shown.Every kind = true
has_kind shown.Out kind = is_out kind
