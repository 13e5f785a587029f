-- Kinds of functions, as the environment of a model sees them (Börger and Stärk, Abstract State
-- Machines, section 2.2.3).
use Rattle.std.specs.Prelude.{Bool, true, false, slice_get}
use Rattle.std.specs.Option.{option_map_or}
use Rattle.asm_value.specs.declared.location.Subject.{Subject}
use Rattle.asm_value.specs.declared.location.Subject.TheVariants.{Function, Domain}
use Rattle.asm_program.specs.declared.program.FunctionKind.{FunctionKind}
use Rattle.asm_program.specs.declared.program.FunctionKind.TheVariants as kinds
use Rattle.asm_program.specs.declared.program.Program.{Program}

-- the environment gives the function its values anew with each step
abbrev pub is_monitored : FunctionKind → Bool
is_monitored kinds.Monitored = true
is_monitored _ = false

-- the environment may set the function
abbrev pub is_input : FunctionKind → Bool
is_input kinds.Monitored = true
is_input kinds.Shared = true
is_input _ = false

-- the environment is told of the function
abbrev pub is_out : FunctionKind → Bool
is_out kinds.Out = true
is_out _ = false

-- the location is one of a monitored function
abbrev pub is_monitored_subject : Program → Subject → Bool
is_monitored_subject program (Function f) =
    option_map_or (λ info. is_monitored info.kind) (slice_get program.functions f) false
is_monitored_subject program (Domain d) = false
