-- What a function has in a state.
use Rattle.std.specs.Prelude.{ℕ, Bool, false, ◌==◌, List, slice_get, unwrap_or}
use Rattle.std.specs.List.{filter}
use Rattle.std.specs.FinMap as finite
use Rattle.asm_value.specs.declared.value.Value.{Value}
use Rattle.asm_value.specs.declared.location.Subject.{Subject}
use Rattle.asm_value.specs.declared.location.Subject.TheVariants.{Function, Domain}
use Rattle.asm_value.specs.declared.location.Location.{Location}
use Rattle.asm_value.specs.State.{StateMap}

abbrev pub is_function : ℕ → Subject → Bool
is_function f (Function g) = g == f
is_function f (Domain d) = false

-- the location is of the function with this number
abbrev pub is_of : ℕ → Location → Bool
is_of f location = is_function f location.subject

-- the locations of the function that have a value, ascending, each with that value
abbrev pub entries_of : ℕ → StateMap → List (Location × Value)
entries_of f state = filter (λ e. is_of f e.0) (finite.entries state)

-- the subject is a function that is marked, by its number
abbrev pub is_marked : List Bool → Subject → Bool
is_marked marks (Function f) = unwrap_or (slice_get marks f) false
is_marked marks (Domain d) = false
