-- A state with values written over it.
use Rattle.std.specs.Prelude.{List, [], ◌∷◌}
use Rattle.std.specs.FinMap as finite
use Rattle.asm_value.specs.declared.value.Value.{Value}
use Rattle.asm_value.specs.declared.location.Location.{Location}
use Rattle.asm_value.specs.State.{StateMap, fire_one}

abbrev pub write_all : StateMap → List (Location × Value) → StateMap
write_all state [] = state
write_all state (e ∷ es) =
    fire_one (write_all state es) (record { location = e.0; value = e.1 })

-- the value written at each location that one was written at, undef leaving it without a value; and
-- else the state's
abbrev pub overlay : StateMap → StateMap → StateMap
overlay state written = write_all state (finite.entries written)
