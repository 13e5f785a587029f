-- Updates back to a state.
use Rattle.std.specs.Prelude.{map}
use Rattle.asm_value.specs.declared.location.Update.{Update}
use Rattle.asm_value.specs.UpdateSet.{UpdateSet, items, empty, add_all}
use Rattle.asm_value.specs.State.{StateMap, value_at}

-- the update of the same location to its value in the state
abbrev pub was : StateMap → Update → Update
was state u = record { location = u.location; value = value_at state u.location }

-- one for each update of the set
abbrev pub inverse : StateMap → UpdateSet → UpdateSet
inverse state updates = add_all empty (map (was state) (items updates))
