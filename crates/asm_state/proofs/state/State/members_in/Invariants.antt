-- The indexes so far are those that the entries passed say.
use Rattle.std.proofs.Common.{◌≡◌, map}
use Rattle.std.specs.List.{filter_map}
use Rattle.std.specs.Map.Iter.{deref_pair}
use Rattle.asm_value.specs.Living.{member_said}
use Rattle.asm_state.proofs.state.State.members_in.Given as goal

abbrev pub invariant-loop-location : goal.invariant-loop-location
invariant-loop-location l = l.indexes ≡ filter_map (member_said l.domain) (map deref_pair l.yielded)
