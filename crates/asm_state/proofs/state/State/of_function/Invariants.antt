-- The entries so far are those of the function among the entries passed.
use Rattle.std.proofs.Common.{◌≡◌, map}
use Rattle.std.specs.List.{filter}
use Rattle.std.specs.Map.Iter.{deref_pair}
use Rattle.asm_state.specs.Functions.{is_of}
use Rattle.asm_state.proofs.state.State.of_function.Given as goal

abbrev pub invariant-loop-location : goal.invariant-loop-location
invariant-loop-location l =
    map deref_pair l.entries.items ≡ filter (λ e. is_of l.function e.0) (map deref_pair l.yielded)
