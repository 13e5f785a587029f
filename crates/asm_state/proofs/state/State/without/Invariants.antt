-- The state so far has those of the entries passed whose functions aren't marked.
use Rattle.std.proofs.Common.{◌≡◌, not, map}
use Rattle.std.specs.FinMap as finite
use Rattle.std.specs.List.{filter}
use Rattle.std.specs.Map.Iter.{deref_pair}
use Rattle.asm_state.specs.Functions.{is_marked}
use Rattle.asm_state.proofs.Entries.{insert_all, passes}
use Rattle.asm_state.proofs.state.State.without.Given as goal

abbrev pub invariant-loop-location : goal.invariant-loop-location
invariant-loop-location l =
    l.kept ≡ insert_all finite.empty
    (filter (passes (λ location. not (is_marked l.functions location.subject)))
    (map deref_pair l.yielded))
