-- The copy so far has the entries passed.
use Rattle.std.proofs.Common.{◌≡◌, map}
use Rattle.std.specs.FinMap as finite
use Rattle.std.specs.Map.Iter.{deref_pair}
use Rattle.asm_state.proofs.Entries.{insert_all}
use Rattle.asm_terms.proofs.written.Written.copy.Given as goal

abbrev pub invariant-loop-location : goal.invariant-loop-location
invariant-loop-location l = l.copied ≡ insert_all finite.empty (map deref_pair l.yielded)
