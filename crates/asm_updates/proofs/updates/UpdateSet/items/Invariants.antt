-- The list has the updates so far.
use Rattle.std.proofs.Common.{◌≡◌, map}
use Rattle.std.specs.Map.Iter.{deref}
use Rattle.asm_updates.proofs.updates.UpdateSet.items.Given as goal

abbrev pub invariant-loop-update : goal.invariant-loop-update
invariant-loop-update l = l.all ≡ map deref l.yielded
