-- The updates of the other set that are passed have been added.
use Rattle.std.proofs.Common.{◌≡◌, map}
use Rattle.std.specs.Map.Iter.{deref}
use Rattle.asm_value.specs.UpdateSet.{add_all}
use Rattle.asm_updates.proofs.updates.UpdateSet.absorb.Given as goal

abbrev pub invariant-loop-update : goal.invariant-loop-update
invariant-loop-update l = l.self ≡ add_all l.fn.self (map deref l.yielded)
