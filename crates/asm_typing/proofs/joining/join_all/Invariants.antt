-- The join so far, joined with the rest, is the join of all.
use Rattle.std.proofs.Common.{◌≡◌, drop}
use Rattle.asm_typing.specs.Joins.{join_from, join_all}
use Rattle.asm_typing.proofs.joining.join_all.Given as goal

abbrev pub invariant-loop-one : goal.invariant-loop-one
invariant-loop-one l = join_from l.joined (drop l.one-index l.types) ≡ join_all l.types
