-- The kinds so far are those of the types that were passed.
use Rattle.std.proofs.Common.{◌≡◌, map, take}
use Rattle.asm_typing.specs.Types.{kind_of}
use Rattle.asm_typing.proofs.operators.kinds_of.Given as goal

abbrev pub invariant-loop-one : goal.invariant-loop-one
invariant-loop-one l = l.kinds ≡ map kind_of (take l.one-index l.types)
