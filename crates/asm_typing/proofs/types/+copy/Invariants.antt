-- The types copied so far are those that were passed.
use Rattle.std.proofs.Common.{◌≡◌, take}
use Rattle.asm_typing.proofs.types.+copy.Given as goal

abbrev pub invariant-copy_all-loop-one : goal.invariant-copy_all-loop-one
invariant-copy_all-loop-one l = l.all ≡ take l.one-index l.types
