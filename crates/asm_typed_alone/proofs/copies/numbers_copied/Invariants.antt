-- The copies so far are those of what was passed.
use Rattle.std.proofs.Common.{◌≡◌, take}
use Rattle.asm_typed_alone.proofs.copies.numbers_copied.Given as goal

abbrev pub invariant-loop-number : goal.invariant-loop-number
invariant-loop-number l = l.copies ≡ take l.number-index l.numbers
