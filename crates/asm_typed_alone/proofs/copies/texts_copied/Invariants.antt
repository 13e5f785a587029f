-- The copies so far are those of what was passed.
use Rattle.std.proofs.Common.{◌≡◌, take}
use Rattle.asm_typed_alone.proofs.copies.texts_copied.Given as goal

abbrev pub invariant-loop-text : goal.invariant-loop-text
invariant-loop-text l = l.copies ≡ take l.text-index l.texts
