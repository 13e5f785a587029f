-- The values passed have been bound.
use Rattle.std.proofs.Common.{◌≡◌, ◌++◌, take}
use Rattle.asm_rules.proofs.values.push_all.Given as goal

abbrev pub invariant-loop-value : goal.invariant-loop-value
invariant-loop-value l = l.env ≡ l.initial.env ++ take l.value-index l.values
