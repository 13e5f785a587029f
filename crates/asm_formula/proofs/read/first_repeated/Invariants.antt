use Rattle.std.proofs.Common.{◌≡◌, take, drop, []}
use Rattle.asm_formula.specs.Reading.{repeated_after}
use Rattle.asm_formula.proofs.read.first_repeated.Given as goal

abbrev pub invariant-loop-at : goal.invariant-loop-at
invariant-loop-at l = repeated_after (take l.at l.names) (drop l.at l.names) ≡ repeated_after [] l.names
