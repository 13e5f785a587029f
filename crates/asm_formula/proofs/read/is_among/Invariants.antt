use Rattle.std.proofs.Common.{◌≡◌, drop}
use Rattle.asm_formula.specs.Reading.{is_among}
use Rattle.asm_formula.proofs.read.is_among.Given as goal

abbrev pub invariant-loop-other : goal.invariant-loop-other
invariant-loop-other l = is_among (drop l.other-index l.names) l.name ≡ is_among l.names l.name
