use Rattle.std.proofs.Common.{◌≡◌, ◌++◌, drop, map}
use Rattle.asm_program.specs.Signatures.{range_domain}
use Rattle.asm_scope.proofs.domains.add_ranges.Given as goal

abbrev pub invariant-loop-range : goal.invariant-loop-range
invariant-loop-range l = l.domains ++ map (range_domain l.names) (drop l.range-index l.ranges) ≡ l.initial.domains ++ map (range_domain l.names) l.ranges
