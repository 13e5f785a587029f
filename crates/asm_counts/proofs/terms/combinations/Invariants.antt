-- The product so far is that of the domains that were passed.
use Rattle.std.proofs.Common.{◌≡◌, take}
use Rattle.asm_counts.specs.CountLevels.{combinations}
use Rattle.asm_counts.proofs.terms.combinations.Given as goal

abbrev pub invariant-loop-domain : goal.invariant-loop-domain
invariant-loop-domain l = l.count ≡ combinations l.domains (take l.domain-index l.ranges)
