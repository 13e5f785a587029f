-- The members of the domains so far.
use Rattle.std.proofs.Common.{◌≡◌, map, take}
use Rattle.asm_terms.specs.Views.{range}
use Rattle.asm_terms.proofs.evaluate.ranges_of.Given as goal

abbrev pub invariant-loop-domain : goal.invariant-loop-domain
invariant-loop-domain l = l.lists ≡ map (range l.view) (take l.domain-index l.domains)
