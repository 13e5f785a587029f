-- The lists so far are those of the domains passed.
use Rattle.std.proofs.Common.{◌≡◌, take}
use Rattle.asm_terms.specs.Lives.{lists_after}
use Rattle.asm_terms.proofs.live.live_after.Given as goal

abbrev pub invariant-loop-at : goal.invariant-loop-at
invariant-loop-at l = l.members ≡ lists_after l.update l.live 0 (take l.at l.info-items)
