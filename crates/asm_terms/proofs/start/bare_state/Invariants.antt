-- The constants of the domains so far are there.
use Rattle.std.proofs.Common.{◌≡◌, take}
use Rattle.std.specs.FinMap as finite
use Rattle.asm_program.specs.Initial.{with_constants}
use Rattle.asm_terms.proofs.start.bare_state.Given as goal

abbrev pub invariant-loop-at : goal.invariant-loop-at
invariant-loop-at l = l.state ≡ with_constants 0 (take l.at l.info-items) finite.empty
