-- The lists so far are those of the domains passed.
use Rattle.std.proofs.Common.{◌≡◌, take}
use Rattle.asm_value.specs.Living.{members_from}
use Rattle.asm_state.proofs.state.State.listed.Given as goal

abbrev pub invariant-loop-at : goal.invariant-loop-at
invariant-loop-at l = l.members ≡ members_from l.self 0 (take l.at l.info-items)
