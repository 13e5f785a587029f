use Rattle.std.proofs.Common.{◌≡◌, drop}
use Rattle.asm_portable.specs.Ports.{ascending}
use Rattle.asm_board.specs.Shown as spec
use Rattle.asm_showing.specs.Showing.{has_kind}
use Rattle.asm_showing.proofs.shown.defined.Given as goal

-- the functions from this one on are shown
abbrev pub invariant-loop-number : goal.invariant-loop-number
invariant-loop-number l =
    l.fields.items ≡ ascending (spec.defined (has_kind l.kinds) l.program.domains l.state l.number (drop l.number l.program.functions))
